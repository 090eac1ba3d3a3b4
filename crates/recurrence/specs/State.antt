-- The three states of scale of a climb, and what each fixes: ZBKNU's KFLAG, with CSSR, CSRR and BRY (zbknu.f); `OverflowState` of src/amos/limits.rs.
-- Definitions only.
use Rattle.std.specs.Prelude.{ℕ, Float}
use Rattle.std.specs.Float.{binary64}
use Rattle.std.specs.Float.Ieee.{of_bits, mul, div}
use Rattle.machine.specs.Constants.{tolerance, inverse_tolerance, absolute_approximation_limit}
use Rattle.machine.specs.Small.{nothing, one}
use Rattle.recurrence.specs.declared.state.OverflowState.{OverflowState}
use Rattle.recurrence.specs.declared.state.OverflowState.TheVariants.{NearUnder, None, NearOver}

-- the largest f64
abbrev pub largest : Float
largest = of_bits binary64 0x7FEFFFFFFFFFFFFF

-- 2^52, 1, 2^-52 (CSSR)
unfoldable pub scale_of : OverflowState → Float
scale_of NearUnder = inverse_tolerance
scale_of None = one
scale_of NearOver = tolerance

-- 2^-52, 1, 2^52 (CSRR)
unfoldable pub reciprocal_of : OverflowState → Float
reciprocal_of NearUnder = tolerance
reciprocal_of None = one
reciprocal_of NearOver = inverse_tolerance

-- A, 1/A, the largest f64 (BRY)
unfoldable pub boundary_of : OverflowState → Float
boundary_of NearUnder = absolute_approximation_limit
boundary_of None = div binary64 one absolute_approximation_limit
boundary_of NearOver = largest

-- A on the scale of near underflow, 1/A, infinity
unfoldable pub limit_of : OverflowState → Float
limit_of NearUnder = mul binary64 absolute_approximation_limit inverse_tolerance
limit_of None = div binary64 one absolute_approximation_limit
limit_of NearOver = div binary64 one nothing

-- one place on
unfoldable pub moved_on : OverflowState → OverflowState
moved_on NearUnder = None
moved_on None = NearOver
moved_on NearOver = NearOver

-- its place among the three
unfoldable pub place_of : OverflowState → ℕ
place_of NearUnder = 0
place_of None = 1
place_of NearOver = 2
