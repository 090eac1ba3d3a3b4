-- The states of scale: every boundary is above zero, and a state's scale times its reciprocal is exactly 1. By computation. Assumes nothing.
use mathlib.Core.Path.{◌≡◌, refl}
use lib.Dec.{T}
use lib.Ieee.{binary64, of_bits, lt, mul, div, round, size}
use Rattle.machine.specs.Constants.{tolerance, inverse_tolerance, absolute_approximation_limit}
use Rattle.machine.specs.Small.{one}
use Rattle.recurrence.specs.State.{scale_of, reciprocal_of, boundary_of}
use Rattle.recurrence.specs.declared.state.OverflowState.{OverflowState}
use Rattle.recurrence.specs.declared.state.OverflowState.TheVariants.{NearUnder, None, NearOver}

pub boundary-positive : (s : OverflowState) → T (lt (of_bits binary64 0) (boundary_of s))
unfolding boundary_of absolute_approximation_limit of_bits lt div round size
boundary-positive NearUnder = tt
boundary-positive None = tt
boundary-positive NearOver = tt

pub scale-reciprocal : (s : OverflowState) → mul binary64 (scale_of s) (reciprocal_of s) ≡ one
unfolding scale_of reciprocal_of tolerance inverse_tolerance of_bits mul round size
scale-reciprocal NearUnder = refl
scale-reciprocal None = refl
scale-reciprocal NearOver = refl
