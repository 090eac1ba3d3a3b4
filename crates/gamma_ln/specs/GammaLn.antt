-- ln of the gamma function above zero: DGAMLN, as `gamma_ln` of src/amos/gamma_ln.rs has it; DLMF 5.11.1 and 5.5.1. Definitions only.
use Rattle.std.specs.Prelude.{Bool, cond, ◌&&◌, eqb, get_or, Float}
use Rattle.std.specs.Float.{nan, binary64}
use Rattle.std.specs.Float.Ieee.{of_bits, to_unsigned, lt, le, eq}
use Rattle.laws.specs.Operators.{◌⊕◌, ◌⊖◌, ◌⊗◌}
use Rattle.machine.specs.Constants.{gamma_ln_minimum, not_a_number}
use Rattle.machine.specs.Small.{nothing, half, one}
use Rattle.rounding.specs.Round.{round_of}
use Rattle.logarithm.specs.Ln.{ln_of}
use Rattle.gamma_ln_tables.specs.Tables.{whole_values}
use Rattle.gamma_ln.specs.declared.gamma_ln.Computed.{Computed}
use Rattle.gamma_ln.specs.Series.{series_of}
use Rattle.gamma_ln.specs.Factors.{factors_of}

-- a whole number, and at most 100.1 (DGAMLN takes a number a little below a whole one for it); the value is GLN's
unfoldable pub is_tabulated : Float → Bool
is_tabulated x = le x (of_bits binary64 0x4059066666666666) && eq (round_of x) x

unfoldable pub tabulated_of : Float → Float
tabulated_of x = get_or whole_values (to_unsigned 32 x) nan

-- ln 2π, 1.8378770664093456 (CON)
unfoldable pub ln_two_pi : Float
ln_two_pi = of_bits binary64 0x3FFD67F1C864BEB5

-- DLMF 5.11.1: z (ln z - 1) + (ln 2π - ln z) / 2 + the series, in this order
unfoldable pub stirling_of : Float → Computed
stirling_of z =
    let tail = series_of z in
    record {
      value = z ⊗ (ln_of z ⊖ one) ⊕ half ⊗ (ln_two_pi ⊖ ln_of z) ⊕ tail.sum;
      factors = 0;
      terms = tail.count;
    }

-- 7 (ZMIN) less the rounded argument, where DGAMLN has the truncated one (ZINC)
unfoldable pub shift_of : Float → Float
shift_of x = gamma_ln_minimum ⊖ round_of x

-- where the series is summed: at the argument, shifted if it is below 7 (ZDMY)
unfoldable pub series_argument_of : Float → Float
series_argument_of x = cond (lt x gamma_ln_minimum) (x ⊕ shift_of x) x

-- DLMF 5.5.1: log-gamma of x + n, less ln of the n factors from x to x + n - 1 (50)
unfoldable pub shifted_of : Float → Computed
shifted_of x =
    let above = stirling_of (x ⊕ shift_of x) in
    let n = to_unsigned 32 (shift_of x) in
    let below = factors_of x n in
    cond (eqb n 0) above (record { value = above.value ⊖ ln_of below.product; factors = below.count; terms = above.terms })

-- by the series, shifted below 7
abbrev pub summed_of : Float → Computed
summed_of x = cond (lt x gamma_ln_minimum) (shifted_of x) (stirling_of x)

-- of 0 or less it is no number; of a not-a-number and of infinity it is what the formula gives
unfoldable pub gamma_ln_of : Float → Computed
gamma_ln_of x =
    cond (le x nothing) (record { value = not_a_number; factors = 0; terms = 0 })
    (cond (is_tabulated x) (record { value = tabulated_of x; factors = 0; terms = 0 }) (summed_of x))
