-- What the orders of one visit share: ZSERI before 20 (`i_power_series` of src/amos/power_series.rs), over the n orders v, v + 1, .. of I
-- at z. v is the lowest order (FNU), m the modulus of z (AZ). Turned, (z/2)² has the opposite sign: the series is then that of J, DLMF
-- 10.2.2. Definitions only.
use Rattle.std.specs.Prelude.{Bool, true, false, ℕ, pos, Float}
use Rattle.std.specs.Float.{binary64}
use Rattle.std.specs.Float.Ieee.{of_int, lt}
use Rattle.laws.specs.Operators.{◌⊕◌, ◌⊗◌}
use Rattle.machine.specs.Constants.{underflow_limit}
use Rattle.machine.specs.Small.{half, one}
use Rattle.roots.specs.Sqrt.{sqrt_of}
use Rattle.complex.specs.declared.number.Complex.{Complex}
use Rattle.complex.specs.Arithmetic.{zero_pair, opposite_of, times_real}
use Rattle.complex.specs.Functions.{power_of, two_over_with, complex_ln_of}
use Rattle.series_step.specs.declared.setting.Setting.{Setting}

-- ---- the orders v + k (DFNU), and each plus one (FNUP)
unfoldable pub order_at : Float → ℕ → Float
order_at v k = v ⊕ of_int binary64 (pos k)

unfoldable pub order_plus_one : Float → ℕ → Float
order_plus_one v k = order_at v k ⊕ one

-- ---- squares of z/2 (HZ)
-- the square of |z/2|, as `abs_half_z_sq` of the Rust text has it (ACZ, which ZSERI takes as the modulus of CZ)
unfoldable pub half_square : Float → Float
half_square m = let h = m ⊗ half in h ⊗ h

-- the root of the underflow limit (RTR1), 4.7170688552396617e-153
unfoldable pub square_limit : Float
square_limit = sqrt_of underflow_limit

-- h squared, or 0 where that would underflow (CZ)
unfoldable pub square_if : Bool → Complex → Complex
square_if true h = power_of h 2
square_if false h = zero_pair

unfoldable pub square_of : Float → Complex → Complex
square_of m h = square_if (lt square_limit m) h

unfoldable pub turned_of : Bool → Complex → Complex
turned_of true w = opposite_of w
turned_of false w = w

-- ---- all of it: also 2/z (RZ) and ln(z/2) (CK)
unfoldable pub setting_of : Bool → Bool → Float → Complex → Float → Setting
setting_of scaled turned v z m =
    let h = times_real z half in
    record {
      order = v;
      re = z.re;
      scaled = scaled;
      turned = turned;
      half_z_sq = turned_of turned (square_of m h);
      abs_half_z_sq = half_square m;
      two_over_z = two_over_with z m;
      ln_half_z = complex_ln_of h;
    }
