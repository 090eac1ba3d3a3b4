-- The reciprocal gammas of 1 + ν and 1 - ν, their mean and their difference quotient; w is ν². ZBKNU, labels 10 to 50: FC, T2, T1, G1 and
-- G2; `one_over_sinc` and `compute_small_z_power_series` of src/amos/right_half_plane.rs. Definitions only.
use Rattle.std.specs.Prelude.{cond, Float}
use Rattle.std.specs.Float.{binary64}
use Rattle.std.specs.Float.Ieee.{of_bits, neg, le, eq}
use Rattle.laws.specs.Operators.{◌⊕◌, ◌⊖◌, ◌⊗◌, ◌⊘◌}
use Rattle.machine.specs.Small.{nothing, half, one, two}
use Rattle.exponential.specs.Exp.{exp_of}
use Rattle.circular.specs.SinPi.{sin_pi_of}
use Rattle.machine.specs.Magnitude.{magnitude_of}
use Rattle.gamma_ln.specs.GammaLn.{gamma_ln_of}
use Rattle.temme.specs.Difference.{difference_of}
use Rattle.temme.specs.declared.gammas.Gammas.{Gammas}

-- FC: πν / sin πν, and 1 at 0. It is Γ(1-ν) Γ(1+ν), DLMF 5.5.3
unfoldable pub one_over_sinc : Float → Float
one_over_sinc v = cond (eq v nothing) one (v ⊗ of_bits binary64 0x400921FB54442D18 ⊘ sin_pi_of v)

-- G1: the series for |ν| to 0.1, and else the quotient itself, label 40
unfoldable pub difference_quotient : Float → Float → Float → Float → Float
difference_quotient v w plus minus =
    cond (le (magnitude_of v) (of_bits binary64 0x3FB999999999999A)) (difference_of w) ((minus ⊖ plus) ⊘ (two ⊗ v))

-- plus is T2 = 1/Γ(1+ν), minus T1 = 1/Γ(1-ν), mean G2
unfoldable pub gammas_of : Float → Float → Gammas
gammas_of v w =
    let sinc = one_over_sinc v in
    let plus = exp_of (neg (gamma_ln_of (one ⊕ v)).value) in
    let minus = one ⊘ (plus ⊗ sinc) in
    record {
      one_over_sinc = sinc;
      plus = plus;
      minus = minus;
      difference = difference_quotient v w plus minus;
      mean = (minus ⊕ plus) ⊗ half;
    }
