-- The functions of a complex number, by their real formulas: the scope's section Arithmetic, after num's complex::Complex. In Algorithm 644
-- the modulus is XZABS, ln XZLOG, the root XZSQRT, e^z XZEXP, cosh and sinh ZSHCH. Definitions only.
-- A function of the modulus and the angle is defined on these two first: a caller may have them already.
use Rattle.std.specs.Prelude.{Float}
use Rattle.laws.specs.Operators.{◌⊗◌, ◌⊘◌}
use Rattle.machine.specs.Small.{one, two}
use Rattle.exponential.specs.Exp.{exp_of}
use Rattle.exponential.specs.Cosh.{cosh_of}
use Rattle.exponential.specs.Sinh.{sinh_of}
use Rattle.logarithm.specs.Ln.{ln_of}
use Rattle.circular.specs.Sin.{sin_of}
use Rattle.circular.specs.Cos.{cos_of}
use Rattle.angle.specs.Angle.{angle_of}
use Rattle.roots.specs.Hypot.{hypot_of}
use Rattle.complex.specs.declared.number.Complex.{Complex}
use Rattle.complex.specs.Arithmetic.{plus_of, conjugate_of, times_real}
unfoldable pub use Rattle.complex.specs.Power.{power_of}

-- ---- of the modulus and the angle
unfoldable pub modulus_of : Complex → Float
modulus_of z = hypot_of z.re z.im

unfoldable pub argument_of : Complex → Float
argument_of z = angle_of z.im z.re

-- the point at the distance r and the angle h
unfoldable pub polar_of : Float → Float → Complex
polar_of r h = record { re = r ⊗ cos_of h; im = r ⊗ sin_of h }

-- DLMF 4.2(i)
unfoldable pub ln_with : Float → Float → Complex
ln_with modulus angle = record { re = ln_of modulus; im = angle }

unfoldable pub complex_ln_of : Complex → Complex
complex_ln_of z = ln_with (modulus_of z) (argument_of z)

-- the square root from the root of the modulus and the angle; half the angle is its quotient by 2
unfoldable pub at_half_angle : Float → Float → Complex
at_half_angle root angle = polar_of root (angle ⊘ two)

-- 2/z (ZBKNU's RZ, src/amos/utils.rs two_over_z_safe): the conjugate times t = 1/|z|, added to itself, times t
unfoldable pub two_over_with : Complex → Float → Complex
two_over_with z modulus =
    let t = one ⊘ modulus in
    let s = times_real (conjugate_of z) t in
    times_real (plus_of s s) t

-- ---- exponential and hyperbolic: DLMF 4.2(iii), 4.35(iv)
unfoldable pub complex_exp_of : Complex → Complex
complex_exp_of z = polar_of (exp_of z.re) z.im

unfoldable pub complex_cosh_of : Complex → Complex
complex_cosh_of z = record { re = cosh_of z.re ⊗ cos_of z.im; im = sinh_of z.re ⊗ sin_of z.im }

unfoldable pub complex_sinh_of : Complex → Complex
complex_sinh_of z = record { re = sinh_of z.re ⊗ cos_of z.im; im = cosh_of z.re ⊗ sin_of z.im }
