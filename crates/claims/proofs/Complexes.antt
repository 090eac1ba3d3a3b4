-- Complex arithmetic, as pairs of f64 parts: the definitions that the contracts of crate complex name, written out. Each ⊕, ⊖, ⊗ and ⊘ is one f64 operation,
-- rounded once. Assumes nothing.
use mathlib.Core.Path.{◌≡◌, refl}
use lib.Ieee.{Float}
use Rattle.laws.specs.Operators.{◌⊕◌, ◌⊖◌, ◌⊗◌, ◌⊘◌}
use Rattle.laws.specs.Iterate.{iterate}
use Rattle.machine.specs.Small.{nothing, one, two}
use Rattle.roots.specs.Hypot.{hypot_of}
use Rattle.exponential.specs.Exp.{exp_of}
use Rattle.exponential.specs.Sinh.{sinh_of}
use Rattle.exponential.specs.Cosh.{cosh_of}
use Rattle.logarithm.specs.Ln.{ln_of}
use Rattle.circular.specs.Sin.{sin_of}
use Rattle.circular.specs.Cos.{cos_of}
use Rattle.angle.specs.Angle.{angle_of}
use Rattle.complex.specs.declared.number.Complex.{Complex}
use Rattle.complex.specs.Arithmetic.{plus_of, minus_of, product_of, norm_square_of, quotient_of, times_real, over_real, plus_real, real_over}
use Rattle.complex.specs.Functions.{modulus_of, argument_of, polar_of, ln_with, complex_ln_of, complex_exp_of, complex_cosh_of, complex_sinh_of, at_half_angle}
use Rattle.complex.specs.Power.{power_of}

pub record OfComplex : Type 0 where
  pub product : (z w : Complex) → product_of z w ≡ record { re = z.re ⊗ w.re ⊖ z.im ⊗ w.im; im = z.re ⊗ w.im ⊕ z.im ⊗ w.re }
  -- by the conjugate over c² + d²
  pub quotient :
      (z w : Complex) → let n = w.re ⊗ w.re ⊕ w.im ⊗ w.im in
      quotient_of z w ≡ record { re = (z.re ⊗ w.re ⊕ z.im ⊗ w.im) ⊘ n; im = (z.im ⊗ w.re ⊖ z.re ⊗ w.im) ⊘ n }
  pub sum : (z w : Complex) → plus_of z w ≡ record { re = z.re ⊕ w.re; im = z.im ⊕ w.im }
  pub difference : (z w : Complex) → minus_of z w ≡ record { re = z.re ⊖ w.re; im = z.im ⊖ w.im }
  -- a real factor or divisor part by part, a real term to the real part alone, a real number over a complex one as (a, 0)
  pub times-real : (z : Complex) (t : Float) → times_real z t ≡ record { re = z.re ⊗ t; im = z.im ⊗ t }
  pub over-real : (z : Complex) (t : Float) → over_real z t ≡ record { re = z.re ⊘ t; im = z.im ⊘ t }
  pub plus-real : (z : Complex) (t : Float) → plus_real z t ≡ record { re = z.re ⊕ t; im = z.im }
  pub real-over : (a : Float) (z : Complex) → real_over a z ≡ quotient_of (record { re = a; im = nothing }) z
  pub modulus : (z : Complex) → modulus_of z ≡ hypot_of z.re z.im
  pub ln : (z : Complex) → complex_ln_of z ≡ record { re = ln_of (hypot_of z.re z.im); im = angle_of z.im z.re }
  pub exp : (z : Complex) → complex_exp_of z ≡ record { re = exp_of z.re ⊗ cos_of z.im; im = exp_of z.re ⊗ sin_of z.im }
  pub cosh : (z : Complex) → complex_cosh_of z ≡ record { re = cosh_of z.re ⊗ cos_of z.im; im = sinh_of z.re ⊗ sin_of z.im }
  pub sinh : (z : Complex) → complex_sinh_of z ≡ record { re = sinh_of z.re ⊗ cos_of z.im; im = cosh_of z.re ⊗ sin_of z.im }
  -- sqrt from the root of the modulus and half the angle
  pub sqrt : (root angle : Float) → at_half_angle root angle ≡ record { re = root ⊗ cos_of (angle ⊘ two); im = root ⊗ sin_of (angle ⊘ two) }
  -- a power i is i products in a row, from 1
  pub power-none : (z : Complex) → power_of z 0 ≡ record { re = one; im = nothing }
  pub power-next : (z : Complex) → power_of z 2 ≡ product_of (product_of (record { re = one; im = nothing }) z) z

pub of-complex : OfComplex
unfolding product_of norm_square_of quotient_of plus_of minus_of times_real over_real plus_real real_over modulus_of argument_of polar_of ln_with complex_ln_of complex_exp_of complex_cosh_of complex_sinh_of at_half_angle power_of iterate
of-complex = record {
  product = λ z w. refl;
  quotient = λ z w. refl;
  sum = λ z w. refl;
  difference = λ z w. refl;
  times-real = λ z t. refl;
  over-real = λ z t. refl;
  plus-real = λ z t. refl;
  real-over = λ a z. refl;
  modulus = λ z. refl;
  ln = λ z. refl;
  exp = λ z. refl;
  cosh = λ z. refl;
  sinh = λ z. refl;
  sqrt = λ root angle. refl;
  power-none = λ z. refl;
  power-next = λ z. refl;
}
