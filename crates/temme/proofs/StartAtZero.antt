-- The terms that start the sum where e^μ is (1, ±0) and the reciprocal gammas are 1, as at the fraction 0: what their divisions give there. Assumes nothing.
use mathlib.Core.Path.{◌≡◌, refl, sym, ap, ◌∙◌}
use mathlib.Core.Bool.{Bool, true, false}
use lib.Dec.{T}
use lib.Ieee.{Float, binary64, of_bits, fits, add, sub, mul, div, eq}
use Rattle.laws.proofs.Zero.{zero_of, zero_is, one-is}
use Rattle.complex.specs.declared.number.Complex.{Complex}
use Rattle.complex.specs.Arithmetic.{times_real, over_real, norm_square_of, quotient_of, real_over}
use Rattle.machine.specs.Small.{half, one}

neg-signed : (t : Bool) → over_real (times_real (record { re = one; im = zero_of t }) half) one ≡ record { re = half; im = zero_of t }
unfolding over_real times_real of_bits mul div
neg-signed true = refl
neg-signed false = refl

pos-signed : (t : Bool) → over_real (real_over half (record { re = one; im = zero_of t })) one ≡ record { re = half; im = of_bits binary64 0 }
unfolding over_real real_over quotient_of norm_square_of of_bits add sub mul div
pos-signed true = refl
pos-signed false = refl

module _ (exp : Complex) (gamma : Float) (F : T (fits binary64 exp.re)) (G : T (fits binary64 exp.im)) (H : T (fits binary64 gamma)) (re : eq exp.re one ≡ true) (im : eq exp.im (of_bits binary64 0) ≡ true) (g : eq gamma one ≡ true) where
  sign : (t : Bool) × (exp.im ≡ zero_of t)
  sign = zero_is exp.im G im

  plain : exp ≡ record { re = one; im = zero_of sign.0 }
  plain = λ i. record { re = one-is exp.re F re i; im = sign.1 i }

  pub neg-at-zero : over_real (times_real exp half) gamma ≡ record { re = half; im = exp.im }
  neg-at-zero = ap (λ (x : Float). over_real (times_real exp half) x) (one-is gamma H g) ∙ ap (λ (x : Complex). over_real (times_real x half) one) plain ∙ neg-signed sign.0 ∙ (λ i. record { re = half; im = sym sign.1 i })

  pub pos-at-zero : over_real (real_over half exp) gamma ≡ record { re = half; im = of_bits binary64 0 }
  pos-at-zero = ap (λ (x : Float). over_real (real_over half exp) x) (one-is gamma H g) ∙ ap (λ (x : Complex). over_real (real_over half x) one) plain ∙ pos-signed sign.0
