-- Exponential, hyperbolic cosine and sine at the zeros of either sign, where their steps need not be done. Assumes nothing.
use mathlib.Core.Path.{◌≡◌, refl, sym, ap, subst}
use mathlib.Core.Bool.{Bool, true, false}
use lib.Dec.{T}
use lib.Ieee.{binary64, unlike, fits, of_bits, mul, neg, eq}
use Rattle.laws.proofs.Zero.{zero_of, zero_is}
use Rattle.machine.specs.Small.{nothing, one}
use Rattle.exponential.specs.Exp.{exp_of}
use Rattle.exponential.specs.Cosh.{cosh_of}
use Rattle.exponential.specs.Sinh.{sinh_of}
use Rattle.exponential.proofs.ExpFacts.{exp-at-zero, exp-at-minus-zero}
use Rattle.exponential.proofs.CoshFacts.{cosh-at-zero}
use Rattle.exponential.proofs.SinhFacts.{sinh-at-zero}
use Rattle.circular.specs.Sin.{sin_of}
use Rattle.circular.specs.Cos.{cos_of}
use Rattle.circular.proofs.Zeros.{sin-zero, sin-minus-zero, cos-zero}
use Rattle.complex.specs.declared.number.Complex.{Complex}
use Rattle.complex.specs.Functions.{polar_of, complex_exp_of, complex_cosh_of, complex_sinh_of}

exp-zero : (s : Bool) → exp_of (zero_of s) ≡ one
unfolding of_bits neg
exp-zero false = exp-at-zero
exp-zero true = exp-at-minus-zero

cosh-zero : (s : Bool) → cosh_of (zero_of s) ≡ one
unfolding of_bits cosh_of
cosh-zero false = cosh-at-zero
cosh-zero true = cosh-at-zero

sinh-zero : (s : Bool) → sinh_of (zero_of s) ≡ zero_of s
unfolding of_bits sinh_of neg
sinh-zero false = sinh-at-zero
sinh-zero true = ap neg sinh-at-zero

cosine : (s : Bool) → cos_of (zero_of s) ≡ one
unfolding of_bits cos_of
cosine false = cos-zero
cosine true = cos-zero

sine : (s : Bool) → sin_of (zero_of s) ≡ zero_of s
unfolding of_bits
sine false = sin-zero
sine true = sin-minus-zero

one-nought : (t : Bool) → mul binary64 one (zero_of t) ≡ zero_of t
unfolding mul of_bits
one-nought false = refl
one-nought true = refl

nought-one : (t : Bool) → mul binary64 (zero_of t) one ≡ zero_of t
unfolding mul of_bits
nought-one false = refl
nought-one true = refl

one-one : mul binary64 one one ≡ one
unfolding mul of_bits
one-one = refl

two-noughts : (s t : Bool) → mul binary64 (zero_of s) (zero_of t) ≡ zero_of (unlike s t)
unfolding mul
two-noughts s t = refl

module _ (s t : Bool) where
  abbrev zero : Complex
  zero = record { re = zero_of s; im = zero_of t }

  pub exp-zeros : complex_exp_of zero ≡ record { re = one; im = zero_of t }
  unfolding complex_exp_of polar_of
  exp-zeros = rw (exp-zero s, cosine t, sine t, one-one, one-nought t)

  cosh-zeros : complex_cosh_of zero ≡ record { re = one; im = zero_of (unlike s t) }
  unfolding complex_cosh_of
  cosh-zeros = rw (cosh-zero s, sinh-zero s, cosine t, sine t, one-one, two-noughts s t)

  sinh-zeros : complex_sinh_of zero ≡ record { re = zero_of s; im = zero_of t }
  unfolding complex_sinh_of
  sinh-zeros = rw (cosh-zero s, sinh-zero s, cosine t, sine t, nought-one s, one-nought t)

-- ---- as the code has it
pub record AtZero (z : Complex) : Type 0 where
  pub exp : complex_exp_of z ≡ record { re = one; im = z.im }
  pub cosh : complex_cosh_of z ≡ record { re = one; im = mul binary64 z.re z.im }
  pub sinh : complex_sinh_of z ≡ z

signed : (s t : Bool) → AtZero (record { re = zero_of s; im = zero_of t })
unfolding mul
signed s t = record { exp = exp-zeros s t; cosh = cosh-zeros s t; sinh = sinh-zeros s t }

pub at_zero : (z : Complex) → T (fits binary64 z.re) → T (fits binary64 z.im) → eq z.re nothing ≡ true → eq z.im nothing ≡ true → AtZero z
at_zero z p q g h =
    let a = zero_is z.re p g in
    let b = zero_is z.im q h in
    subst AtZero (λ i. record { re = sym a.1 i; im = sym b.1 i }) (signed a.0 b.0)
