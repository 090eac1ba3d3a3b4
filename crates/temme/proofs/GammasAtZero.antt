-- The reciprocal gammas at the fraction 0: each is 1, and so is their mean. Assumes nothing.
use mathlib.Core.Path.{◌≡◌, refl, ap, ◌∙◌}
use mathlib.Core.Bool.{Bool, true, false}
use lib.Dec.{T}
use lib.Ieee.{Float, binary64, of_bits, fits, neg, add, mul, div, lt, le, eq}
use Rattle.gamma_ln.specs.GammaLn.{gamma_ln_of}
use Rattle.gamma_ln.proofs.AtOne.{log-gamma-at-one}
use Rattle.exponential.specs.Exp.{exp_of}
use Rattle.exponential.proofs.ExpFacts.{exp-at-minus-zero}
use Rattle.temme.specs.declared.gammas.Gammas.{Gammas}
use Rattle.temme.specs.Difference.{difference_of}
use Rattle.temme.specs.Gammas.{one_over_sinc, difference_quotient, gammas_of}
use Rattle.machine.specs.Magnitude.{magnitude_of}
use Rattle.machine.specs.Small.{half, one}
use Rattle.laws.proofs.Zero.{zero_of, zero_is}

one-plus : (s : Bool) → add binary64 one (zero_of s) ≡ one
unfolding of_bits add
one-plus true = refl
one-plus false = refl

sinc-at-zero : (s : Bool) → one_over_sinc (zero_of s) ≡ one
unfolding one_over_sinc of_bits eq
sinc-at-zero true = refl
sinc-at-zero false = refl

plus-at-zero : (s : Bool) → exp_of (neg (gamma_ln_of (add binary64 one (zero_of s))).value) ≡ one
unfolding of_bits
plus-at-zero s = rw (one-plus s, log-gamma-at-one) exp-at-minus-zero

minus-at-zero : div binary64 one (mul binary64 one one) ≡ one
unfolding of_bits div mul
minus-at-zero = refl

mean-at-zero : mul binary64 (add binary64 one one) half ≡ one
unfolding of_bits add mul
mean-at-zero = refl

quotient-at-zero : (s : Bool) (w : Float) → difference_quotient (zero_of s) w one one ≡ difference_of w
unfolding difference_quotient magnitude_of of_bits le lt eq
quotient-at-zero true w = refl
quotient-at-zero false w = refl

abbrev pub at_zero : Float → Gammas
at_zero w = record { one_over_sinc = one; plus = one; minus = one; difference = difference_of w; mean = one }

signed : (s : Bool) (w : Float) → gammas_of (zero_of s) w ≡ at_zero w
unfolding gammas_of
signed s w = rw (plus-at-zero s, sinc-at-zero s, minus-at-zero, mean-at-zero, quotient-at-zero s w)

pub gammas-at-zero : (v w : Float) → T (fits binary64 v) → eq v (of_bits binary64 0) ≡ true → gammas_of v w ≡ at_zero w
gammas-at-zero v w F h = let a = zero_is v F h in ap (λ (x : Float). gammas_of x w) a.1 ∙ signed a.0 w
