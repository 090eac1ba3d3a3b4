-- ln of a number whose modulus is finite and above zero is finite in both parts. Assumes nothing.
use mathlib.Core.Bool.{not}
use lib.Dec.{T}
use lib.Ieee.{Float, nan, inf, fin, binary64, fits, is_nan}
use lib.Ieee.Positive.{positive, positive-finite}
use lib.Ieee.Scale.{finite}
use Rattle.logarithm.proofs.LnFacts.{ln-finite}
use Rattle.angle.proofs.AngleFacts.{angle-number-finite}
use Rattle.roots.specs.Hypot.{hypot_of}
use Rattle.complex.specs.declared.number.Complex.{Complex}
use Rattle.complex.specs.Functions.{modulus_of, argument_of, ln_with, complex_ln_of}

-- a length that is finite has two numbers for parts
numbers : (x y : Float) → T (finite (hypot_of x y)) → T (not (is_nan x)) × T (not (is_nan y))
unfolding hypot_of is_nan
numbers nan nan h = absurd h
numbers nan (inf t) h = absurd h
numbers nan (fin t n d) h = absurd h
numbers (inf s) y h = absurd h
numbers (fin s m e) nan h = absurd h
numbers (fin s m e) (inf t) h = absurd h
numbers (fin s m e) (fin t n d) h = (tt, tt)

pub complex-ln-finite :
    (z : Complex) → T (fits binary64 z.re) → T (fits binary64 z.im) → T (fits binary64 (modulus_of z)) → T (positive (modulus_of z)) →
    T (finite (complex_ln_of z).re) × T (finite (complex_ln_of z).im)
unfolding complex_ln_of ln_with argument_of modulus_of
complex-ln-finite z R I F P =
    let n = numbers z.re z.im (positive-finite (modulus_of z) P) in
    (ln-finite (modulus_of z) F P, angle-number-finite z.im z.re I R n.1 n.0)
