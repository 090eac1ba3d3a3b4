-- The sign of x is taken off and put back: sinh is odd and cosh is even, not-a-numbers, infinities and both zeros included. Assumes nothing.
use mathlib.Core.Path.{◌≡◌, refl, sym, ap}
use mathlib.Core.Bool.{true, false, cond}
use lib.Ieee.{Float, nan, inf, fin, neg, lt, le, ne, eq, of_bits}
use Rattle.laws.proofs.Sign.{neg-neg}
use Rattle.laws.proofs.Value.{sign, bare}
use Rattle.exponential.specs.Exp.{limit, half_exp_far}
use Rattle.exponential.specs.Sinh.{sinh_magnitude, sinh_of}
use Rattle.exponential.specs.Cosh.{cosh_magnitude, cosh_of}

sinh-nan : sinh_magnitude nan ≡ nan
unfolding sinh_magnitude half_exp_far lt le ne limit eq
sinh-nan = refl

sinh-infinity : sinh_magnitude (inf false) ≡ inf false
unfolding sinh_magnitude half_exp_far lt le ne limit of_bits eq
sinh-infinity = refl

cosh-nan : cosh_magnitude nan ≡ nan
unfolding cosh_magnitude half_exp_far lt le ne limit eq
cosh-nan = refl

cosh-infinity : cosh_magnitude (inf false) ≡ inf false
unfolding cosh_magnitude half_exp_far lt le ne limit of_bits eq
cosh-infinity = refl

pub sinh-by-sign : (x : Float) → sinh_of x ≡ cond (sign x) (neg (sinh_magnitude (bare x))) (sinh_magnitude (bare x))
unfolding sinh_of neg
sinh-by-sign nan = sym sinh-nan
sinh-by-sign (inf false) = sym sinh-infinity
sinh-by-sign (inf true) = sym (ap neg sinh-infinity)
sinh-by-sign (fin s m e) = refl

pub cosh-by-magnitude : (x : Float) → cosh_of x ≡ cosh_magnitude (bare x)
unfolding cosh_of
cosh-by-magnitude nan = sym cosh-nan
cosh-by-magnitude (inf s) = sym cosh-infinity
cosh-by-magnitude (fin s m e) = refl

pub sinh-odd : (x : Float) → sinh_of (neg x) ≡ neg (sinh_of x)
unfolding sinh_of neg
sinh-odd nan = refl
sinh-odd (inf s) = refl
sinh-odd (fin false m e) = refl
sinh-odd (fin true m e) = sym (neg-neg (sinh_magnitude (fin false m e)))

pub cosh-even : (x : Float) → cosh_of (neg x) ≡ cosh_of x
unfolding cosh_of neg
cosh-even nan = refl
cosh-even (inf s) = refl
cosh-even (fin s m e) = refl
