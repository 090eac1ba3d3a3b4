-- Which pairs are lost: the three examples of the scope, by computation, and no pair with a not-a-number part. Assumes nothing.
use mathlib.Core.Path.{◌≡◌, refl}
use mathlib.Core.Bool.{Bool, true, false, ◌&&◌}
use lib.Ieee.{Float, nan, inf, fin, binary64, of_bits, lt, le, mul}
use Rattle.machine.specs.Constants.{absolute_approximation_limit, inverse_tolerance}
use Rattle.machine.specs.Magnitude.{magnitude_of}
use Rattle.complex.specs.Lost.{lost_beside, lost_of}

pub zero-not-lost : lost_of (record { re = of_bits binary64 0; im = of_bits binary64 0 }) ≡ false
unfolding lost_of lost_beside magnitude_of absolute_approximation_limit inverse_tolerance of_bits lt le mul
zero-not-lost = refl

pub one-not-lost : lost_of (record { re = of_bits binary64 0x3FF0000000000000; im = of_bits binary64 0 }) ≡ false
unfolding lost_of lost_beside magnitude_of absolute_approximation_limit inverse_tolerance of_bits lt le mul
one-not-lost = refl

-- 2^-980
pub small-lost : lost_of (record { re = of_bits binary64 0x02B0000000000000; im = of_bits binary64 0x02B0000000000000 }) ≡ true
unfolding lost_of lost_beside magnitude_of absolute_approximation_limit inverse_tolerance of_bits lt le mul
small-lost = refl

-- ---- a not-a-number part
lt-nan : (x : Float) → lt x nan ≡ false
unfolding lt
lt-nan nan = refl
lt-nan (inf s) = refl
lt-nan (fin s m e) = refl

nan-lt : (y : Float) → lt nan y ≡ false
unfolding lt
nan-lt y = refl

and-false : (b : Bool) → (b && false) ≡ false
and-false true = refl
and-false false = refl

beside-nan : (a : Float) → lost_beside a nan ≡ false
unfolding lost_beside
beside-nan a = rw nan-lt (and-false (le a absolute_approximation_limit))

nan-beside : (b : Float) → lost_beside nan b ≡ false
unfolding lost_beside le lt
nan-beside b = refl

pub nan-re-not-lost : (y : Float) → lost_of (record { re = nan; im = y }) ≡ false
unfolding lost_of magnitude_of
nan-re-not-lost y = rw lt-nan (nan-beside (magnitude_of y))

pub nan-im-not-lost : (x : Float) → lost_of (record { re = x; im = nan }) ≡ false
unfolding lost_of magnitude_of lt
nan-im-not-lost x = beside-nan (magnitude_of x)
