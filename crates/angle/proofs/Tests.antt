-- What the test `x != x` says of a value: a not-a-number, or a number. Assumes nothing.
use mathlib.Core.Path.{◌≡◌, sym, ap, subst}
use mathlib.Core.Bool.{true, false}
use lib.Dec.{T}
use lib.Ieee.{Float, ne, is_nan}
use lib.Ieee.Bits.{is_false}
use lib.Ieee.Compare.{differs_from_itself}
use Rattle.machine.proofs.NotANumber.{equals_itself}

pub not-a-number : (x : Float) → ne x x ≡ true → is_nan x ≡ true
unfolding is_nan
not-a-number x h = ap is_nan (differs_from_itself x (subst T (sym h) tt))

pub number : (x : Float) → ne x x ≡ false → is_nan x ≡ false
number x h = is_false (is_nan x) (equals_itself x h)
