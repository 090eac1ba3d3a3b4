-- What a comparison tells of a value, infinities included: where it failed and the value is no not-a-number, the other order holds. Assumes nothing.
use mathlib.Core.Path.{◌≡◌, subst}
use mathlib.Core.Bool.{true, false, not}
use lib.Dec.{T}
use lib.Ieee.{Float, nan, inf, fin, lt, le, is_nan}
use lib.Ieee.Scale.{finite}
use Rattle.laws.proofs.Order.{not-lt→le}

pub not-above : (c x : Float) → T (finite c) → T (not (is_nan x)) → lt c x ≡ false → T (le x c)
unfolding is_nan lt le
not-above nan x C n l = absurd C
not-above (inf s) x C n l = absurd C
not-above (fin s m e) nan C n l = absurd n
not-above (fin s m e) (inf true) C n l = tt
not-above (fin s m e) (inf false) C n l = absurd (subst T l tt)
not-above (fin s m e) (fin t k d) C n l = not-lt→le (fin s m e) (fin t k d) tt tt l

pub not-below : (c x : Float) → T (finite c) → T (not (is_nan x)) → lt x c ≡ false → T (le c x)
unfolding is_nan lt le
not-below nan x C n l = absurd C
not-below (inf s) x C n l = absurd C
not-below (fin s m e) nan C n l = absurd n
not-below (fin s m e) (inf true) C n l = absurd (subst T l tt)
not-below (fin s m e) (inf false) C n l = tt
not-below (fin s m e) (fin t k d) C n l = not-lt→le (fin t k d) (fin s m e) tt tt l

-- what is at most something is no not-a-number
pub ordered : (x c : Float) → T (le x c) → T (not (is_nan x))
unfolding is_nan le lt
ordered nan c h = h
ordered (inf s) c h = tt
ordered (fin s m e) c h = tt
