-- What a bound on a magnitude says of the value: it is a number without a minus sign below the bound, or the opposite of one. Assumes nothing.
use mathlib.Core.Path.{◌≡◌, refl}
use mathlib.Core.Bool.{true, false}
use mathlib.Core.Logic.{◌⊎◌, inl, inr}
use lib.Dec.{T}
use lib.Ieee.{Float, nan, inf, fin, neg, lt, le, eq}
use lib.Ieee.Positive.{num, den}
use Rattle.laws.proofs.Relative.{nonnegative}
use Rattle.laws.proofs.Bound.{Up, up_of, up-of-le}
use Rattle.machine.specs.Magnitude.{magnitude_of}

pub magnitude-bare : (z : Float) → T (nonnegative z) → magnitude_of z ≡ z
unfolding magnitude_of
magnitude-bare nan p = absurd p
magnitude-bare (inf s) p = absurd p
magnitude-bare (fin true m e) p = absurd p
magnitude-bare (fin false m e) p = refl

pub magnitude-up : (v b : Float) → T (nonnegative b) → T (le (magnitude_of v) b) → (u : Float) × ((v ≡ u) ⊎ (v ≡ neg u)) × Up u (num b) (den b)
unfolding magnitude_of lt le eq neg
magnitude-up v nan p h = absurd p
magnitude-up v (inf s) p h = absurd p
magnitude-up v (fin true n d) p h = absurd p
magnitude-up nan (fin false n d) p h = absurd h
magnitude-up (inf s) (fin false n d) p h = absurd h
magnitude-up (fin false m e) (fin false n d) p h = (fin false m e, inl refl, up-of-le (fin false m e) (fin false n d) tt h (up_of (fin false n d) tt))
magnitude-up (fin true m e) (fin false n d) p h = (fin false m e, inr refl, up-of-le (fin false m e) (fin false n d) tt h (up_of (fin false n d) tt))
