-- How it is computed, not what: what a product that begins with a zero can be. Definitions only.
use Rattle.std.specs.Prelude.{◌≡◌, Bool, ◌⊎◌, Float}
use Rattle.std.specs.Float.{nan}
use Rattle.laws.proofs.Zero.{zero_of}

-- no number, or a zero of either sign
abbrev pub Nought : Float → Type 0
Nought x = (x ≡ nan) ⊎ ((s : Bool) × (x ≡ zero_of s))
