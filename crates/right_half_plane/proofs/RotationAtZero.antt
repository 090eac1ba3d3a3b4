-- |cos(π fraction)| is 1 at the fraction 0 of either sign. Assumes nothing.
use mathlib.Core.Path.{◌≡◌, refl, ap, ◌∙◌}
use mathlib.Core.Bool.{Bool, true, false}
use lib.Dec.{T}
use lib.Ieee.{Float, binary64, of_bits, fits, eq}
use Rattle.circular.specs.CosPi.{cos_pi_of}
use Rattle.circular.proofs.Zeros.{cos_pi-zero}
use Rattle.machine.specs.Magnitude.{magnitude_of}
use Rattle.laws.proofs.Zero.{zero_of, zero_is}
use Rattle.machine.specs.Small.{one}
use Rattle.right_half_plane.specs.ByMiller.{rotation_of}

cosine : (s : Bool) → cos_pi_of (zero_of s) ≡ one
unfolding of_bits cos_pi_of
cosine false = cos_pi-zero
cosine true = cos_pi-zero

magnitude-of-one : magnitude_of one ≡ one
unfolding magnitude_of of_bits
magnitude-of-one = refl

signed : (s : Bool) → rotation_of (zero_of s) ≡ one
unfolding rotation_of
signed s = ap magnitude_of (cosine s) ∙ magnitude-of-one

pub rotation-at-zero : (v : Float) → T (fits binary64 v) → eq v (of_bits binary64 0) ≡ true → rotation_of v ≡ one
rotation-at-zero v F h = let a = zero_is v F h in ap rotation_of a.1 ∙ signed a.0
