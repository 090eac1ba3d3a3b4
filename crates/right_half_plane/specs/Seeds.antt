-- The seed stage of K, as ZBKNU and `k_right_half_plane` of src/amos/right_half_plane.rs have it: it hands on the answer's one value, two seeds, or a refusal.
-- Definitions only.
use Rattle.std.specs.Prelude.{Bool, not, ◌&&◌, cond, Result, Ok, Err, ℕ}
use Rattle.std.specs.Float.Ieee.{le}
use Rattle.machine.specs.Small.{two}
use Rattle.refusal.specs.declared.refusal.Refusal.{Refusal}
use Rattle.right_half_plane.specs.declared.ground.Ground.{Ground}
use Rattle.right_half_plane.specs.declared.seeds.Seeded.{Seeded}
use Rattle.right_half_plane.specs.ByTemme.{temme_seeds}
use Rattle.right_half_plane.specs.ByMiller.{is_half, other_seeds}

-- Temme's sum is for |z| to 2, at a fraction other than ±½
unfoldable pub is_near : Ground → Bool
is_near g = not (is_half g.fraction) && le g.modulus two

unfoldable pub seed_of : Ground → Bool → Result Seeded Refusal
seed_of g scaled = cond (is_near g) (Ok (temme_seeds g scaled)) (other_seeds g scaled)

-- the terms of Temme's sum that a seed stage took, which a refused one took none of
unfoldable pub terms_of : Result Seeded Refusal → ℕ
terms_of (Ok s) = s.terms
terms_of (Err refusal) = 0
