-- e^z handed on or not gives the seeds of the definition. Assumes nothing.
use mathlib.Core.Path.{◌≡◌, refl}
use mathlib.Core.Bool.{Bool, true, false}
use lib.Ieee.{Float}
use Rattle.complex.specs.declared.number.Complex.{Complex}
use Rattle.temme.specs.declared.seeds.Temme.{Temme}
use Rattle.right_half_plane.specs.declared.ground.Ground.{Ground}
use Rattle.right_half_plane.specs.ByTemme.{growth_of, grown_by, temme_pair}
use Rattle.right_half_plane.specs.shapes.Growth.{growth_if, grown_if, pair_if}

pub grown_same : (scaled : Bool) (z value : Complex) → grown_if (growth_if scaled z) value ≡ grown_by scaled (growth_of scaled z) value
unfolding growth_if grown_if growth_of grown_by
grown_same true z value = refl
grown_same false z value = refl

pub pair_same : (g : Ground) (scaled : Bool) (z : Complex) (factor : Float) (t : Temme) → pair_if g (growth_if scaled z) factor t ≡ temme_pair g scaled (growth_of scaled z) factor t
unfolding pair_if temme_pair
pair_same g scaled z factor t = simp grown_same
