-- How it is computed, not what: e^z is handed on where there is one to multiply by, in place of a flag with it. Definitions only.
use Rattle.std.specs.Prelude.{Bool, cond, Option, Some, None, Float}
use Rattle.complex.specs.declared.number.Complex.{Complex}
use Rattle.complex.specs.Arithmetic.{product_of, times_real}
use Rattle.complex.specs.Functions.{complex_exp_of}
use Rattle.temme.specs.declared.seeds.Temme.{Temme}
use Rattle.right_half_plane.specs.declared.ground.Ground.{Ground}
use Rattle.right_half_plane.specs.declared.seeds.Seeds.{Seeds}
use Rattle.right_half_plane.specs.declared.seeds.Seeds.TheVariants.{Pair}

unfoldable pub growth_if : Bool → Complex → Option Complex
growth_if scaled z = cond scaled (Some (complex_exp_of z)) None

unfoldable pub grown_if : Option Complex → Complex → Complex
grown_if (Some growth) value = product_of value growth
grown_if None value = value

unfoldable pub pair_if : Ground → Option Complex → Float → Temme → Seeds
pair_if g growth factor t =
    Pair
    (grown_if growth (times_real t.first factor))
    (grown_if growth (product_of t.second (times_real g.two_over_z factor)))
