-- What a K call on n orders works out once. Definitions only.
use Rattle.std.specs.Prelude.{ℕ, ◌≤◌, ◌<◌, Bool, ◌&&◌, eqb, Float}
use Rattle.std.specs.Float.Ieee.{to_unsigned}
use Rattle.laws.specs.Operators.{◌⊖◌}
use Rattle.rounding.specs.Round.{round_of}
use Rattle.complex.specs.declared.number.Complex.{Complex}
use Rattle.complex.specs.Functions.{two_over_with}
use Rattle.temme.specs.Difference.{fraction_square}
use Rattle.right_half_plane.specs.declared.ground.Ground.{Ground}

-- r, the order rounded half away from zero
unfoldable pub nearest_order : Float → ℕ
nearest_order order = to_unsigned 32 (round_of order)

unfoldable pub ground_of : Float → Complex → Float → ℕ → Ground
ground_of order z modulus count =
    let fraction = order ⊖ round_of order in
    record {
      z = z;
      modulus = modulus;
      two_over_z = two_over_with z modulus;
      order = order;
      nearest = nearest_order order;
      fraction = fraction;
      square = fraction_square fraction;
      count = count;
    }

-- r = 0 and n = 1: the first seed is the one value asked for
unfoldable pub is_alone : Ground → Bool
is_alone g = eqb g.nearest 0 && eqb g.count 1

-- the sizes that an admitted call has
pub record Sized (g : Ground) : Type 0 where
  pub some : 0 < g.count
  pub few : g.count ≤ 512
  pub low : g.nearest ≤ 1000
