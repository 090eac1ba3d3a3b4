-- Rounding to a whole number, a half away from zero: Rust's f64::round. Definitions only.
use Rattle.std.specs.Prelude.{ℕ, ◌+◌, ◌*◌, ◌/◌, ◌≤◌, ◌<◌, Float}
use Rattle.std.specs.Float.{nan, inf, fin, binary64}
use Rattle.std.specs.Float.Ieee.{up, down, round}
use Rattle.std.specs.Float.Ieee.Positive.{num, den}

-- a / c to the nearest whole number, a half up: the whole part of a / c + 1 / 2
unfoldable pub nearest_whole : ℕ → ℕ → ℕ
nearest_whole a c = (2 * a + c) / (2 * c)

-- the whole number nearest to |x|, with the sign of x, which a zero keeps; nan and the infinities are themselves
unfoldable pub round_of : Float → Float
unfolding nearest_whole
round_of nan = nan
round_of (inf s) = inf s
round_of (fin s m e) = round binary64 s (nearest_whole (m * up e) (down e)) 1

-- k is the whole number nearest to |x| = num x / den x, a half up: 2 k - 1 ≤ 2 |x| < 2 k + 1
pub record Nearest (x : Float) (k : ℕ) : Type 0 where
  pub low : 2 * (k * den x) ≤ 2 * num x + den x
  pub high : 2 * num x < 2 * (k * den x) + den x
