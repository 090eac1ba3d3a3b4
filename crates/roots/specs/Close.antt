-- What is promised of the length's square, by comparing whole numbers. Definitions only.
use Rattle.std.specs.Prelude.{ℕ, ◌+◌, ◌-◌, ◌*◌, ◌^◌, ◌≤◌, T, Float}
use Rattle.std.specs.Float.Ieee.Positive.{num, den}
use Rattle.std.specs.Float.Ieee.Scale.{finite}

-- x * x + y * y as a fraction
abbrev pub squares_over : Float → Float → ℕ
squares_over x y = num x * num x * (den y * den y) + num y * num y * (den x * den x)

abbrev pub squares_under : Float → Float → ℕ
squares_under x y = den x * den x * (den y * den y)

-- finite, above zero and not subnormal: 2^-1022 at least
pub record NormalValue (r : Float) : Type 0 where
  pub is_finite : T (finite r)
  pub is_normal : den r ≤ num r * 2 ^ 1022

-- r * r is within one part in 2^40 of x * x + y * y
pub record SquareClose (r x y : Float) : Type 0 where
  pub lower : (2 ^ 40 - 1) * (squares_over x y * (den r * den r)) ≤ 2 ^ 40 * (num r * num r * squares_under x y)
  pub upper : 2 ^ 40 * (num r * num r * squares_under x y) ≤ (2 ^ 40 + 1) * (squares_over x y * (den r * den r))
