-- How it is computed, not what: what the parts of the code ask of a triangle, two magnitudes by size, and the same in the range that
-- scaling leaves.
-- Definitions only.
use Rattle.std.specs.Prelude.{T, Float}
use Rattle.std.specs.Float.{binary64}
use Rattle.std.specs.Float.Ieee.{of_bits, fits, le}
use Rattle.machine.specs.Small.{nothing}
use Rattle.angle.specs.declared.angle.Triangle.{Triangle}

-- 2^-874 and 2^1000
unfoldable pub lowest : Float
lowest = of_bits binary64 0x0950000000000000

unfoldable pub highest : Float
highest = of_bits binary64 0x7E70000000000000

-- the longer side may be infinite
pub record Ordered (s : Triangle) : Type 0 where
  pub held : T (fits binary64 s.long)
  pub start : T (le nothing s.short)
  pub order : T (le s.short s.long)

pub record Ranged (s : Triangle) : Type 0 where
  pub held : T (fits binary64 s.long)
  pub start : T (le nothing s.short)
  pub order : T (le s.short s.long)
  pub low : T (le lowest s.long)
  pub high : T (le s.long highest)
