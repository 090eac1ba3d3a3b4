-- A finite value taken apart for its sine: the value without its sign, and the quarter turns that the sign is worth, a minus half a turn.
-- Definitions only.
use Rattle.std.specs.Prelude.{Option, Some, None, false, cond, Float}
use Rattle.std.specs.Float.{nan, inf, fin}
use Rattle.circular.specs.declared.split.Split.{Split}

unfoldable pub split_of : Float → Option Split
split_of nan = None
split_of (inf s) = None
split_of (fin s m e) = Some (record { size = fin false m e; turns = cond s 2 0 })
