-- How it is computed, not what: the next value, tried against the limit of its state before it is taken. Definitions only.
use Rattle.std.specs.Prelude.{cond, Float, Option, Some, None}
use Rattle.complex.specs.declared.number.Complex.{Complex}
use Rattle.recurrence.specs.Rung.{exceeds}

-- held where no part of it is above the limit
unfoldable pub held_of : Float → Complex → Option Complex
held_of limit next = cond (exceeds limit next) None (Some next)
