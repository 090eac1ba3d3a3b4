use mathlib.Core.Path.{◌≡◌}
use Prim.Native.Nat.{◌+◌, ◌-◌, ◌≤◌}
use denote.Param.{number}
use Rattle.recurrence.specs.contracts.onward.all.{WRITES-type}
use Rattle.recurrence.specs.shapes.Stretch.{FilledIf}
use Rattle.recurrence.proofs.onward.all.Given as goal

abbrev pub invariant-loop-i : goal.invariant-loop-i
invariant-loop-i g l =
    (l.i ≡ l.fn.from + (l.c.rungs - l.fn.start.rungs))
    × (l.fn.start.rungs ≤ l.c.rungs)
    × (l.c.rungs - l.fn.start.rungs ≤ l.fn.to - l.fn.from)
    × FilledIf (WRITES-type (number g.row.WRITES)) l.fn.ladder.two_over_z l.fn.ladder.base_order l.fn.from l.fn.to l.fn.start 0 l.fn.out l.c l.out

abbrev pub decreases-loop-i : goal.decreases-loop-i
decreases-loop-i g l = l.to - l.i
