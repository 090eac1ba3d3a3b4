use mathlib.Core.Path.{◌≡◌}
use Prim.Native.Nat.{◌+◌, ◌*◌}
use denote.Param.{number}
use Rattle.recurrence.specs.contracts.stretch.stretch.{WRITES-type}
use Rattle.recurrence.specs.shapes.Stretch.{PartIf}
use Rattle.recurrence.proofs.stretch.stretch.Given as goal

abbrev pub invariant-loop-turn : goal.invariant-loop-turn
invariant-loop-turn g l =
    (l.c.rungs ≡ l.fn.start.rungs + l.turn * 4)
    × (l.c.state ≡ l.fn.start.state)
    × PartIf (WRITES-type (number g.row.WRITES)) l.fn.ladder.two_over_z l.fn.ladder.base_order l.fn.from l.fn.to l.fn.start l.fn.place l.fn.out l.c l.out
