-- `recurrence::rung::rung` meets its contract: the calls in their order, and the move by its test. Assumes nothing.
use mathlib.Core.Path.{sym, ◌∙◌}
use Rattle.recurrence.proofs.RungFacts.{moves, stays}
use Rattle.recurrence.proofs.rung.rung.Goals as goal

pub returns-then-leaves : goal.returns-then-leaves
returns-then-leaves c =
    let d = c in
    moves _ _ _ _ d.next_value-next.result _ c.moved.result
    d.next_value-next.ensures
    (simp (d.times_real-entry.ensures, d.reciprocal.ensures))
    (sym c.leaves.ensures ∙ c.if-leaves.true)
    c.moved.ensures

pub returns : goal.returns
returns c =
    let d = c in
    stays _ _ _ _ _ _
    d.next_value-next.ensures
    (simp (d.times_real-entry.ensures, d.reciprocal.ensures))
    (sym c.leaves.ensures ∙ c.if-leaves.false)
