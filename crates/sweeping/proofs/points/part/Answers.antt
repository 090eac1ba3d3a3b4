-- `sweeping::points::part` meets its contract: the same operations in the same order. Assumes nothing.
use borrow.Author.Tests.{eq-eqb, ne_eqb}
use Rattle.sweeping.specs.Points.{part_with}
use Rattle.sweeping.proofs.points.part.Goals as goal

pub returns-then-steps-eq1 : goal.returns-then-steps-eq1
unfolding part_with
returns-then-steps-eq1 c = simp (eq-eqb _ _ c.if-steps-eq1.true)

pub returns : goal.returns
unfolding part_with
returns c = simp (ne_eqb _ _ c.if-steps-eq1.false, c.from.ensures)
