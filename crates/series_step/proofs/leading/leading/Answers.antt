-- `series_step::leading::leading` meets its contract: scaled, and plain. Assumes nothing.
use Rattle.series_step.specs.Leading.{lowered_if, leading_of}
use Rattle.series_step.proofs.leading.leading.Goals as goal

pub returns-then-g : goal.returns-then-g
unfolding lowered_if leading_of
returns-then-g c =
    let d = c in
    simp (c.sub.ensures, c.if-g.true, d.sub-lead.ensures, d.mul.ensures, d.value-below.ensures)

pub returns : goal.returns
unfolding lowered_if leading_of
returns c =
    let d = c in
    simp (c.if-g.false, d.sub-lead.ensures, d.mul.ensures, d.value-below.ensures)
