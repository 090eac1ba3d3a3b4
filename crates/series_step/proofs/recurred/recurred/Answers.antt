-- `series_step::recurred::recurred` meets its contract: under the mark, and without it. Assumes nothing.
use Rattle.series_step.specs.Recurred.{recurred_if, recurred_of}
use Rattle.series_step.proofs.recurred.recurred.Goals as goal

pub returns-then-s : goal.returns-then-s
unfolding recurred_if recurred_of
returns-then-s c =
    let d = c in
    simp (c.under_mark.ensures, c.if-s.true, d.backward-next.ensures)

pub returns : goal.returns
unfolding recurred_of
returns c =
    let d = c in
    simp (c.unmarked.ensures, c.if-s.false, d.backward-next.ensures)
