-- `miller::search::search` meets its contract: by trials above the threshold, and else by the formula. Assumes nothing.
use Rattle.miller.specs.Search.{threshold, start_of}
use Rattle.miller.proofs.search.search.Goals as goal

pub returns-then-point : goal.returns-then-point
unfolding start_of threshold
returns-then-point c = simp (c.by_recurrence.ensures, c.if-point.true)

pub returns : goal.returns
unfolding start_of threshold
returns c = simp (c.start_from.ensures, c.formula.ensures, c.if-point.false)
