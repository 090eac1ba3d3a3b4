-- `recurrence::rung::beyond` meets its contract: each part's magnitude is tested. Assumes nothing.
use mathlib.Core.Path.{sym, ◌∙◌}
use Rattle.recurrence.specs.Rung.{exceeds}
use Rattle.recurrence.proofs.rung.beyond.Goals as goal

pub returns-then-outside : goal.returns-then-outside
unfolding exceeds
returns-then-outside c = rw (sym c.outside.ensures ∙ c.if-outside.true)

pub returns : goal.returns
unfolding exceeds
returns c = rw (sym c.outside.ensures ∙ c.if-outside.false, c.outside-2.ensures)
