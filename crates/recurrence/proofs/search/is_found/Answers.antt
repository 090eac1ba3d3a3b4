-- `recurrence::search::is_found` meets its contract: both trials are asked. Assumes nothing.
use mathlib.Core.Path.{sym, ◌∙◌}
use Rattle.recurrence.specs.Search.{is_found}
use Rattle.recurrence.proofs.search.is_found.Goals as goal

pub returns-then-is_some : goal.returns-then-is_some
unfolding is_found
returns-then-is_some c = rw (sym c.is_some.ensures ∙ c.if-is_some.true, c.is_some-then-is_some.ensures)

pub returns-else-is_some : goal.returns-else-is_some
unfolding is_found
returns-else-is_some c = rw (sym c.is_some.ensures ∙ c.if-is_some.false, c.if-is_some.false)
