-- `recurrence::search::lowers_out_of_underflow` meets its contract: the definition's two tests. Assumes nothing.
use mathlib.Core.Path.{sym, ◌∙◌}
use Rattle.machine.specs.Constants.{exponent_limit}
use Rattle.recurrence.specs.Search.{is_lowered}
use Rattle.recurrence.proofs.search.lowers_out_of_underflow.Goals as goal

pub returns-then-reaches_limit : goal.returns-then-reaches_limit
unfolding is_lowered exponent_limit
returns-then-reaches_limit c = simp (sym c.reaches_limit.ensures ∙ c.if-reaches_limit.true)

pub returns-else-reaches_limit : goal.returns-else-reaches_limit
unfolding is_lowered exponent_limit
returns-else-reaches_limit c = rw (sym c.reaches_limit.ensures ∙ c.if-reaches_limit.false, c.if-reaches_limit.false)
