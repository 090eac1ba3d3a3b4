-- `recurrence::trial::later_trial` meets its contract, by its test. Assumes nothing.
use mathlib.Core.Path.{sym, ◌∙◌}
use Rattle.recurrence.specs.Trial.{later_trial}
use Rattle.recurrence.proofs.trial.later_trial.Goals as goal

pub returns-then-reaches_limit : goal.returns-then-reaches_limit
unfolding later_trial
returns-then-reaches_limit c = rw (c.kept_trial.ensures, sym c.reaches_limit.ensures ∙ c.if-reaches_limit.true)

pub returns : goal.returns
unfolding later_trial
returns c = rw (sym c.reaches_limit.ensures ∙ c.if-reaches_limit.false)
