-- `recurrence::trial::kept_trial` meets its contract: the trial, and its test. Assumes nothing.
use Rattle.recurrence.specs.Trial.{kept_trial}
use Rattle.recurrence.proofs.trial.kept_trial.Goals as goal

pub returns-then-lost : goal.returns-then-lost
unfolding kept_trial
returns-then-lost c = rw (← c.raised-value.ensures, ← c.lost.ensures, c.if-lost.true)

pub returns : goal.returns
unfolding kept_trial
returns c = rw (← c.raised-value.ensures, ← c.lost.ensures, c.if-lost.false)
