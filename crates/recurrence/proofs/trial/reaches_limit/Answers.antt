-- `recurrence::trial::reaches_limit` meets its contract: the definition's own comparison. Assumes nothing.
use mathlib.Core.Path.{refl}
use Rattle.machine.specs.Constants.{exponent_limit}
use Rattle.recurrence.specs.Trial.{reaches_limit}
use Rattle.recurrence.proofs.trial.reaches_limit.Goals as goal

pub returns : goal.returns
unfolding reaches_limit exponent_limit
returns c = refl
