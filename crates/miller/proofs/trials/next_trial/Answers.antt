-- `miller::trials::next_trial` meets its contract: it does the definition's steps. Assumes nothing.
use mathlib.Core.Path.{refl}
use Rattle.miller.specs.Trials.{next_trial}
use Rattle.miller.proofs.trials.next_trial.Goals as goal

pub returns : goal.returns
unfolding next_trial
returns c = refl
