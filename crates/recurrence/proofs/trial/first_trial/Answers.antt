-- `recurrence::trial::first_trial` meets its contract, by its test. Assumes nothing.
use Rattle.machine.specs.Constants.{exponent_limit}
use Rattle.recurrence.specs.Trial.{first_trial}
use Rattle.recurrence.proofs.trial.first_trial.Goals as goal

pub returns-then-z-ln_magnitude : goal.returns-then-z-ln_magnitude
unfolding first_trial exponent_limit
returns-then-z-ln_magnitude c = rw (← c.ln_magnitude.ensures, c.if-z-ln_magnitude.true)

pub returns : goal.returns
unfolding first_trial exponent_limit
returns c = rw (c.kept_trial.ensures, ← c.ln_magnitude.ensures, c.if-z-ln_magnitude.false)
