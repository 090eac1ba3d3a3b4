-- `recurrence::search::search_step` meets its contract: the calls in their order. Assumes nothing.
use Rattle.recurrence.specs.Search.{search_step}
use Rattle.recurrence.proofs.search.search_step.Goals as goal

pub returns : goal.returns
unfolding search_step
returns g c = (λ rule k. simp (c.after_trial.ensures.0 rule k, c.later_trial-latest.ensures, c.ln_magnitude-l.ensures, c.next_value-next.ensures), c.after_trial.ensures.1)
