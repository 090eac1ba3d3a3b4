-- `recurrence::state::OverflowState::limit` meets its contract: the limit of each state, by cases. Assumes nothing.
use mathlib.Core.Path.{sym, ap}
use Rattle.machine.specs.Constants.{inverse_tolerance, absolute_approximation_limit}
use Rattle.recurrence.specs.State.{limit_of}
use Rattle.recurrence.proofs.state.OverflowState.limit.Goals as goal

pub returns-in-NearUnder : goal.returns-in-NearUnder
unfolding limit_of inverse_tolerance absolute_approximation_limit
returns-in-NearUnder c = sym (ap limit_of c.in-NearUnder.is)

pub returns-in-None : goal.returns-in-None
unfolding limit_of inverse_tolerance absolute_approximation_limit
returns-in-None c = sym (ap limit_of c.in-None.is)

pub returns-in-NearOver : goal.returns-in-NearOver
unfolding limit_of inverse_tolerance absolute_approximation_limit
returns-in-NearOver c = sym (ap limit_of c.in-NearOver.is)
