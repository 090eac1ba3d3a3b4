-- `recurrence::state::OverflowState::moved_on` meets its contract: each state has its next, by cases. Assumes nothing.
use mathlib.Core.Path.{sym, ap}
use Rattle.recurrence.specs.State.{moved_on}
use Rattle.recurrence.proofs.state.OverflowState.moved_on.Goals as goal

pub returns-in-NearUnder : goal.returns-in-NearUnder
unfolding moved_on
returns-in-NearUnder c = sym (ap moved_on c.in-NearUnder.is)

pub returns-in-None : goal.returns-in-None
unfolding moved_on
returns-in-None c = sym (ap moved_on c.in-None.is)

pub returns-in-NearOver : goal.returns-in-NearOver
unfolding moved_on
returns-in-NearOver c = sym (ap moved_on c.in-NearOver.is)
