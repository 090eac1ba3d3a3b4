-- `recurrence::state::OverflowState::boundary` meets its contract: the boundary of each state, by cases. Assumes nothing.
use mathlib.Core.Path.{sym, ap}
use Rattle.machine.specs.Constants.{absolute_approximation_limit}
use Rattle.recurrence.specs.State.{boundary_of}
use Rattle.recurrence.proofs.state.OverflowState.boundary.Goals as goal

pub returns-in-NearUnder : goal.returns-in-NearUnder
unfolding boundary_of absolute_approximation_limit
returns-in-NearUnder c = sym (ap boundary_of c.in-NearUnder.is)

pub returns-in-None : goal.returns-in-None
unfolding boundary_of absolute_approximation_limit
returns-in-None c = sym (ap boundary_of c.in-None.is)

pub returns-in-NearOver : goal.returns-in-NearOver
unfolding boundary_of absolute_approximation_limit
returns-in-NearOver c = sym (ap boundary_of c.in-NearOver.is)
