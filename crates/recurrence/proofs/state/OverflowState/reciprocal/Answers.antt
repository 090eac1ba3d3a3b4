-- `recurrence::state::OverflowState::reciprocal` meets its contract: the reciprocal of each state, by cases. Assumes nothing.
use mathlib.Core.Path.{sym, ap}
use Rattle.machine.specs.Constants.{tolerance, inverse_tolerance}
use Rattle.recurrence.specs.State.{reciprocal_of}
use Rattle.recurrence.proofs.state.OverflowState.reciprocal.Goals as goal

pub returns-in-NearUnder : goal.returns-in-NearUnder
unfolding reciprocal_of tolerance inverse_tolerance
returns-in-NearUnder c = sym (ap reciprocal_of c.in-NearUnder.is)

pub returns-in-None : goal.returns-in-None
unfolding reciprocal_of tolerance inverse_tolerance
returns-in-None c = sym (ap reciprocal_of c.in-None.is)

pub returns-in-NearOver : goal.returns-in-NearOver
unfolding reciprocal_of tolerance inverse_tolerance
returns-in-NearOver c = sym (ap reciprocal_of c.in-NearOver.is)
