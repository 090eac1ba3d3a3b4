-- `recurrence::state::OverflowState::scale` meets its contract: the scale of each state, by cases. Assumes nothing.
use mathlib.Core.Path.{sym, ap}
use Rattle.machine.specs.Constants.{tolerance, inverse_tolerance}
use Rattle.recurrence.specs.State.{scale_of}
use Rattle.recurrence.proofs.state.OverflowState.scale.Goals as goal

pub returns-in-NearUnder : goal.returns-in-NearUnder
unfolding scale_of tolerance inverse_tolerance
returns-in-NearUnder c = sym (ap scale_of c.in-NearUnder.is)

pub returns-in-None : goal.returns-in-None
unfolding scale_of tolerance inverse_tolerance
returns-in-None c = sym (ap scale_of c.in-None.is)

pub returns-in-NearOver : goal.returns-in-NearOver
unfolding scale_of tolerance inverse_tolerance
returns-in-NearOver c = sym (ap scale_of c.in-NearOver.is)
