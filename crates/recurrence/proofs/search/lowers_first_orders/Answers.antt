-- `recurrence::search::lowers_first_orders` meets its contract: the definition's own comparison. Assumes nothing.
use mathlib.Core.Path.{refl}
use Rattle.machine.specs.Constants.{exponent_limit}
use Rattle.recurrence.specs.Search.{is_lowered}
use Rattle.recurrence.proofs.search.lowers_first_orders.Goals as goal

pub returns : goal.returns
unfolding is_lowered exponent_limit
returns c = refl
