-- `recurrence::search::lowered` meets its contract: the calls in their order. Assumes nothing.
use Rattle.machine.specs.Constants.{exponent_limit}
use Rattle.recurrence.specs.Search.{lowered_of}
use Rattle.recurrence.proofs.search.lowered.Goals as goal

pub returns : goal.returns
unfolding lowered_of exponent_limit
returns c = simp (c.minus_real.ensures, c.times_real-2.ensures, c.times_real.ensures, c.exp-factor.ensures)
