-- `recurrence::rung::moved` meets its contract: the calls in their order. Assumes nothing.
use Rattle.recurrence.specs.Rung.{moved_climb}
use Rattle.recurrence.proofs.rung.moved.Goals as goal

pub returns : goal.returns
unfolding moved_climb
returns c =
    simp (c.times_real-3.ensures, c.times_real-2.ensures, c.times_real.ensures, c.reciprocal.ensures, c.scale-factor.ensures, c.moved_on-next.ensures)
