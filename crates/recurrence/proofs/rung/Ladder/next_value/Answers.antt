-- `recurrence::rung::Ladder::next_value` meets its contract: the calls in their order. Assumes nothing.
use Rattle.recurrence.specs.Rung.{factor_of, next_of}
use Rattle.recurrence.proofs.rung.Ladder.next_value.Goals as goal

pub returns : goal.returns
unfolding factor_of next_of
returns c = simp (c.plus.ensures, c.product.ensures, c.times_real-factor.ensures)
