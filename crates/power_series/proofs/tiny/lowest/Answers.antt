-- `power_series::tiny::lowest` meets its contract: order 0, and any other. Assumes nothing.
use Rattle.power_series.specs.Tiny.{lowest_of}
use Rattle.power_series.proofs.tiny.lowest.Goals as goal

pub returns-then-order : goal.returns-then-order
unfolding lowest_of
returns-then-order c = simp c.if-order.true

pub returns : goal.returns
unfolding lowest_of
returns c = simp c.if-order.false
