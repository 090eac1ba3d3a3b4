-- `power_series::tiny::zeros` meets its contract: the three cases. Assumes nothing.
use Rattle.power_series.specs.Tiny.{zeros_of}
use Rattle.power_series.proofs.tiny.zeros.Goals as goal

pub returns-then-modulus : goal.returns-then-modulus
unfolding zeros_of
returns-then-modulus c = simp c.if-modulus.true

pub returns-then-order : goal.returns-then-order
unfolding zeros_of
returns-then-order c = simp (c.if-modulus.false, c.if-order.true)

pub returns : goal.returns
unfolding zeros_of
returns c = simp (c.if-modulus.false, c.if-order.false)
