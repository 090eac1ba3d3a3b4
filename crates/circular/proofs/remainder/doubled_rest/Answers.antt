-- `circular::remainder::doubled_rest` meets its contract: before each turn the rest of what was doubled so far. Assumes nothing.
use Rattle.circular.proofs.RemainderFacts.{rest-doubled}
use Rattle.circular.proofs.remainder.doubled_rest.Goals as goal

pub loop-preserved : goal.loop-preserved
loop-preserved c = rest-doubled c.args.m c.loop.counter c.args.n c.loop.r c.loop.invariant
