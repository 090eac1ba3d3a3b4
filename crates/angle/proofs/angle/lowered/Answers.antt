-- `angle::angle::lowered` meets its contract: by the two tests. Assumes nothing.
use Rattle.angle.proofs.Literals.{infinite}
use Rattle.angle.specs.Angle.{lowered_of, times, flat, even}
use Rattle.angle.proofs.angle.lowered.Goals as goal

pub returns-then-s-2 : goal.returns-then-s-2
unfolding lowered_of times flat even
returns-then-s-2 c = simp (← infinite, c.if-s.true, c.if-s-2.true)

pub returns-then-s : goal.returns-then-s
unfolding lowered_of times flat even
returns-then-s c = simp (← infinite, c.if-s.true, c.if-s-2.false)

pub returns : goal.returns
unfolding lowered_of times flat even
returns c = rw (← infinite, c.if-s.false)
