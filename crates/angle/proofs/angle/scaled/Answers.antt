-- `angle::angle::scaled` meets its contract: by the two tests and what the callees ensure. Assumes nothing.
use Rattle.angle.specs.Angle.{scaled_of}
use Rattle.angle.proofs.angle.scaled.Goals as goal

pub returns-then-s : goal.returns-then-s
unfolding scaled_of
returns-then-s c = simp (c.if-s.true, c.lowered.ensures)

pub returns-then-s-2 : goal.returns-then-s-2
unfolding scaled_of
returns-then-s-2 c = simp (c.if-s.false, c.if-s-2.true, c.raised.ensures)

pub returns : goal.returns
unfolding scaled_of
returns c = simp (c.if-s.false, c.if-s-2.false)
