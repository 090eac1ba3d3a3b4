-- `angle::angle::raised` meets its contract: by the one test. Assumes nothing.
use Rattle.angle.specs.Angle.{raised_of, times, flat}
use Rattle.angle.proofs.angle.raised.Goals as goal

pub returns-then-s : goal.returns-then-s
unfolding raised_of times flat
returns-then-s c = simp c.if-s.true

pub returns : goal.returns
unfolding raised_of times flat
returns c = simp c.if-s.false
