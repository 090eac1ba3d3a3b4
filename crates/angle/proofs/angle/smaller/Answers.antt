-- `angle::angle::smaller` meets its contract: by the one test. Assumes nothing.
use Rattle.angle.specs.Angle.{smaller_of}
use Rattle.angle.proofs.angle.smaller.Goals as goal

pub returns-then-y-x : goal.returns-then-y-x
unfolding smaller_of
returns-then-y-x c = simp c.if-y-x.true

pub returns-else-y-x : goal.returns-else-y-x
unfolding smaller_of
returns-else-y-x c = simp c.if-y-x.false
