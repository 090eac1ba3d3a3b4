-- `angle::angle::larger` meets its contract: by the one test. Assumes nothing.
use Rattle.angle.specs.Angle.{larger_of}
use Rattle.angle.proofs.angle.larger.Goals as goal

pub returns-then-y-x : goal.returns-then-y-x
unfolding larger_of
returns-then-y-x c = simp c.if-y-x.true

pub returns-else-y-x : goal.returns-else-y-x
unfolding larger_of
returns-else-y-x c = simp c.if-y-x.false
