-- `sweeping::points::step` meets its contract: the same operations in the same order. Assumes nothing.
use Rattle.sweeping.specs.Points.{step_of}
use Rattle.sweeping.proofs.points.step.Goals as goal

pub returns : goal.returns
unfolding step_of
returns c = simp c.from.ensures
