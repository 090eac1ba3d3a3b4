-- `miller::point::at` meets its contract. Assumes nothing.
use Rattle.miller.specs.Point.{point_of}
use Rattle.miller.proofs.point.at.Goals as goal

pub returns : goal.returns
unfolding point_of
returns c = simp c.sqrt.ensures
