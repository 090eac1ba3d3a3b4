-- `angle::angle::joined` meets its contract: the same steps around the series. Assumes nothing.
use Rattle.angle.specs.Angle.{joined_of}
use Rattle.angle.proofs.angle.joined.Goals as goal

pub returns : goal.returns
unfolding joined_of
returns c = simp c.series.ensures
