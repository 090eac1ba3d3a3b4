-- `angle::angle::sides` meets its contract: what the callees ensure. Assumes nothing.
use Rattle.angle.specs.Angle.{sides_of}
use Rattle.angle.proofs.angle.sides.Goals as goal

pub returns : goal.returns
unfolding sides_of
returns c = simp (c.smaller.ensures, c.larger.ensures)
