-- `sweeping::points::fields_with` meets its contract: three patterns. Assumes nothing.
use Rattle.sweeping.specs.Points.{fields_with}
use Rattle.sweeping.proofs.points.fields_with.Goals as goal

pub returns : goal.returns
unfolding fields_with
returns c = simp (c.pattern-3.ensures, c.pattern-2.ensures, c.pattern.ensures)
