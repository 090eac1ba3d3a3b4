-- `angle::angle::arc` meets its contract: by the one test. Assumes nothing.
use Rattle.angle.specs.Angle.{arc_of}
use Rattle.angle.proofs.angle.arc.Goals as goal

pub returns-then-s : goal.returns-then-s
unfolding arc_of
returns-then-s c = simp c.if-s.true

pub returns : goal.returns
unfolding arc_of
returns c = simp (c.if-s.false, c.tabled_arc.ensures)
