-- `recurrence::off_scale::take_off` meets its contract, by cases on the state. Assumes nothing.
use Rattle.recurrence.specs.shapes.Stretch.{off_scale}
use Rattle.recurrence.proofs.off_scale.take_off.Goals as goal

pub returns-in-NearUnder : goal.returns-in-NearUnder
unfolding off_scale
returns-in-NearUnder c = let m = c in simp (m.multiply.ensures, m.reciprocal.ensures, m.in-NearUnder.is)

pub returns-in-None : goal.returns-in-None
unfolding off_scale
returns-in-None c = simp c.in-None.is

pub returns-in-NearOver : goal.returns-in-NearOver
unfolding off_scale
returns-in-NearOver c = let m = c in simp (m.multiply-in-NearOver.ensures, m.reciprocal-in-NearOver.ensures, m.in-NearOver.is)
