-- `series_step::mark::marked` meets its contract. Assumes nothing.
use Rattle.series_step.specs.Mark.{marked_of}
use Rattle.series_step.proofs.mark.marked.Goals as goal

pub returns : goal.returns
unfolding marked_of
returns c = simp (c.mark.ensures, c.longest.ensures, c.scale.ensures)
