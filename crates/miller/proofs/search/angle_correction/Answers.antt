-- `miller::search::angle_correction` meets its contract. Assumes nothing.
use Rattle.miller.specs.Search.{threshold, angle_correction}
use Rattle.miller.proofs.search.angle_correction.Goals as goal

pub returns : goal.returns
unfolding angle_correction threshold
returns c = simp c.sqrt.ensures
