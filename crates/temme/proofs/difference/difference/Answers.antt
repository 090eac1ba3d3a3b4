-- `temme::difference::difference` meets its contract. Assumes nothing.
use Rattle.temme.specs.Difference.{difference_of}
use Rattle.temme.proofs.difference.difference.Goals as goal

pub returns : goal.returns
unfolding difference_of
returns c = simp c.series.ensures
