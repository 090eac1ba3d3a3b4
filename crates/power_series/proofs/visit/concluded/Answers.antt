-- `power_series::visit::concluded` meets its contract. Assumes nothing.
use mathlib.Core.Path.{refl}
use Rattle.power_series.specs.Visit.{visited_of}
use Rattle.power_series.specs.shapes.Visit.{concluded_of}
use Rattle.power_series.proofs.WalkFacts.{below-filled}
use Rattle.power_series.proofs.visit.concluded.Goals as goal

pub returns : goal.returns
unfolding visited_of concluded_of
returns c = (refl, below-filled _ _ _ _ _ _ c.requires.1 c.fill.ensures c.not_a_number.ensures refl)
