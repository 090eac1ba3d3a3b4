use mathlib.Core.Path.{◌≡◌}
use mathlib.Core.Bool.{◌&&◌}
use lib.ListN.{drop}
use lib.Ieee.Scale.{finite}
use Rattle.cells.specs.AllFinite.{all_finite}
use Rattle.cells.specs.shapes.Nought.{Nought}
use Rattle.cells.proofs.all_finite.stays_zero.Given as goal

abbrev pub invariant-loop-x : goal.invariant-loop-x
invariant-loop-x l = Nought l.z × ((finite l.start && all_finite l.cells) ≡ (finite l.z && all_finite (drop l.x-index l.cells)))
