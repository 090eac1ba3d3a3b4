-- `miller::point::is_real` meets its contract. Assumes nothing.
use mathlib.Core.Path.{refl}
use Rattle.miller.specs.Point.{is_real}
use Rattle.miller.proofs.point.is_real.Goals as goal

pub returns : goal.returns
unfolding is_real
returns c = refl
