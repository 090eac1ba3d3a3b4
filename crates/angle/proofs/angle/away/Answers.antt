-- `angle::angle::away` meets its contract: the same steps. Assumes nothing.
use mathlib.Core.Path.{refl}
use Rattle.angle.specs.Angle.{away_of}
use Rattle.angle.proofs.angle.away.Goals as goal

pub returns : goal.returns
unfolding away_of
returns c = refl
