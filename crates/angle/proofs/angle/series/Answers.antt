-- `angle::angle::series` meets its contract: the same steps. Assumes nothing.
use mathlib.Core.Path.{refl}
use Rattle.angle.specs.Angle.{series_of}
use Rattle.angle.proofs.angle.series.Goals as goal

pub returns : goal.returns
unfolding series_of
returns c = refl
