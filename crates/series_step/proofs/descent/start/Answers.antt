-- `series_step::descent::start` meets its contract. Assumes nothing.
use mathlib.Core.Path.{refl}
use Rattle.series_step.specs.Descent.{start_descent}
use Rattle.series_step.proofs.descent.start.Goals as goal

pub returns : goal.returns
unfolding start_descent
returns c = refl
