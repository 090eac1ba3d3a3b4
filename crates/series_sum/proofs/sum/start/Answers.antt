-- `series_sum::sum::start` meets its contract. Assumes nothing.
use mathlib.Core.Path.{refl}
use Rattle.series_sum.specs.Sum.{start_estimate, start_sum}
use Rattle.series_sum.proofs.sum.start.Goals as goal

pub returns : goal.returns
unfolding start_estimate start_sum
returns c = refl
