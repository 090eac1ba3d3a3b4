-- `series_step::seed::zeroed` meets its contract. Assumes nothing.
use mathlib.Core.Path.{refl}
use Rattle.series_step.specs.Seed.{zeroed_of}
use Rattle.series_step.proofs.seed.zeroed.Goals as goal

pub returns : goal.returns
unfolding zeroed_of
returns c = refl
