-- `angle::angle::nearest_step` meets its contract: the same steps; the pattern is at least that of 2^46. Assumes nothing.
use mathlib.Core.Path.{refl}
use Rattle.angle.specs.Angle.{step_of, grid}
use Rattle.laws.proofs.Value.{finite-no-nan}
use Rattle.angle.proofs.Step.{sum-finite, index-bounds}
use Rattle.angle.proofs.angle.nearest_step.Goals as goal

pub float_to_bits-index : goal.float_to_bits-index
unfolding grid
float_to_bits-index c = finite-no-nan _ (sum-finite c.args.s c.requires)

pub overflow_sub-index : goal.overflow_sub-index
unfolding grid
overflow_sub-index c = (index-bounds c.args.s c.requires).0

pub returns : goal.returns
unfolding step_of grid
returns c = refl
