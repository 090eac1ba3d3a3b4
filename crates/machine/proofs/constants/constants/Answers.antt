-- `machine::constants::constants` meets its contract: antt computes the literals. Assumes nothing.
use mathlib.Core.Path.{refl}
use Rattle.machine.specs.Constants.{machine_constants}
use Rattle.machine.proofs.constants.constants.Goals as goal

pub returns : goal.returns
unfolding machine_constants
returns c = refl
