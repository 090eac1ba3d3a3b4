-- `machine::constants::not_a_number` meets its contract: antt computes the literals. Assumes nothing.
use mathlib.Core.Path.{refl}
use lib.Ieee.{of_bits, div}
use Rattle.machine.proofs.constants.not_a_number.Goals as goal

pub returns : goal.returns
unfolding of_bits div
returns c = refl
