-- `complex::functions::at_half_angle` meets its contract: the point at the quotient of the angle by 2. Assumes nothing.
use Rattle.complex.specs.Functions.{at_half_angle}
use Rattle.complex.proofs.functions.at_half_angle.Goals as goal

pub returns : goal.returns
unfolding at_half_angle
returns c = c.polar.ensures
