-- `complex::power::square` meets its contract: the two products of the power 2. Assumes nothing.
use Rattle.complex.specs.Power.{power_of}
use Rattle.laws.specs.Iterate.{iterate}
use Rattle.complex.proofs.power.square.Goals as goal

pub returns : goal.returns
unfolding power_of iterate
returns c = simp (c.mul-2.ensures, c.mul.ensures)
