-- `Complex::exp` meets its contract: the point at the distance e^re and the angle im. Assumes nothing.
use Rattle.complex.specs.Functions.{complex_exp_of}
use Rattle.complex.proofs.number.Complex.exp.Goals as goal

pub returns : goal.returns
unfolding complex_exp_of
returns c = simp (c.polar.ensures, c.exp.ensures)
