-- `complex::number::real_over` meets its contract: it is the quotient of (a, 0). Assumes nothing.
use Rattle.complex.specs.Arithmetic.{real_over}
use Rattle.complex.proofs.number.real_over.Goals as goal

pub returns : goal.returns
unfolding real_over
returns c = c.div.ensures
