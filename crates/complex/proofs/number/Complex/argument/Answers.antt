-- `Complex::argument` meets its contract. Assumes nothing.
use Rattle.complex.specs.Functions.{argument_of}
use Rattle.complex.proofs.number.Complex.argument.Goals as goal

pub returns : goal.returns
unfolding argument_of
returns c = c.angle.ensures
