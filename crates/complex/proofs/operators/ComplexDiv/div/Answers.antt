-- The quotient is its definition's steps, over the square of the modulus. Assumes nothing.
use Rattle.complex.specs.Arithmetic.{quotient_of}
use Rattle.complex.proofs.operators.ComplexDiv.div.Goals as goal

pub returns : goal.returns
unfolding quotient_of
returns c = simp c.norm_square-n.ensures
