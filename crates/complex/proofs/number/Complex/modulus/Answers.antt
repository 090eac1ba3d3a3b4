-- `Complex::modulus` meets its contract. Assumes nothing.
use Rattle.complex.specs.Functions.{modulus_of}
use Rattle.complex.proofs.number.Complex.modulus.Goals as goal

pub returns : goal.returns
unfolding modulus_of
returns c = c.hypot.ensures
