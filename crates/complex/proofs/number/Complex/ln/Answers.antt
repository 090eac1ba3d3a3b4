-- `Complex::ln` meets its contract: the modulus and the angle are put in. Assumes nothing.
use Rattle.complex.specs.Functions.{complex_ln_of}
use Rattle.complex.proofs.number.Complex.ln.Goals as goal

pub returns : goal.returns
unfolding complex_ln_of
returns c = simp (c.ln_with.ensures, c.argument.ensures, c.modulus.ensures)
