-- `Complex::two_over_with` meets its contract. Assumes nothing.
use Rattle.complex.specs.Functions.{two_over_with}
use Rattle.complex.proofs.number.Complex.two_over_with.Goals as goal

pub returns : goal.returns
unfolding two_over_with
returns c = simp (c.mul.ensures, c.add.ensures, c.mul-s.ensures, c.conjugate.ensures)
