-- `complex::number::Complex::conjugate` meets its contract: it does the definition's steps. Assumes nothing.
use mathlib.Core.Path.{refl}
use Rattle.complex.specs.Arithmetic.{conjugate_of}
use Rattle.complex.proofs.number.Complex.conjugate.Goals as goal

pub returns : goal.returns
unfolding conjugate_of
returns c = refl
