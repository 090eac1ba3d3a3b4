-- `complex::number::Complex::norm_square` meets its contract: it does the definition's steps. Assumes nothing.
use mathlib.Core.Path.{refl}
use Rattle.complex.specs.Arithmetic.{norm_square_of}
use Rattle.complex.proofs.number.Complex.norm_square.Goals as goal

pub returns : goal.returns
unfolding norm_square_of
returns c = refl
