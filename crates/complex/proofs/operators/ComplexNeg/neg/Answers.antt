-- The sign is its definition's steps. Assumes nothing.
use mathlib.Core.Path.{refl}
use Rattle.complex.specs.Arithmetic.{opposite_of}
use Rattle.complex.proofs.operators.ComplexNeg.neg.Goals as goal

pub returns : goal.returns
unfolding opposite_of
returns c = refl
