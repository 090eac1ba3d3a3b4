-- The sign is its definition's steps. Assumes nothing.
use mathlib.Core.Path.{refl}
use Rattle.complex.specs.Arithmetic.{plus_of}
use Rattle.complex.proofs.operators.ComplexAdd.add.Goals as goal

pub returns : goal.returns
unfolding plus_of
returns c = refl
