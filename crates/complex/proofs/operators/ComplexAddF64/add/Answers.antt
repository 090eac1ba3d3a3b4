-- The sign is its definition's steps. Assumes nothing.
use mathlib.Core.Path.{refl}
use Rattle.complex.specs.Arithmetic.{plus_real}
use Rattle.complex.proofs.operators.ComplexAddF64.add.Goals as goal

pub returns : goal.returns
unfolding plus_real
returns c = refl
