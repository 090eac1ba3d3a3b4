-- The sign is its definition's steps. Assumes nothing.
use mathlib.Core.Path.{refl}
use Rattle.complex.specs.Arithmetic.{times_real}
use Rattle.complex.proofs.operators.ComplexMulF64.mul.Goals as goal

pub returns : goal.returns
unfolding times_real
returns c = refl
