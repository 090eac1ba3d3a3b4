-- The sign is its definition's steps. Assumes nothing.
use mathlib.Core.Path.{refl}
use Rattle.complex.specs.Arithmetic.{product_of}
use Rattle.complex.proofs.operators.ComplexMul.mul.Goals as goal

pub returns : goal.returns
unfolding product_of
returns c = refl
