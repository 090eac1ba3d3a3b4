-- The sign is its definition's steps. Assumes nothing.
use mathlib.Core.Path.{refl}
use Rattle.complex.specs.Arithmetic.{minus_real}
use Rattle.complex.proofs.operators.ComplexSubF64.sub.Goals as goal

pub returns : goal.returns
unfolding minus_real
returns c = refl
