-- The sign is its definition's steps. Assumes nothing.
use mathlib.Core.Path.{refl}
use Rattle.complex.specs.Arithmetic.{over_real}
use Rattle.complex.proofs.operators.ComplexDivF64.div.Goals as goal

pub returns : goal.returns
unfolding over_real
returns c = refl
