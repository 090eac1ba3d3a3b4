-- The sign is its definition's steps. Assumes nothing.
use mathlib.Core.Path.{refl}
use Rattle.complex.specs.Arithmetic.{minus_of}
use Rattle.complex.proofs.operators.ComplexSub.sub.Goals as goal

pub returns : goal.returns
unfolding minus_of
returns c = refl
