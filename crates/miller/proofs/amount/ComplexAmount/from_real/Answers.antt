-- `miller::amount::Complex::from_real` meets its contract. Assumes nothing.
use mathlib.Core.Path.{refl}
use Rattle.miller.specs.Backward.{on_real_line}
use Rattle.miller.proofs.amount.ComplexAmount.from_real.Goals as goal

pub returns : goal.returns
unfolding on_real_line
returns c = refl
