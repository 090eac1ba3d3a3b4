-- `exponential::cosh::half_sum` meets its contract: its formula is the definition's. Assumes nothing.
use mathlib.Core.Path.{refl}
use Rattle.exponential.specs.Cosh.{half_sum}
use Rattle.exponential.proofs.cosh.half_sum.Goals as goal

pub returns : goal.returns
unfolding half_sum
returns c = refl
