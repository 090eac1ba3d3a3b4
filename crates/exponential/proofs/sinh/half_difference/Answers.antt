-- `exponential::sinh::half_difference` meets its contract: its formula is the definition's. Assumes nothing.
use mathlib.Core.Path.{refl}
use Rattle.exponential.specs.Sinh.{half_difference}
use Rattle.exponential.proofs.sinh.half_difference.Goals as goal

pub returns : goal.returns
unfolding half_difference
returns c = refl
