-- `exponential::sinh::sinh_small` meets its contract: its formula is the definition's. Assumes nothing.
use mathlib.Core.Path.{refl}
use Rattle.exponential.specs.Sinh.{sinh_small}
use Rattle.exponential.proofs.sinh.sinh_small.Goals as goal

pub returns : goal.returns
unfolding sinh_small
returns c = refl
