-- `exponential::exp::sum_of` meets its contract: its formula is the definition's. Assumes nothing.
use mathlib.Core.Path.{refl}
use Rattle.exponential.specs.Exp.{total}
use Rattle.exponential.proofs.exp.sum_of.Goals as goal

pub returns : goal.returns
unfolding total
returns c = refl
