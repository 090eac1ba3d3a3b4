-- `exponential::exp::multiplied` meets its contract: its formula is the definition's. Assumes nothing.
use mathlib.Core.Path.{refl}
use Rattle.exponential.specs.Exp.{product}
use Rattle.exponential.proofs.exp.multiplied.Goals as goal

pub returns : goal.returns
unfolding product
returns c = refl
