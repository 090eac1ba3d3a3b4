-- `exponential::exp::grown` meets its contract: its formula is the definition's. Assumes nothing.
use mathlib.Core.Path.{refl}
use Rattle.exponential.specs.Exp.{growth}
use Rattle.exponential.proofs.exp.grown.Goals as goal

pub returns : goal.returns
unfolding growth
returns c = refl
