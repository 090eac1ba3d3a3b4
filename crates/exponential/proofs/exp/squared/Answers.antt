-- `exponential::exp::squared` meets its contract: its formula is the definition's. Assumes nothing.
use mathlib.Core.Path.{refl}
use Rattle.exponential.specs.Exp.{square}
use Rattle.exponential.proofs.exp.squared.Goals as goal

pub returns : goal.returns
unfolding square
returns c = refl
