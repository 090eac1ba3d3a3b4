-- `exponential::cosh::cosh_small` meets its contract: its formula is the definition's. Assumes nothing.
use mathlib.Core.Path.{refl}
use Rattle.exponential.specs.Cosh.{cosh_small}
use Rattle.exponential.proofs.cosh.cosh_small.Goals as goal

pub returns : goal.returns
unfolding cosh_small
returns c = refl
