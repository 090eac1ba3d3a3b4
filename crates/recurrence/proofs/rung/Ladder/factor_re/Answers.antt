-- `recurrence::rung::Ladder::factor_re` meets its contract: the definition's own product. Assumes nothing.
use mathlib.Core.Path.{refl}
use Rattle.complex.specs.Arithmetic.{times_real}
use Rattle.recurrence.specs.Rung.{factor_of}
use Rattle.recurrence.proofs.rung.Ladder.factor_re.Goals as goal

pub returns : goal.returns
unfolding factor_of times_real
returns c = refl
