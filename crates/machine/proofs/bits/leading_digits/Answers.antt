-- `machine::bits::leading_digits` meets its contract: the pattern without its lower 27 bits is no not-a-number's. Assumes nothing.
use mathlib.Core.Path.{sym, subst}
use lib.Dec.{T}
use Rattle.laws.proofs.Bits.{cut-no-nan}
use Rattle.machine.proofs.MagnitudeFacts.{bare-pattern}
use Rattle.machine.proofs.bits.leading_digits.Goals as goal

pub float_from_bits-result : goal.float_from_bits-result
float_from_bits-result c = cut-no-nan _ (bare-pattern c.args.x (subst T (sym c.well_formed.0.1) tt) c.requires)
