-- `roots::hypot::half_power` meets its contract: the power's field is at most (2047 + 1021) / 2, so it is that of a finite number. Assumes nothing.
use mathlib.Core.Path.{refl}
use native.Mathlib.Omega.{arith}
use Rattle.laws.proofs.Bits.{bits-no-nan}
use Rattle.roots.proofs.hypot.half_power.Goals as goal

pub float_from_bits-result : goal.float_from_bits-result
float_from_bits-result c = bits-no-nan _ (omega arith)

pub returns : goal.returns
returns c = refl
