-- `circular::kernel::sine_pi_at` meets its contract: the closure takes a value from zero. Assumes nothing.
use Rattle.std.proofs.Common.{rules}
use Rattle.circular.specs.SinPi.{from_zero}
use Rattle.circular.proofs.kernel.sine_pi_at.Goals as goal

pub returns : goal.returns
unfolding from_zero
returns c = c.sine_after.ensures from_zero (λ y z p. search rules)
