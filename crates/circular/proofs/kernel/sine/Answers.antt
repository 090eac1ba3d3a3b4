-- `circular::kernel::sine` meets its contract: the code is the definition, operation by operation. Assumes nothing.
use mathlib.Core.Path.{refl}
use Rattle.circular.specs.Kernel.{sine_kernel}
use Rattle.circular.proofs.kernel.sine.Goals as goal

pub returns : goal.returns
unfolding sine_kernel
returns c = refl
