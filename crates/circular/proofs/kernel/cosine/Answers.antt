-- `circular::kernel::cosine` meets its contract: the code is the definition, operation by operation. Assumes nothing.
use mathlib.Core.Path.{refl}
use Rattle.circular.specs.Kernel.{cosine_kernel}
use Rattle.circular.proofs.kernel.cosine.Goals as goal

pub returns : goal.returns
unfolding cosine_kernel
returns c = refl
