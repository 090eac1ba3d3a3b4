-- `right_half_plane::kernel::finished` meets its contract: two cells. Assumes nothing.
use mathlib.Core.Path.{refl}
use Rattle.right_half_plane.specs.Kernel.{finished_kernel}
use Rattle.right_half_plane.proofs.CellFacts.{two_cells}
use Rattle.right_half_plane.proofs.kernel.finished.Goals as goal

pub returns : goal.returns
unfolding finished_kernel
returns c = (refl, two_cells c.args.out.now c.args.value.re c.args.value.im c.requires)
