use lib.ListN.{take}
use Rattle.laws.proofs.Seam.{Seam}
use Rattle.recurrence.specs.shapes.Stretch.{products_of}
use Rattle.recurrence.proofs.off_scale.multiply.Given as goal

abbrev pub invariant-loop-x : goal.invariant-loop-x
invariant-loop-x l = Seam l.fn.part (products_of l.by (take l.x-index l.fn.part)) l.x-index l.part
