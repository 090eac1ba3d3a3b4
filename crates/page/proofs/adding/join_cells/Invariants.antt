use lib.ListN.{get_or}
use Rattle.laws.proofs.Seam.{Seam}
use Rattle.page.specs.Parts.{up_to}
use Rattle.page.specs.Joining.{added_to}
use Rattle.page.proofs.adding.join_cells.Given as goal

abbrev pub invariant-loop-i : goal.invariant-loop-i
invariant-loop-i l = Seam l.initial.into (up_to l.i (λ k. added_to (get_or l.initial.into k 0) (get_or l.from k 0))) l.i l.into
