-- `series_sum::sums::both_go_on` meets its contract. Assumes nothing.
use mathlib.Core.Path.{sym, ap}
use mathlib.Core.Bool.{Bool, ◌&&◌}
use lib.Ieee.{lt}
use Rattle.series_sum.specs.shapes.Sums.{both_go_on}
use Rattle.series_sum.proofs.sums.both_go_on.Goals as goal

pub returns-then-a-t : goal.returns-then-a-t
unfolding both_go_on
returns-then-a-t c =
    let a = c.args in
    sym (ap (λ (b : Bool). b && lt a.t.lower a.lower.estimate.error) c.if-a-t.true)

pub returns-else-a-t : goal.returns-else-a-t
unfolding both_go_on
returns-else-a-t c = simp c.if-a-t.false
