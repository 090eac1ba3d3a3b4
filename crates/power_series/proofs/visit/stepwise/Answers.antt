-- `power_series::visit::stepwise` meets its contract: the visit, and the fill below the place where it stopped. Assumes nothing.
use native.Mathlib.Omega.{arith}
use Rattle.power_series.proofs.WalkFacts.{standing-left, concluded-visit}
use Rattle.power_series.proofs.visit.stepwise.Goals as goal

pub concluded-requires : goal.concluded-requires
concluded-requires c =
    let d = c.descend-r in
    let h = standing-left _ _ d.result d.ensures.visit.0 in
    omega (arith, h, d.ensures.kept.1)

pub returns-clause-visit : goal.returns-clause-visit
returns-clause-visit c =
    let d = c.descend-r in
    concluded-visit _ _ d.result d.new.out.cells.now d.ensures.visit.0 d.ensures.visit.1 c.concluded.ensures.visit
