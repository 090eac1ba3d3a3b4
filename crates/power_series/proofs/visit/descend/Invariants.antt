use Rattle.power_series.specs.Entries.{orders, Kept}
use Rattle.power_series.specs.Visit.{walk_of}
use Rattle.power_series.proofs.WalkFacts.{Walking}
use Rattle.power_series.proofs.visit.descend.Given as goal

abbrev pub invariant-loop-k : goal.invariant-loop-k
invariant-loop-k l =
    Kept l.initial.out l.out × Walking l.g (walk_of l.g (orders l.initial.out)) l.initial.out.cells.now (orders l.initial.out) l.k l.state l.out.cells.now
