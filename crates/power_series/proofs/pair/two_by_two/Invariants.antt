use Prim.Native.Nat.{◌*◌}
use lib.ListN.{drop}
use Rattle.power_series.specs.Entries.{orders, Kept}
use Rattle.power_series.specs.shapes.Pair.{Settled, walk_from}
use Rattle.power_series.proofs.WalkFacts.{Walking}
use Rattle.power_series.proofs.pair.two_by_two.Given as goal

abbrev pub invariant-loop-pair : goal.invariant-loop-pair
invariant-loop-pair l =
    let n = orders l.initial.out in
    let d = l.initial.out.cells.now in
    Kept l.initial.out l.out × Settled n (l.pair * 2) l.state × Walking l.g (walk_from l.g n l.most l.initial.state (drop (l.most * 2) d)) d n (l.pair * 2) l.state l.out.cells.now
