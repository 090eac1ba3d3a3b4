use Prim.Native.Nat.{◌-◌}
use lib.ListN.{length}
use Rattle.sweep.proofs.ChunkFacts.{Consumed}
use Rattle.sweep.proofs.serve.Sweeper.consume.Given as goal

abbrev pub invariant-loop-at : goal.invariant-loop-at
invariant-loop-at l = Consumed l.chunk l.initial.self.line l.initial.self.turn l.self.line l.at l.self.turn

abbrev pub decreases-loop-at : goal.decreases-loop-at
decreases-loop-at l = length l.chunk - l.at
