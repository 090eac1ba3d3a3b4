use Prim.Native.Nat.{◌-◌}
use lib.ListN.{length}
use Rattle.morning.proofs.PassedFacts.{Consumed}
use Rattle.morning.proofs.serve.Morning.consume.Given as goal

abbrev pub invariant-loop-at : goal.invariant-loop-at
invariant-loop-at l = Consumed l.chunk l.initial.self.line l.initial.self.page l.initial.self.turn.refused l.self.line l.self.page l.at l.self.turn

abbrev pub decreases-loop-at : goal.decreases-loop-at
decreases-loop-at l = length l.chunk - l.at
