use Prim.Native.Nat.{◌-◌}
use lib.ListN.{length}
use Rattle.morning.proofs.AheadFacts.{Counting}
use Rattle.morning.proofs.ahead.pairs_ahead.Given as goal

abbrev pub invariant-loop-n : goal.invariant-loop-n
invariant-loop-n l = Counting l.chunk l.at l.n

abbrev pub decreases-loop-n : goal.decreases-loop-n
decreases-loop-n l = length l.chunk - l.n
