use Rattle.roots.proofs.Digits.{Partway}
use Rattle.roots.proofs.sqrt.nearest.Given as goal

abbrev pub invariant-loop-unit : goal.invariant-loop-unit
invariant-loop-unit l = Partway l.n l.left l.twice l.unit

abbrev pub decreases-loop-unit : goal.decreases-loop-unit
decreases-loop-unit l = l.unit
