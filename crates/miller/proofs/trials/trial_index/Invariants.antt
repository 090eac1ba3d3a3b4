use mathlib.Core.Path.{◌≡◌}
use Prim.Native.Nat.{◌+◌, ◌-◌, ◌≤◌}
use Rattle.laws.specs.Run.{first_from}
use Rattle.miller.specs.Trials.{trial_after, met_after, trials_taken}
use Rattle.miller.proofs.trials.trial_index.Given as goal

abbrev pub invariant-loop-i : goal.invariant-loop-i
invariant-loop-i l = (l.i ≤ 30) × (l.trial ≡ trial_after l.modulus l.square l.i) × (trials_taken l.modulus l.square l.test ≡ first_from (met_after l.modulus l.square l.test) (31 - (l.i + 1)) (l.i + 1))

abbrev pub decreases-loop-i : goal.decreases-loop-i
decreases-loop-i l = 30 - l.i
