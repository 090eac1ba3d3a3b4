use mathlib.Core.Path.{◌≡◌}
use Prim.Native.Nat.{◌-◌, ◌≤◌}
use Rattle.laws.specs.Iterate.{iterate}
use Rattle.miller.specs.Backward.{complex_first, complex_step}
use Rattle.miller.proofs.backward.complex_steps.Given as goal

abbrev pub invariant-loop-s : goal.invariant-loop-s
invariant-loop-s l = (l.s.steps ≤ l.start) × (l.s ≡ iterate l.s.steps (complex_step l.z l.distance) (complex_first l.start))

abbrev pub decreases-loop-s : goal.decreases-loop-s
decreases-loop-s l = l.start - l.s.steps
