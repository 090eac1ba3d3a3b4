use mathlib.Core.Path.{◌≡◌}
use Prim.Native.Nat.{◌-◌, ◌≤◌}
use Rattle.series_sum.specs.shapes.Sum.{sum_rest}
use Rattle.series_sum.proofs.sum.Squares.finish.Given as goal

abbrev pub invariant-loop-s : goal.invariant-loop-s
invariant-loop-s l = (l.s.terms ≤ 19) × (sum_rest l.self.half_z_sq l.self.abs_half_z_sq l.tolerance l.initial.s ≡ sum_rest l.self.half_z_sq l.self.abs_half_z_sq l.tolerance l.s)

abbrev pub decreases-loop-s : goal.decreases-loop-s
decreases-loop-s l = 19 - l.s.terms
