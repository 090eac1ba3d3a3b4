use mathlib.Core.Path.{◌≡◌}
use Prim.Native.Nat.{◌-◌, ◌≤◌}
use Rattle.series_sum.specs.shapes.Sum.{sum_rest}
use Rattle.series_sum.proofs.sums.side_by_side.Given as goal

abbrev pub invariant-loop-higher : goal.invariant-loop-higher
invariant-loop-higher l =
    (l.higher.terms ≤ 19) × (l.lower.terms ≡ l.higher.terms) × (sum_rest l.w.half_z_sq l.w.abs_half_z_sq l.t.higher l.initial.higher ≡ sum_rest l.w.half_z_sq l.w.abs_half_z_sq l.t.higher l.higher) × (sum_rest l.w.half_z_sq l.w.abs_half_z_sq l.t.lower l.initial.lower ≡ sum_rest l.w.half_z_sq l.w.abs_half_z_sq l.t.lower l.lower)

abbrev pub decreases-loop-higher : goal.decreases-loop-higher
decreases-loop-higher l = 19 - l.higher.terms
