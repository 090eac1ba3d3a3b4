-- `Admitted::first_lead` meets its contract: its search climbs fewer rungs than there are orders. Assumes nothing.
use mathlib.Core.Path.{sym, subst}
use Prim.Native.Nat.{◌≤◌}
use native.Mathlib.Omega.{arith}
use Rattle.recurrence.specs.declared.first.FirstOrders.{FirstOrders}
use Rattle.right_half_plane.proofs.LeadFacts.{first-few}
use Rattle.right_half_plane.proofs.admitted.Admitted.first_lead.Goals as goal

pub overflow_add-result : goal.overflow_add-result
overflow_add-result c =
    let s = c.first_orders-s in
    let h : s.result.rungs ≤ 512 = subst (λ (s : FirstOrders). s.rungs ≤ 512) (sym s.ensures) (first-few _ _ _ _ _ _ c.args.self.sized.few) in
    omega arith
