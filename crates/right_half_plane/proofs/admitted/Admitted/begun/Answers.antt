-- `Admitted::begun` meets its contract: an admitted call has at most 1,000 steps. Assumes nothing.
use mathlib.Core.Path.{sym, subst}
use Prim.Native.Nat.{ℕ, ◌≤◌}
use Rattle.right_half_plane.proofs.Counts.{steps-few}
use Rattle.right_half_plane.proofs.admitted.Admitted.begun.Goals as goal

pub recover-requires : goal.recover-requires
recover-requires c = subst (λ (n : ℕ). n ≤ 1000) (sym c.steps.ensures) (steps-few _ c.args.self.sized)
