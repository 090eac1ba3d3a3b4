-- `Admitted::climbed` meets its contract: an admitted call has at most 1,000 steps. Assumes nothing.
use mathlib.Core.Path.{sym, subst}
use Prim.Native.Nat.{ℕ, ◌≤◌}
use native.Mathlib.Omega.{arith}
use Rattle.right_half_plane.proofs.Counts.{steps-few}
use Rattle.right_half_plane.proofs.admitted.Admitted.climbed.Goals as goal

pub overflow_add-steps : goal.overflow_add-steps
overflow_add-steps c = let h : c.steps.result ≤ 1000 = subst (λ (n : ℕ). n ≤ 1000) (sym c.steps.ensures) (steps-few _ c.args.self.sized) in omega arith

pub climb-top-requires : goal.climb-top-requires
climb-top-requires c = let h : c.steps.result ≤ 1000 = subst (λ (n : ℕ). n ≤ 1000) (sym c.steps.ensures) (steps-few _ c.args.self.sized) in omega arith
