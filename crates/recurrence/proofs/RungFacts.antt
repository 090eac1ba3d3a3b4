-- What one rung is where the state moves, and where it stays. Assumes nothing.
use mathlib.Core.Path.{◌≡◌}
use mathlib.Core.Bool.{true, false}
use Prim.Native.Nat.{ℕ, ◌+◌}
use lib.Ieee.{Float}
use Rattle.complex.specs.declared.number.Complex.{Complex}
use Rattle.complex.specs.Arithmetic.{times_real}
use Rattle.recurrence.specs.State.{reciprocal_of}
use Rattle.recurrence.specs.Rung.{factor_of, next_of, passes, moved_climb, rung_of}
use Rattle.recurrence.specs.declared.state.Climb.{Climb}

module _ (two_over_z : Complex) (base_order : Float) (i : ℕ) (c : Climb) (next entry : Complex) where
  pub moves : (k : Climb) → next ≡ next_of (factor_of two_over_z base_order i) c.older c.newer → entry ≡ times_real next (reciprocal_of c.state) → passes c.state entry ≡ true
      → k ≡ moved_climb c.newer entry c.state (c.rungs + 1) → record { climb = k; entry = entry; moved = true } ≡ rung_of two_over_z base_order i c
  unfolding rung_of
  moves k n e p m = rw (← n, ← e, p, m)

  pub stays : next ≡ next_of (factor_of two_over_z base_order i) c.older c.newer → entry ≡ times_real next (reciprocal_of c.state) → passes c.state entry ≡ false
      → record { climb = record { older = c.newer; newer = next; state = c.state; rungs = c.rungs + 1 }; entry = entry; moved = false } ≡ rung_of two_over_z base_order i c
  unfolding rung_of
  stays n e p = rw (← n, ← e, p)
