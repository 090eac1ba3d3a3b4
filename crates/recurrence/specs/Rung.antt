-- One rung of a climb, K(v+1) = (2v/z) K(v) + K(v-1), DLMF 10.29.1, and the move to the next state of scale: a turn of ZBKNU's DO 230 and DO 260;
-- `run_recurrence_core` of src/amos/recurrence.rs and `scale_recurrence` of src/amos/limits.rs. Definitions only.
use Rattle.std.specs.Prelude.{ℕ, ◌+◌, Bool, false, ◌||◌, cond, pos, Float}
use Rattle.std.specs.Float.{binary64}
use Rattle.std.specs.Float.Ieee.{of_int, add, lt}
use Rattle.complex.specs.declared.number.Complex.{Complex}
use Rattle.complex.specs.Arithmetic.{plus_of, product_of, times_real}
use Rattle.machine.specs.Magnitude.{magnitude_of}
use Rattle.recurrence.specs.State.{scale_of, reciprocal_of, boundary_of, moved_on}
use Rattle.recurrence.specs.declared.state.OverflowState.{OverflowState}
use Rattle.recurrence.specs.declared.state.OverflowState.TheVariants.{NearUnder, None, NearOver}
use Rattle.recurrence.specs.declared.state.Climb.{Climb}
use Rattle.recurrence.specs.declared.state.Rung.{Rung}

-- (base + i) 2/z
unfoldable pub factor_of : Complex → Float → ℕ → Complex
factor_of two_over_z base_order i = times_real two_over_z (add binary64 base_order (of_int binary64 (pos i)))

unfoldable pub next_of : Complex → Complex → Complex → Complex
next_of factor older newer = plus_of older (product_of factor newer)

-- a part is beyond b in magnitude; a part that is not a number is not
unfoldable pub exceeds : Float → Complex → Bool
exceeds b w = lt b (magnitude_of w.re) || lt b (magnitude_of w.im)

-- whether the state moves, by the entry off the scale
unfoldable pub passes : OverflowState → Complex → Bool
passes NearUnder entry = exceeds (boundary_of NearUnder) entry
passes None entry = exceeds (boundary_of None) entry
passes NearOver entry = false

-- the older value comes off the scale that is left, the entry stands for the newer, and both go on the scale that is entered
unfoldable pub moved_climb : Complex → Complex → OverflowState → ℕ → Climb
moved_climb older entry state rungs =
    let factor = scale_of (moved_on state) in
    record {
      older = times_real (times_real older (reciprocal_of state)) factor;
      newer = times_real entry factor;
      state = moved_on state;
      rungs = rungs;
    }

-- the rung at the index i: its value off the scale is the entry
unfoldable pub rung_of : Complex → Float → ℕ → Climb → Rung
rung_of two_over_z base_order i c =
    let next = next_of (factor_of two_over_z base_order i) c.older c.newer in
    let entry = times_real next (reciprocal_of c.state) in
    let moved = passes c.state entry in
    record {
      climb =
          cond moved
          (moved_climb c.newer entry c.state (c.rungs + 1))
          (record { older = c.newer; newer = next; state = c.state; rungs = c.rungs + 1 });
      entry = entry;
      moved = moved;
    }
