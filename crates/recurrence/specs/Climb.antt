-- A climb of several rungs, and how often its state moves. ZBKNU's climb to the first order wanted (zbknu.f, DO 230); `run_recurrence_core` of
-- src/amos/recurrence.rs with nothing to write. Definitions only.
use Rattle.std.specs.Prelude.{ℕ, zero, suc, ◌+◌, Bool, false, cond, Float}
use Rattle.laws.specs.Run.{run}
use Rattle.complex.specs.declared.number.Complex.{Complex}
use Rattle.recurrence.specs.Rung.{rung_of}
use Rattle.recurrence.specs.declared.state.Climb.{Climb}

-- no test ends a climb
abbrev pub never : {S : Type 0} → ℕ → S → Bool
never i s = false

-- `count` rungs, the first at the index `from`
unfoldable pub climb_from : Complex → Float → ℕ → ℕ → Climb → Climb
climb_from two_over_z base_order from count c = run never (λ i d. (rung_of two_over_z base_order i d).climb) count from c

-- on how many of them the state moves
unfoldable pub moves_from : Complex → Float → ℕ → ℕ → Climb → ℕ
moves_from two_over_z base_order from zero c = 0
moves_from two_over_z base_order from (suc count) c =
    let r = rung_of two_over_z base_order from c in
    cond r.moved 1 0 + moves_from two_over_z base_order (suc from) count r.climb
