-- The climb that fills a buffer: each rung's entry goes behind those before it. ZBKNU's last loop (zbknu.f, DO 260); `run_recurrence_core` of
-- src/amos/recurrence.rs with the output slice. Definitions only.
use Rattle.std.specs.Prelude.{ℕ, List, [], ◌∷◌, ◌++◌, Float}
use Rattle.laws.specs.Run.{run}
use Rattle.complex.specs.declared.number.Complex.{Complex}
use Rattle.recurrence.specs.Rung.{rung_of}
use Rattle.recurrence.specs.Climb.{never}
use Rattle.recurrence.specs.declared.state.Climb.{Climb}

-- a climb, and the cells of its entries so far, each its real part and its imaginary part
pub record Filled : Type 0 where
  pub climb : Climb
  pub cells : List Float

-- the rung at the index i
unfoldable pub fill_step : Complex → Float → ℕ → Filled → Filled
fill_step two_over_z base_order i f =
    let r = rung_of two_over_z base_order i f.climb in
    record { climb = r.climb; cells = f.cells ++ (r.entry.re ∷ r.entry.im ∷ []) }

-- `count` rungs, the first at the index `from`
unfoldable pub fill_from : Complex → Float → ℕ → ℕ → Climb → Filled
fill_from two_over_z base_order from count c = run never (fill_step two_over_z base_order) count from (record { climb = c; cells = [] })
