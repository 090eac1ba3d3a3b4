-- How it is computed, not what: the two highest orders are both seeded far from underflow, their sums taken side by side, and the
-- recurrence goes down from them with nothing left to test. Definitions only.
use Rattle.std.specs.Prelude.{◌≡◌, false, List, ℕ, ◌+◌, ◌-◌, ◌≤◌, Float}
use Rattle.laws.specs.Run.{run}
use Rattle.complex.specs.declared.number.Complex.{Complex}
use Rattle.complex.specs.Arithmetic.{product_of}
use Rattle.complex.specs.Functions.{complex_exp_of}
use Rattle.series_sum.specs.declared.sum.Sum.{Sum}
use Rattle.series_sum.specs.Sum.{sum_of}
use Rattle.series_step.specs.declared.setting.Setting.{Setting}
use Rattle.series_step.specs.declared.descent.Descent.{Descent}
use Rattle.series_step.specs.Setting.{order_at}
use Rattle.series_step.specs.Descent.{start_descent}
use Rattle.series_step.specs.Mark.{marked_of}
use Rattle.series_step.specs.Seed.{kept_of}
use Rattle.series_step.specs.Step.{step_of}
use Rattle.series_sum.specs.declared.sums.Two.{Two}
use Rattle.power_series.specs.Visit.{Walk, is_stopped, next_walk}

-- after an order that is seeded with the leading term e^lead
unfoldable pub entered_of : Complex → Complex → Sum → Descent → Descent
entered_of lead whole sum s = kept_of (product_of sum.value whole) (marked_of lead.re sum.terms s)

-- after the two highest of n orders
unfoldable pub pair_of : Setting → ℕ → Complex → Complex → Two Descent
pair_of g n first second =
    let a = sum_of (order_at g.order (n - 1)) g.half_z_sq g.abs_half_z_sq in
    let b = sum_of (order_at g.order (n - 2)) g.half_z_sq g.abs_half_z_sq in
    let higher = entered_of first (complex_exp_of first) a start_descent in
    record { higher = higher; lower = entered_of second (complex_exp_of second) b higher }

-- both seeds are there, nothing is marked, and `left` of n orders are left
pub record Settled (n left : ℕ) (s : Descent) : Type 0 where
  pub seeded : s.seeded ≡ 2
  pub off : s.near_underflow ≡ false
  pub goes : s.stopped ≡ false
  pub low : left ≤ n
  pub zeros : s.counts.zeros + left ≤ n
  pub rungs : s.counts.rungs + left ≤ n

-- the pair is what the first two steps of a visit of n orders give
pub record Begun (g : Setting) (n : ℕ) (p : Two Descent) : Type 0 where
  pub higher : p.higher ≡ step_of g (n - 1) start_descent
  pub lower : p.lower ≡ step_of g (n - 2) p.higher
  pub goes : p.higher.stopped ≡ false
  pub settled : Settled n (n - 2) p.lower

-- the visit of n orders from where `left` are left
unfoldable pub walk_from : Setting → ℕ → ℕ → Descent → List Float → Walk
walk_from g n left s cells =
    run (λ i w. is_stopped w) (λ i w. next_walk g w) left (n - left) (record { standing = record { left = left; state = s }; cells = cells })
