-- What the power series over n orders leaves of its counts and cells, the small arguments included, for I and turned. Assumes nothing.
use mathlib.Core.Path.{◌≡◌, refl}
use mathlib.Core.Bool.{Bool, true, false, cond}
use Prim.Native.Nat.{ℕ, ◌-◌, ◌*◌, ◌≤◌, ◌<◌}
use native.Mathlib.Omega.{arith}
use lib.ListN.{length, length-replicate}
use lib.Ieee.{Float, lt, eq}
use Rattle.machine.specs.Constants.{underflow_limit}
use Rattle.machine.specs.Small.{nothing}
use Rattle.complex.specs.declared.number.Complex.{Complex}
use Rattle.series_step.specs.Setting.{setting_of}
use Rattle.power_series.specs.Visit.{Visited, visited_of, visit_of}
use Rattle.power_series.specs.Tiny.{zeros_of, tiny_of}
use Rattle.power_series.specs.Series.{power_series_if, power_series_of}
use Rattle.power_series.proofs.VisitFacts.{orders-counted, rungs-few, longest-few, cells-length, whole}

-- of n orders: no more zeros, the place of the stop among them and 0 where there is none, no sum above 19 terms, no step of the recurrence
-- at the two highest orders, and two cells to each order
pub record Fitting (n : ℕ) (w : Visited) : Type 0 where
  pub zeros : w.visit.zeros ≤ n
  pub place : w.visit.place ≤ n
  pub whole : w.visit.stopped ≡ false → w.visit.place ≡ 0
  pub longest : w.visit.longest_sum ≤ 19
  pub rungs : w.visit.rungs ≤ n - 2
  pub cells : length w.cells ≡ n * 2

module _ (n : ℕ) (some : 0 < n) where
  picked : (a b : Bool) → cond a 0 (cond b (n - 1) n) ≤ n
  picked true b = omega arith
  picked false true = omega arith
  picked false false = omega arith

  tiny-fits : (v m : Float) → Fitting n (tiny_of v m n)
  unfolding tiny_of zeros_of
  tiny-fits v m = record {
    zeros = picked (eq m nothing) (eq v nothing);
    place = omega arith;
    whole = λ e. refl;
    longest = omega arith;
    rungs = omega arith;
    cells = simp length-replicate (omega arith);
  }

  series-if : (b scaled turned : Bool) (v : Float) (z : Complex) (m : Float) → Fitting n (power_series_if b scaled turned v z m n)
  unfolding power_series_if visit_of visited_of
  series-if true scaled turned v z m = tiny-fits v m
  series-if false scaled turned v z m =
      let g = setting_of scaled turned v z m in
      let counted = orders-counted g n in
      record { zeros = omega arith; place = omega arith; whole = whole g n; longest = longest-few g n; rungs = rungs-few g n; cells = cells-length g n }

  pub series-fits : (scaled turned : Bool) (v : Float) (z : Complex) (m : Float) → Fitting n (power_series_of scaled turned v z m n)
  unfolding power_series_of
  series-fits scaled turned v z m = series-if (lt m underflow_limit) scaled turned v z m
