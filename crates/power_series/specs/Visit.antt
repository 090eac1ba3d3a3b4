-- The downward visit of the n orders v + n - 1 to v, ZSERI from 20 on (`i_power_series` of src/amos/power_series.rs): where it ends, with
-- what counts, and what the cells hold, re before im, the lowest order first. Definitions only.
use Rattle.std.specs.Prelude.{Bool, List, [], ◌∷◌, ◌++◌, ℕ, ◌-◌, ◌*◌, replicate, Float}
use Rattle.laws.specs.Run.{run}
use Rattle.machine.specs.Constants.{not_a_number}
use Rattle.series_step.specs.declared.setting.Setting.{Setting}
use Rattle.series_step.specs.declared.descent.Descent.{Descent}
use Rattle.series_step.specs.Descent.{start_descent}
use Rattle.series_step.specs.Step.{step_of}
use Rattle.power_series.specs.declared.visit.Standing.{Standing}
use Rattle.power_series.specs.declared.visit.Visit.{Visit}

-- how far the visit is, and the cells that it has written
pub record Walk : Type 0 where
  pub standing : Standing
  pub cells : List Float

unfoldable pub start_walk : ℕ → Walk
start_walk n = record { standing = record { left = n; state = start_descent }; cells = [] }

-- a zeroed order may stop it (190)
unfoldable pub is_stopped : Walk → Bool
is_stopped w = w.standing.state.stopped

-- the next order below, and its entry
unfoldable pub with_entry : ℕ → Descent → List Float → Walk
with_entry k s cells = record { standing = record { left = k; state = s }; cells = s.above.re ∷ s.above.im ∷ cells }

unfoldable pub next_walk : Setting → Walk → Walk
next_walk g w =
    let k = w.standing.left - 1 in
    with_entry k (step_of g k w.standing.state) w.cells

unfoldable pub walk_of : Setting → ℕ → Walk
walk_of g n = run (λ i w. is_stopped w) (λ i w. next_walk g w) n 0 (start_walk n)

pub record Visited : Type 0 where
  pub visit : Visit
  pub cells : List Float

-- what lies below the place where it stopped is not a number: ZSERI leaves it unwritten
unfoldable pub visited_of : Walk → Visited
visited_of w =
    let s = w.standing.state in
    record {
      visit = record {
        zeros = s.counts.zeros;
        stopped = s.stopped;
        place = w.standing.left;
        longest_sum = s.counts.longest_sum;
        rungs = s.counts.rungs;
      };
      cells = replicate (w.standing.left * 2) not_a_number ++ w.cells;
    }

unfoldable pub visit_of : Setting → ℕ → Visited
visit_of g n = visited_of (walk_of g n)
