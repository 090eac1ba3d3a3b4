-- When the search gives no start, in docs/SCOPE.md's words: 30 trials unmet, or the start no number, -1 or less, or above 256 once truncated.
-- Definitions only.
use Rattle.std.specs.Prelude.{ℕ, zero, suc, ◌+◌, Bool, true, not, cond, ◌&&◌, ◌||◌, ltb, Float}
use Rattle.std.specs.Float.Ieee.{neg, lt, le}
use Rattle.std.specs.Float.Ieee.Scale.{finite}
use Rattle.machine.specs.Small.{one}
use Rattle.miller.specs.declared.point.Point.{Point}
use Rattle.miller.specs.declared.point.Order.{Order}
use Rattle.miller.specs.Whole.{truncated}
use Rattle.miller.specs.Trials.{met_after, trials_taken}
use Rattle.miller.specs.Search.{threshold, raw_start, convergence_test, formula_of}

-- none of the indices 1 to n passes
unfoldable pub none_of : (ℕ → Bool) → ℕ → Bool
none_of test zero = true
none_of test (suc n) = not (test (suc n)) && none_of test n

-- 30 trials of the start search unmet
unfoldable pub trials_unmet : Point → Order → Bool
trials_unmet point order = none_of (met_after point.modulus order.square (convergence_test point order)) 30

-- ---- a start before it is truncated
-- no number: not a number, or infinite
unfoldable pub no_number : Float → Bool
no_number raw = not (finite raw)

unfoldable pub minus_one_or_less : Float → Bool
minus_one_or_less raw = le raw (neg one)

unfoldable pub above_cap : Float → Bool
above_cap raw = ltb 256 (truncated raw)

unfoldable pub not_a_start : Float → Bool
not_a_start raw = no_number raw || minus_one_or_less raw || above_cap raw

-- the start that the trials give: one more than the first trial that is met, corrected by the angle
unfoldable pub start_by_trials : Point → Order → Float
start_by_trials point order = raw_start point (trials_taken point.modulus order.square (convergence_test point order) + 1)

-- above the threshold by the trials, of which a test of at most 1 asks for none; up to it by the formula
unfoldable pub no_start : Point → Order → Bool
no_start point order =
    cond (lt threshold point.modulus)
    (not (le (convergence_test point order) one) && (trials_unmet point order || not_a_start (start_by_trials point order)))
    (not_a_start (formula_of point order.rotation))
