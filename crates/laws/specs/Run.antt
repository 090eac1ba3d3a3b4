-- A run with a bound, a stop test and a count, and a search with a bound. Definitions only.
-- The test is an argument to match on, since a recursive call that stands under a `cond` is evaluated whether or not the test passes.
use Rattle.std.specs.Prelude.{ℕ, zero, suc, Bool, true, false}

-- at most n steps from the state s at the count i; b says whether the run stops here
unfoldable pub run_if : {S : Type 0} → (ℕ → S → Bool) → (ℕ → S → S) → ℕ → Bool → ℕ → S → S
run_if stop step zero b i s = s
run_if stop step (suc n) true i s = s
run_if stop step (suc n) false i s = run_if stop step n (stop (suc i) (step i s)) (suc i) (step i s)

unfoldable pub run : {S : Type 0} → (ℕ → S → Bool) → (ℕ → S → S) → ℕ → ℕ → S → S
unfolding run_if
run stop step n i s = run_if stop step n (stop i s) i s

-- the first of the n indices from i on that passes the test, and i + n where none does; b says whether i passes
unfoldable pub first_if : (ℕ → Bool) → ℕ → Bool → ℕ → ℕ
first_if test zero b i = i
first_if test (suc n) true i = i
first_if test (suc n) false i = first_if test n (test (suc i)) (suc i)

unfoldable pub first_from : (ℕ → Bool) → ℕ → ℕ → ℕ
unfolding first_if
first_from test n i = first_if test n (test i) i
