-- The search gives no start exactly where docs/SCOPE.md's words for it apply, and Miller's seeds are refused exactly there. Assumes nothing.
use mathlib.Core.Path.{◌≡◌, refl, sym, ap, ◌∙◌, subst}
use mathlib.Core.Logic.{◌⊎◌, inl, inr}
use mathlib.Core.Bool.{Bool, true, false, not, cond, ◌&&◌, ◌||◌}
use Prim.Native.Nat.{ℕ, zero, suc, ◌+◌, ◌*◌, ◌≤◌, ◌<◌}
use native.Mathlib.Omega.{arith}
use borrow.Author.Tests.{ltb-true, leb-true, leb-false, lt-ltb, le-ltb}
use lib.Dec.{T, leb, ltb}
use lib.Ieee.{Float, nan, inf, fin, up, down, of_bits, neg, lt, le}
use lib.Ieee.Fits.{down_pos}
use lib.Ieee.Scale.{finite}
use Rattle.std.specs.Prelude.{Option, Some, None, is_none, is_err}
use Rattle.laws.specs.Run.{first_from}
use Rattle.laws.proofs.Run.{found}
use Rattle.laws.proofs.First.{passed}
use Rattle.laws.proofs.Order.{not-lt→le, le→Le}
use Rattle.machine.specs.Small.{one}
use Rattle.complex.specs.declared.number.Complex.{Complex}
use Rattle.miller.specs.declared.point.Point.{Point}
use Rattle.miller.specs.declared.point.Order.{Order}
use Rattle.miller.specs.Whole.{truncated}
use Rattle.miller.specs.Trials.{met_after, trials_taken, trial_index}
use Rattle.miller.specs.Search.{is_start, start_from, threshold, raw_start, corrected, convergence_test, by_recurrence, formula_of, start_of}
use Rattle.miller.specs.NoStart.{none_of, trials_unmet, no_number, minus_one_or_less, above_cap, not_a_start, start_by_trials, no_start}
use Rattle.miller.specs.Seeds.{seeds_at, seeds_of}

-- ---- a start that is none
beyond : (raw : Float) → T (finite raw) → T (lt (neg one) raw) → T (le raw (neg one)) → ⊥
unfolding lt neg of_bits
beyond nan f h g = absurd f
beyond (inf s) f h g = absurd f
beyond (fin false m e) f h g = let l = le→Le (fin false m e) (neg one) tt tt g in let d : 0 < down e = down_pos e in omega arith
beyond (fin true m e) f h g = let l = le→Le (fin true m e) (neg one) tt tt g in let k = ltb-true (m * up e * 1) (1 * 1 * down e) (passed _ h) in omega arith

one-finite : T (finite (neg one))
unfolding neg of_bits
one-finite = tt

low-exactly : (raw : Float) → T (finite raw) → le raw (neg one) ≡ not (lt (neg one) raw)
low-exactly raw f = go (lt (neg one) raw) (le raw (neg one)) refl refl
  where
    go : (a b : Bool) → lt (neg one) raw ≡ a → le raw (neg one) ≡ b → le raw (neg one) ≡ not a
    go true true p q = absurd (beyond raw f (subst T (sym p) tt) (subst T (sym q) tt))
    go true false p q = q
    go false b p q = passed (le raw (neg one)) (not-lt→le (neg one) raw one-finite f p)

cap-exactly : (n : ℕ) → ltb 256 n ≡ not (leb n 256)
cap-exactly n = go (leb n 256) refl
  where
    go : (b : Bool) → leb n 256 ≡ b → ltb 256 n ≡ not b
    go true e = le-ltb 256 n (leb-true n 256 e)
    go false e = lt-ltb 256 n (leb-false n 256 e)

from-exactly : (raw : Float) → not_a_start raw ≡ is_none (start_from raw)
unfolding not_a_start no_number minus_one_or_less above_cap start_from is_start
from-exactly raw = go (finite raw) refl
  where
    by : (b c : Bool) → (not b || not c) ≡ is_none (cond (b && c) (Some (truncated raw)) None)
    by true true = refl
    by true false = refl
    by false c = refl

    go : (a : Bool) → finite raw ≡ a → (not a || le raw (neg one) || ltb 256 (truncated raw)) ≡ is_none (cond (a && lt (neg one) raw && leb (truncated raw) 256) (Some (truncated raw)) None)
    go false e = refl
    go true e = rw (low-exactly raw (subst T (sym e) tt), cap-exactly (truncated raw)) (by (lt (neg one) raw) (leb (truncated raw) 256))

-- ---- the trials
module _ (test : ℕ → Bool) where
  and-false : (b : Bool) → (b && false) ≡ false
  and-false true = refl
  and-false false = refl

  none-all : (n : ℕ) → ((k : ℕ) → 1 ≤ k → k ≤ n → test k ≡ false) → none_of test n ≡ true
  unfolding none_of
  none-all zero h = refl
  none-all (suc n) h = rw (h (suc n) (omega arith) (omega arith)) (none-all n (λ k l m. h k l (omega arith)))

  one_passes : (n i : ℕ) → 1 ≤ i → i ≤ n → test i ≡ true → none_of test n ≡ false
  unfolding none_of
  one_passes zero i l h e = absurd (none i l h)
    where
      none : (i : ℕ) → 1 ≤ i → i ≤ 0 → ⊥
      none i l h = omega arith
  one_passes (suc n) i l h e = go (λ g. one_passes n i l g e) (leb i n) refl
    where
      go : (i ≤ n → none_of test n ≡ false) → (b : Bool) → leb i n ≡ b → (not (test (suc n)) && none_of test n) ≡ false
      go before true t = rw (before (leb-true i n t)) (and-false (not (test (suc n))))
      go before false t = let g = leb-false i n t in let z : suc n ≡ i = omega arith in rw (z, e) refl

  first-none : none_of test 30 ≡ not (leb (first_from test 30 1) 30)
  first-none = go (leb (first_from test 30 1) 30) refl
    where
      met : (i : ℕ) → i ≤ 30 → (test i ≡ true) ⊎ (i ≡ 1 + 30) → test i ≡ true
      met i h (inl e) = e
      met i h (inr e) = absurd (omega arith)

      go : (b : Bool) → leb (first_from test 30 1) 30 ≡ b → none_of test 30 ≡ not b
      go true e = let r = found test 30 1 in let h = leb-true (first_from test 30 1) 30 e in one_passes 30 (first_from test 30 1) r.from h (met (first_from test 30 1) h r.passes)
      go false e = let r = found test 30 1 in let h = leb-false (first_from test 30 1) 30 e in none-all 30 (λ k l m. r.before k l (omega arith))

-- ---- the search
module _ (point : Point) (order : Order) where
  trials-exactly : (trials_unmet point order || not_a_start (start_by_trials point order)) ≡ is_none (corrected point (trial_index point.modulus order.square (convergence_test point order)))
  unfolding trials_unmet start_by_trials trial_index trials_taken corrected
  trials-exactly =
      let test = met_after point.modulus order.square (convergence_test point order) in
      ap (λ (b : Bool). b || not_a_start (start_by_trials point order)) (first-none test) ∙ go (leb (first_from test 30 1) 30)
    where
      go : (b : Bool) → let i = first_from (met_after point.modulus order.square (convergence_test point order)) 30 1 in
          (not b || not_a_start (raw_start point (i + 1))) ≡ is_none (corrected point (cond b (Some (i + 1)) None))
      go true = from-exactly _
      go false = refl

  pub no-start-exactly : no_start point order ≡ is_none (start_of point order)
  unfolding no_start start_of by_recurrence
  no-start-exactly = go (lt threshold point.modulus) (le (convergence_test point order) one)
    where
      go : (a b : Bool) →
          cond a (not b && (trials_unmet point order || not_a_start (start_by_trials point order))) (not_a_start (formula_of point order.rotation))
          ≡ is_none (cond a (cond b (Some 1) (corrected point (trial_index point.modulus order.square (convergence_test point order)))) (start_from (formula_of point order.rotation)))
      go true true = refl
      go true false = trials-exactly
      go false b = from-exactly (formula_of point order.rotation)

-- ---- the seeds
pub refused-exactly : (point : Point) (order : Order) (coefficient : Complex) (alone : Bool) → no_start point order ≡ is_err (seeds_of point order coefficient alone)
unfolding seeds_of seeds_at
refused-exactly point order coefficient alone = no-start-exactly point order ∙ go (start_of point order)
  where
    go : (s : Option ℕ) → is_none s ≡ is_err (seeds_at point order coefficient alone s)
    go (Some k) = refl
    go None = refl
