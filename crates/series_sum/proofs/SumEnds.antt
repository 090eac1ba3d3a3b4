-- A sum that meets what it asks leaves by its own test, at the first term that passes it, the 19th or an earlier one: the bound of 19 does
-- not decide, and any larger one gives the same sum. Assumes nothing.
use mathlib.Core.Path.{◌≡◌, refl, sym, ap, ◌∙◌, subst}
use mathlib.Core.Bool.{Bool, true, false, not}
use Prim.Native.Nat.{ℕ, zero, suc, ◌+◌, ◌≤◌, ◌<◌}
use native.Mathlib.Nat.{le_trans}
use native.Mathlib.Numerals.{add-one}
use lib.Ieee.{Float, lt}
use Rattle.laws.specs.Iterate.{iterate}
use Rattle.laws.proofs.Iterate.{iterate-map}
use Rattle.laws.proofs.First.{First, run-first}
use Rattle.complex.specs.declared.number.Complex.{Complex}
use Rattle.series_sum.specs.declared.sum.Estimate.{Estimate}
use Rattle.series_sum.specs.declared.sum.Partial.{Partial}
use Rattle.series_sum.specs.Sum.{next_estimate, estimate_after, sum_tolerance, goes_on, start_sum, next_sum, is_summed, sum_within, sum_from}
use Rattle.series_sum.proofs.SumBound.{Summed, ends}

-- the sum with w as the square, x its modulus and u the order plus one
pub record EndsByTest (w : Complex) (x u : Float) : Type 0 where
  pub few : (sum_from w x u (sum_tolerance x u)).terms ≤ 19
  pub test : is_summed (sum_tolerance x u) (sum_from w x u (sum_tolerance x u)) ≡ true
  pub before : (i : ℕ) → i < (sum_from w x u (sum_tolerance x u)).terms → goes_on x u i ≡ true
  pub unbounded : (bound : ℕ) → 19 ≤ bound → sum_within bound w x u (sum_tolerance x u) ≡ sum_from w x u (sum_tolerance x u)

module _ (w : Complex) (x u : Float) where
  -- after i terms
  abbrev at : ℕ → Partial
  at i = iterate i (next_sum w x) (start_sum u)

  abbrev stop : ℕ → Partial → Bool
  stop i s = is_summed (sum_tolerance x u) s

  abbrev step : ℕ → Partial → Partial
  step i s = next_sum w x s

  at_next : (i : ℕ) → at (suc i) ≡ step i (at i)
  unfolding iterate
  at_next i = refl

  terms-at : (i : ℕ) → (at i).terms ≡ i
  unfolding iterate start_sum next_sum
  terms-at zero = refl
  terms-at (suc i) = ap (λ (n : ℕ). n + 1) (terms-at i) ∙ add-one i

  estimate-at : (i : ℕ) → (at i).estimate ≡ estimate_after x u i
  unfolding start_sum next_sum estimate_after
  estimate-at i = iterate-map i (next_sum w x) (next_estimate x) (λ s. s.estimate) (start_sum u) (λ s. refl)

  stops : (i : ℕ) → stop i (at i) ≡ not (goes_on x u i)
  unfolding is_summed goes_on
  stops i = ap (λ (e : Estimate). not (lt (sum_tolerance x u) e.error)) (estimate-at i)

  -- by its own test, after n terms
  by-test : (n : ℕ) → n ≤ 19 → First false (goes_on x u) n → EndsByTest w x u
  unfolding iterate sum_from sum_within
  by-test n l f =
      let g : First true (λ i. stop i (at i)) n = record { here = stops n ∙ ap not f.here; before = λ i h. stops i ∙ ap not (f.before i h) } in
      let whole : (bound : ℕ) → n ≤ bound → sum_within bound w x u (sum_tolerance x u) ≡ at n = λ bound h. run-first stop step at at_next n bound h g in
      let here : sum_from w x u (sum_tolerance x u) ≡ at n = whole 19 l in
      let count : n ≡ (sum_from w x u (sum_tolerance x u)).terms = sym (ap (λ (s : Partial). s.terms) here ∙ terms-at n) in
      record {
        few = subst (λ (k : ℕ). k ≤ 19) count l;
        test = ap (λ (s : Partial). is_summed (sum_tolerance x u) s) here ∙ g.here;
        before = λ i h. f.before i (subst (λ (k : ℕ). i < k) (sym count) h);
        unbounded = λ bound h. whole bound (le_trans l h) ∙ sym here;
      }

  pub sum-ends : Summed x u → EndsByTest w x u
  sum-ends h = let e = ends x u h in by-test e.0 e.1 e.2
