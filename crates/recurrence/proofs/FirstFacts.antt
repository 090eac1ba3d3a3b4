-- First orders on scale: how the zeros and the rungs of n orders hang together. Assumes nothing.
use mathlib.Core.Path.{◌≡◌, refl, sym, ◌∙◌}
use mathlib.Core.Logic.{◌⊎◌, inl, inr}
use mathlib.Core.Bool.{Bool, true, false, true≢false, cond}
use Prim.Native.Nat.{ℕ, ◌+◌, ◌-◌, ◌≤◌, ◌<◌}
use native.Mathlib.Omega.{arith}
use borrow.Author.Tests.{ltb-true, ltb-false}
use lib.Dec.{ltb}
use lib.Ieee.{Float}
use Rattle.complex.specs.declared.number.Complex.{Complex}
use Rattle.recurrence.specs.Trial.{Trial, kept, value_of, first_trial}
use Rattle.recurrence.specs.Search.{is_found, search_from}
use Rattle.recurrence.specs.First.{start_of, ended_of, settled_of, first_orders}
use Rattle.recurrence.specs.declared.search.Search.{Search}
use Rattle.recurrence.specs.Rule as rule
use Rattle.recurrence.specs.declared.first.FirstOrders.{FirstOrders}
use Rattle.recurrence.proofs.SearchFacts.{search-ends}

-- either two orders were found after the zeros, and there are as many rungs as zeros; or at most one, and n - 2 rungs
abbrev pub Counted : ℕ → FirstOrders → Type 0
Counted n r = ((r.zeros + 2 ≤ n) × (r.rungs ≡ r.zeros)) ⊎ ((n ≤ r.zeros + 1) × (r.zeros ≤ n) × (r.rungs ≡ n - 2))

ended-counted : (n : ℕ) (t : Trial) (rungs : ℕ) → rungs ≡ n - 2 → Counted n (ended_of n t rungs)
unfolding ended_of
ended-counted n t rungs e = inr (either (kept t))
  where
    either : (b : Bool) → (n ≤ cond b (n - 1) n + 1) × (cond b (n - 1) n ≤ n) × (rungs ≡ n - 2)
    either true = (omega arith, omega arith, e)
    either false = (omega arith, omega arith, e)

settled-counted : (n : ℕ) (s : Search) → 1 < n → s.rungs ≤ 0 + (n - 2) → (is_found s ≡ true) ⊎ (s.rungs ≡ 0 + (n - 2)) → Counted n (settled_of n s)
unfolding settled_of
settled-counted n s h l e = either (is_found s) refl
  where
    ends : is_found s ≡ false → (is_found s ≡ true) ⊎ (s.rungs ≡ 0 + (n - 2)) → s.rungs ≡ n - 2
    ends f (inl t) = absurd (true≢false (sym t ∙ f))
    ends f (inr k) = omega arith

    either : (b : Bool) → is_found s ≡ b
        → Counted n (cond b (record { zeros = s.rungs; first = value_of s.before; second = value_of s.latest; rungs = s.rungs }) (ended_of n s.latest s.rungs))
    either true f = inl (omega arith, refl)
    either false f = ended-counted n s.latest s.rungs (ends f e)

-- whatever the argument is: z itself, or what a search has lowered it to
pub first_counted : (argument : Complex) (order : Float) (n : ℕ) (first second two_over_z : Complex) → Counted n (first_orders argument order n first second two_over_z)
unfolding first_orders start_of
first_counted argument order n first second two_over_z = either (ltb n 2) refl
  where
    start : Search
    start = start_of argument first second

    none : (n : ℕ) → ltb n 2 ≡ true → 0 ≡ n - 2
    none n e = let h : n < 2 = ltb-true n 2 e in omega arith

    either : (few : Bool) → ltb n 2 ≡ few
        → Counted n (cond few (ended_of n (first_trial argument first) 0) (settled_of n (search_from rule.FirstOrders order two_over_z (n - 2) start)))
    either true e = ended-counted n (first_trial argument first) 0 (none n e)
    either false e =
        let h : 2 ≤ n = ltb-false n 2 e in
        let r = search-ends rule.FirstOrders order two_over_z (n - 2) start in
        settled-counted n (search_from rule.FirstOrders order two_over_z (n - 2) start) h r.few r.ended

-- so that with the rungs of a fill after the two orders found there are n - 2 in all
pub first-and-fill : (n : ℕ) (r : FirstOrders) → Counted n r → r.rungs + (n - (r.zeros + 2)) ≡ n - 2
first-and-fill n r (inl w) = omega (arith, w.0, w.1)
first-and-fill n r (inr w) = omega (arith, w.0, w.1, w.2)
