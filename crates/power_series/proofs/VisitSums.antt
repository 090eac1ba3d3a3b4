-- Every sum that a visit begins, after refusal 5's test, leaves by its own test, after 19 terms at most: each order at which a seed is
-- still wanted is one that the visit reaches past zeroed orders and past one seed. Assumes nothing.
use mathlib.Core.Path.{◌≡◌, refl, sym, ap, ◌∙◌, subst}
use mathlib.Core.Bool.{Bool, true, false}
use Prim.Native.Nat.{ℕ, suc, ◌+◌, ◌-◌, ◌^◌, ◌≤◌, ◌<◌}
use native.Mathlib.Omega.{arith}
use lib.Dec.{ltb}
use lib.Ieee.{Float, lt}
use borrow.Author.Tests.{lt-ltb, le-ltb}
use Rattle.laws.specs.Run.{run}
use Rattle.laws.proofs.Run.{run_ends}
use Rattle.laws.proofs.Bound.{Up}
use Rattle.complex.specs.declared.number.Complex.{Complex}
use Rattle.series_sum.specs.Sum.{sum_is_one}
use Rattle.series_sum.proofs.SumEnds.{EndsByTest, sum-ends}
use Rattle.series_step.specs.declared.setting.Setting.{Setting}
use Rattle.series_step.specs.declared.descent.Descent.{Descent}
use Rattle.series_step.specs.Setting.{order_at, order_plus_one, half_square, setting_of}
use Rattle.series_step.specs.Descent.{start_descent}
use Rattle.series_step.specs.Step.{step_of}
use Rattle.series_step.proofs.StepFacts.{Zeroed, Kept, Did, zeroed, kept, recurred, did}
use Rattle.power_series.specs.Series.{beyond_series}
use Rattle.power_series.specs.Visit.{Walk, start_walk, is_stopped, with_entry, next_walk}
use Rattle.power_series.proofs.VisitBound.{Arrives, start, past-zero, past-seed, visited, arrives-low, arrives-below}
use Rattle.power_series.proofs.WalkFacts.{stopping, stepping}

-- the visit of n orders after i of them, or where it stopped before
abbrev pub walk_after : Setting → ℕ → ℕ → Walk
walk_after g n i = run stopping (stepping g) i 0 (start_walk n)

-- a seed is wanted at the next order, v + (left - 1)
pub record Wanted (w : Walk) : Type 0 where
  pub on : w.standing.state.stopped ≡ false
  pub more : 0 < w.standing.left
  pub seeds : w.standing.state.seeded < 2

module _ (g : Setting) (m : Float) (n : ℕ) (square : g.abs_half_z_sq ≡ half_square m) (passed : beyond_series g.order n m ≡ false) where
  abbrev Open : Walk → Type 0
  Open w = Wanted w → Arrives g.order n m (w.standing.left - 1) (ltb 0 w.standing.state.seeded)

  opens : Open (start_walk n)
  unfolding start_walk start_descent
  opens h = start passed

  module _ (left : ℕ) (s t : Descent) (before : s.seeded < 2 → Arrives g.order n m (left - 1) (ltb 0 s.seeded)) where
    down : (k : ℕ) {b : Bool} → left - 1 ≡ suc k → Arrives g.order n m (left - 1) b → Arrives g.order n m (suc k) b
    down k {b} e r = subst (λ (j : ℕ). Arrives g.order n m j b) e r

    by_zero : (k : ℕ) → left - 1 ≡ suc k → Zeroed g (left - 1) s t → t.stopped ≡ false → Arrives g.order n m k (ltb 0 t.seeded)
    by_zero k e z o =
        let below : lt (order_at g.order (suc k)) (half_square m) ≡ false =
        ap (λ (j : ℕ). lt (order_at g.order j) (half_square m)) (sym e) ∙ ap (lt (order_at g.order (left - 1))) (sym square) ∙ sym z.stopped ∙ o in
        subst (λ (q : ℕ). Arrives g.order n m k (ltb 0 q)) (sym z.seeded) (past-zero below (down k e (before z.open-seed)))

    by-seed : (k : ℕ) → left - 1 ≡ suc k → Kept s t → t.seeded < 2 → Arrives g.order n m k (ltb 0 t.seeded)
    by-seed k e z h =
        let count : t.seeded ≡ s.seeded + 1 = z.seeded in
        let none : ltb 0 s.seeded ≡ false = le-ltb 0 s.seeded (omega arith) in
        let one : ltb 0 t.seeded ≡ true = lt-ltb 0 t.seeded (omega arith) in
        subst (λ (b : Bool). Arrives g.order n m k b) (sym one) (past-seed (down k e (subst (λ (b : Bool). Arrives g.order n m (left - 1) b) none (before z.open-seed))))

    by_way : (k : ℕ) → left - 1 ≡ suc k → Did g (left - 1) s t → t.stopped ≡ false → t.seeded < 2 → Arrives g.order n m k (ltb 0 t.seeded)
    by_way k e (zeroed z) o h = by_zero k e z o
    by_way k e (kept z) o h = by-seed k e z h
    by_way k e (recurred z) o h = absurd (full s.seeded t.seeded z.both z.seeded h)
      where
        full : (a b : ℕ) → 2 ≤ a → b ≡ a → b < 2 → ⊥
        full a b p q r = omega arith

  keeps : (i : ℕ) (w : Walk) → is_stopped w ≡ false → Open w → Open (next_walk g w)
  unfolding is_stopped next_walk with_entry
  keeps i w e o h =
      let left = w.standing.left in
      let s = w.standing.state in
      let t = step_of g (left - 1) s in
      let more : 0 < left - 1 = h.more in
      by_way left s t (λ q. o (record { on = e; more = omega arith; seeds = q })) (left - 1 - 1) (omega arith) (did g (left - 1) s) h.on h.seeds

  wanted-arrives : (i : ℕ) → Wanted (walk_after g n i) → Arrives g.order n m ((walk_after g n i).standing.left - 1) (ltb 0 (walk_after g n i).standing.state.seeded)
  wanted-arrives i = (run_ends stopping (stepping g) (λ j w. Open w) keeps i 0 (start_walk n) opens).holds

-- the visit at z, of modulus m, over n orders from v up: wherever it wants a seed and its sum is not 1 at once
pub visit-sums-end :
    (scaled turned : Bool) (v : Float) (z : Complex) (m : Float) (n : ℕ) → Up v 1000 1 → Up m (2 ^ 16) 1 → n ≤ 512 → beyond_series v n m ≡ false →
    (i : ℕ) → Wanted (walk_after (setting_of scaled turned v z m) n i) →
    sum_is_one (half_square m) (order_plus_one v ((walk_after (setting_of scaled turned v z m) n i).standing.left - 1)) ≡ false →
    EndsByTest (setting_of scaled turned v z m).half_z_sq (half_square m) (order_plus_one v ((walk_after (setting_of scaled turned v z m) n i).standing.left - 1))
unfolding setting_of
visit-sums-end scaled turned v z m n limit bound few passed i h e =
    let g = setting_of scaled turned v z m in
    let k = (walk_after g n i).standing.left - 1 in
    let r : Arrives v n m k (ltb 0 (walk_after g n i).standing.state.seeded) = wanted-arrives g m n refl passed i h in
    sum-ends g.half_z_sq (half_square m) (order_plus_one v k)
    (visited v limit k (ltb 0 (walk_after g n i).standing.state.seeded) (half_square m) (arrives-low v limit n few m bound r) (arrives-below v limit n few m bound r) e)
