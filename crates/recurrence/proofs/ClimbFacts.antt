-- The plain climb: one rung more, before the others or behind them, two climbs in a row; each rung is counted once, and the state moves at most twice.
-- Assumes nothing.
use mathlib.Core.Path.{◌≡◌, refl, sym, ap, ◌∙◌}
use mathlib.Core.Bool.{Bool, true, false, cond}
use Prim.Native.Nat.{ℕ, zero, suc, ◌+◌, ◌≤◌}
use native.Mathlib.Nat.{add-zero, zero-add, add-suc, suc-add}
use native.Mathlib.Omega.{arith}
use lib.Dec.{lit≤}
use lib.Ieee.{Float}
use Rattle.laws.specs.Run.{run}
use Rattle.laws.proofs.Run.{run_out, run_on}
use Rattle.complex.specs.declared.number.Complex.{Complex}
use Rattle.complex.specs.Arithmetic.{times_real}
use Rattle.recurrence.specs.State.{reciprocal_of, moved_on, place_of}
use Rattle.recurrence.specs.Rung.{factor_of, next_of, passes, moved_climb, rung_of}
use Rattle.recurrence.specs.Climb.{never, climb_from, moves_from}
use Rattle.recurrence.specs.declared.state.OverflowState.{OverflowState}
use Rattle.recurrence.specs.declared.state.OverflowState.TheVariants.{NearUnder, None, NearOver}
use Rattle.recurrence.specs.declared.state.Climb.{Climb}

last-place : (s : OverflowState) → place_of s ≤ 2
unfolding place_of
last-place NearUnder = lit≤ tt
last-place None = lit≤ tt
last-place NearOver = lit≤ tt

-- ---- a run that no test ends
module _ {S : Type 0} (step : ℕ → S → S) where
  -- two in a row are one
  plain-again : (i m n : ℕ) (s : S) → run never step n (i + m) (run never step m i s) ≡ run never step (m + n) i s
  plain-again i zero n s =
      ap (λ (k : ℕ). run never step n k (run never step 0 i s)) (add-zero i)
      ∙ ap (run never step n i) (run_out never step i s)
      ∙ ap (λ (k : ℕ). run never step k i s) (sym (zero-add n))
  plain-again i (suc m) n s =
      ap (λ (k : ℕ). run never step n k (run never step (suc m) i s)) (add-suc i m ∙ sym (suc-add i m))
      ∙ ap (run never step n (suc i + m)) (run_on never step m i s refl)
      ∙ plain-again (suc i) m n (step i s)
      ∙ sym (ap (λ (k : ℕ). run never step k i s) (suc-add m n) ∙ run_on never step (m + n) i s refl)

  pub plain-last : (i n : ℕ) (s : S) → run never step (n + 1) i s ≡ step (i + n) (run never step n i s)
  plain-last i n s =
      sym (plain-again i n 1 s)
      ∙ run_on never step 0 (i + n) (run never step n i s) refl
      ∙ run_out never step (suc (i + n)) (step (i + n) (run never step n i s))

-- ---- the climb
module _ (two_over_z : Complex) (base_order : Float) where
  pub climb-out : (i : ℕ) (c : Climb) → climb_from two_over_z base_order i 0 c ≡ c
  unfolding climb_from
  climb-out i c = run_out never _ i c

  pub climb-on : (i n : ℕ) (c : Climb) → climb_from two_over_z base_order i (suc n) c ≡ climb_from two_over_z base_order (suc i) n (rung_of two_over_z base_order i c).climb
  unfolding climb_from
  climb-on i n c = run_on never _ n i c refl

  -- ---- each rung is counted once
  pub rung-counted : (i : ℕ) (c : Climb) → (rung_of two_over_z base_order i c).climb.rungs ≡ c.rungs + 1
  unfolding rung_of moved_climb
  rung-counted i c = either (passes c.state entry)
    where
      next : Complex
      next = next_of (factor_of two_over_z base_order i) c.older c.newer

      entry : Complex
      entry = times_real next (reciprocal_of c.state)

      either : (b : Bool) → (cond b (moved_climb c.newer entry c.state (c.rungs + 1)) (record { older = c.newer; newer = next; state = c.state; rungs = c.rungs + 1 })).rungs ≡ c.rungs + 1
      either true = refl
      either false = refl

  pub rungs-climbed : (i n : ℕ) (c : Climb) → (climb_from two_over_z base_order i n c).rungs ≡ c.rungs + n
  rungs-climbed i zero c = ap (λ (d : Climb). d.rungs) (climb-out i c) ∙ sym (add-zero c.rungs)
  rungs-climbed i (suc n) c =
      ap (λ (d : Climb). d.rungs) (climb-on i n c) ∙ rungs-climbed (suc i) n (rung_of two_over_z base_order i c).climb ∙ more (rung_of two_over_z base_order i c).climb.rungs c.rungs n (rung-counted i c)
    where
      more : (a b n : ℕ) → a ≡ b + 1 → a + n ≡ b + suc n
      more a b n e = omega arith

  -- two climbs in a row are one
  pub climb-again : (i m n : ℕ) (c : Climb) → climb_from two_over_z base_order (i + m) n (climb_from two_over_z base_order i m c) ≡ climb_from two_over_z base_order i (m + n) c
  unfolding climb_from
  climb-again i m n c = plain-again _ i m n c

  pub climb-last : (i n : ℕ) (c : Climb) → climb_from two_over_z base_order i (n + 1) c ≡ (rung_of two_over_z base_order (i + n) (climb_from two_over_z base_order i n c)).climb
  unfolding climb_from
  climb-last i n c = plain-last _ i n c

  -- ---- the state moves one place on at a time, and at most twice
  rung-place : (i : ℕ) (c : Climb) → place_of (rung_of two_over_z base_order i c).climb.state ≡ cond (rung_of two_over_z base_order i c).moved 1 0 + place_of c.state
  unfolding rung_of moved_climb place_of moved_on passes
  rung-place i c = each c.state (passes c.state entry) refl
    where
      next : Complex
      next = next_of (factor_of two_over_z base_order i) c.older c.newer

      entry : Complex
      entry = times_real next (reciprocal_of c.state)

      each : (s : OverflowState) (b : Bool) → passes s entry ≡ b
          → place_of (cond b (moved_climb c.newer entry s (c.rungs + 1)) (record { older = c.newer; newer = next; state = s; rungs = c.rungs + 1 })).state ≡ cond b 1 0 + place_of s
      each NearUnder true e = refl
      each NearUnder false e = refl
      each None true e = refl
      each None false e = refl
      each NearOver true e = let z : ◌≡◌ {A = ℕ} 0 1 = ap (λ (b : Bool). cond b 1 0) e in absurd (never-one z)
        where
          never-one : ◌≡◌ {A = ℕ} 0 1 → ⊥
          never-one z = omega arith
      each NearOver false e = refl

  pub moves-counted : (i n : ℕ) (c : Climb) → place_of (climb_from two_over_z base_order i n c).state ≡ moves_from two_over_z base_order i n c + place_of c.state
  unfolding moves_from
  moves-counted i zero c = ap (λ (d : Climb). place_of d.state) (climb-out i c) ∙ sym (zero-add (place_of c.state))
  moves-counted i (suc n) c =
      let r = rung_of two_over_z base_order i c in
      ap (λ (d : Climb). place_of d.state) (climb-on i n c)
      ∙ moves-counted (suc i) n r.climb
      ∙ more (place_of r.climb.state) (cond r.moved 1 0) (place_of c.state) (moves_from two_over_z base_order (suc i) n r.climb) (rung-place i c)
    where
      more : (p b q m : ℕ) → p ≡ b + q → m + p ≡ b + m + q
      more p b q m e = omega arith

  pub two-moves : (i n : ℕ) (c : Climb) → moves_from two_over_z base_order i n c ≤ 2
  two-moves i n c = few (place_of (climb_from two_over_z base_order i n c).state) (moves_from two_over_z base_order i n c) (place_of c.state) (last-place (climb_from two_over_z base_order i n c).state) (moves-counted i n c)
    where
      few : (p m q : ℕ) → p ≤ 2 → p ≡ m + q → m ≤ 2
      few p m q h e = omega arith

-- nor in a plain climb and the climb that fills after it, which counts from another order
pub two-moves-in-all : (two_over_z : Complex) (base_order base_order' : Float) (i n j m : ℕ) (c : Climb)
    → moves_from two_over_z base_order i n c + moves_from two_over_z base_order' j m (climb_from two_over_z base_order i n c) ≤ 2
two-moves-in-all two_over_z base_order base_order' i n j m c =
    let d = climb_from two_over_z base_order i n c in
    let e = climb_from two_over_z base_order' j m d in
    few (place_of e.state) (moves_from two_over_z base_order' j m d) (place_of d.state) (moves_from two_over_z base_order i n c) (place_of c.state) (last-place e.state) (moves-counted two_over_z base_order' j m d) (moves-counted two_over_z base_order i n c)
  where
    few : (p m q n r : ℕ) → p ≤ 2 → p ≡ m + q → q ≡ n + r → n + m ≤ 2
    few p m q n r h e g = omega arith
