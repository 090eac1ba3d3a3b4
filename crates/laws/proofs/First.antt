-- A test that gives b at some index gives it at a first one; and a run whose stop test has a first index within the bound ends there, by that test. Assumes nothing.
use mathlib.Core.Path.{◌≡◌, refl, sym, ap, ◌∙◌, subst}
use mathlib.Core.Logic.{◌⊎◌, inl, inr}
use mathlib.Core.Bool.{Bool, true, false, not, beq}
use Prim.Native.Nat.{ℕ, zero, suc, ◌+◌, ◌-◌, ◌≤◌, ◌<◌}
use native.Mathlib.Nat.{zero-add, add-zero, add-suc, suc-add}
use native.Mathlib.Omega.{arith}
use lib.Dec.{T}
use Rattle.laws.specs.Run.{run, first_from}
use Rattle.laws.proofs.Run.{run-stop, run_on, found}

-- t gives b at n, and at no index below
pub record First (b : Bool) (t : ℕ → Bool) (n : ℕ) : Type 0 where
  pub here : t n ≡ b
  pub before : (i : ℕ) → i < n → t i ≡ not b

-- a test as an equation
pub passed : (b : Bool) → T b → b ≡ true
passed true t = refl
passed false t = absurd t

pub failed : (b : Bool) → T (not b) → b ≡ false
failed false t = refl
failed true t = absurd t

same : (a b : Bool) → beq a b ≡ true → a ≡ b
same false false e = refl
same false true e = e
same true false e = sym e
same true true e = refl

other : (a b : Bool) → beq a b ≡ false → a ≡ not b
other false false e = sym e
other false true e = refl
other true false e = refl
other true true e = e

module _ (b : Bool) (t : ℕ → Bool) where
  abbrev met : ℕ → Bool
  met i = beq (t i) b

  pub first : (n : ℕ) → t n ≡ b → (k : ℕ) × (k ≤ n) × First b t k
  first n e =
      let r = found met n 0 in
      let k = first_from met n 0 in
      (k, subst (λ (z : ℕ). k ≤ z) (zero-add n) r.to, record { here = at r.passes; before = λ i h. other (t i) b (r.before i (omega arith) h) })
    where
      at : (met (first_from met n 0) ≡ true) ⊎ (first_from met n 0 ≡ 0 + n) → t (first_from met n 0) ≡ b
      at (inl h) = same (t (first_from met n 0)) b h
      at (inr h) = ap t (h ∙ zero-add n) ∙ e

-- `at i` is the state after the steps 0 .. i - 1
module _ {S : Type 0} (stop : ℕ → S → Bool) (step : ℕ → S → S) (at : ℕ → S) (next : (i : ℕ) → at (suc i) ≡ step i (at i)) where
  abbrev stops : ℕ → Bool
  stops j = stop j (at j)

  run-from : (d i m : ℕ) → First true stops (i + d) → run stop step (d + m) i (at i) ≡ at (i + d)
  run-from zero i m f = run-stop stop step (0 + m) i (at i) (ap stops (sym (add-zero i)) ∙ f.here) ∙ ap at (sym (add-zero i))
  run-from (suc d) i m f =
      let shift : suc i + d ≡ i + suc d = suc-add i d ∙ sym (add-suc i d) in
      ap (λ (z : ℕ). run stop step z i (at i)) (suc-add d m)
      ∙ run_on stop step (d + m) i (at i) (f.before i (omega arith))
      ∙ ap (λ (z : S). run stop step (d + m) (suc i) z) (sym (next i))
      ∙ run-from d (suc i) m (subst (λ (z : ℕ). First true stops z) (sym shift) f)
      ∙ ap at shift

  pub run-first : (n m : ℕ) → n ≤ m → First true stops n → run stop step m 0 (at 0) ≡ at n
  run-first n m h f =
      let e : m ≡ n + (m - n) = omega arith in
      ap (λ (z : ℕ). run stop step z 0 (at 0)) e
      ∙ run-from n 0 (m - n) (subst (λ (z : ℕ). First true stops z) (sym (zero-add n)) f)
      ∙ ap at (zero-add n)
