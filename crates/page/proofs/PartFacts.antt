-- What a line counts for in a cell, by the cell's place. Assumes nothing.
use Rattle.frame.specs.declared.reading.Record.{Record}
use Rattle.std.proofs.Common.{Option}
use mathlib.Core.Path.{◌≡◌, refl, sym, ap, subst}
use mathlib.Core.Bool.{Bool, true, false}
use Prim.Native.Nat.{ℕ, ◌+◌, ◌-◌, ◌≤◌, ◌<◌}
use native.Mathlib.Omega.{arith}
use borrow.Author.Tests.{lt-ltb, le-ltb, ltb-true, ltb-false, eqb-true, eqb-false}
use lib.Dec.{ltb, eqb}
use Rattle.page.specs.Layout.{numbers, reserved_at, longest_at, rungs_at, cells}
use Rattle.page.specs.Parts.{as_number, as_longest, end_at, part_at}

-- ---- by its place
module _ (s : Option Record) where
  pub number-part : (i : ℕ) → i < numbers → part_at i s ≡ as_number i s
  unfolding part_at
  number-part i h = simp (lt-ltb i numbers h)

  pub reserved-part : part_at reserved_at s ≡ 0
  unfolding part_at
  reserved-part = refl

  pub longest-part : (l : ℕ) → l < 20 → part_at (longest_at + l) s ≡ as_longest l s
  unfolding part_at
  longest-part l h =
      let e : longest_at + l - longest_at ≡ l = omega arith in
      simp (le-ltb (longest_at + l) numbers (omega arith), le-ltb (longest_at + l) longest_at (omega arith), lt-ltb (longest_at + l) rungs_at (omega arith))
      (ap (λ (k : ℕ). as_longest k s) e)

  pub end-part : (j : ℕ) → part_at (rungs_at + j) s ≡ end_at j s
  unfolding part_at
  end-part j =
      let e : rungs_at + j - rungs_at ≡ j = omega arith in
      simp (le-ltb (rungs_at + j) numbers (omega arith), le-ltb (rungs_at + j) longest_at (omega arith), le-ltb (rungs_at + j) rungs_at (omega arith))
      (ap (λ (k : ℕ). end_at k s) e)

-- ---- what holds at every place holds at every cell: numbers, the reserve, longest sums, and the last five
pub at_cells :
    (P : ℕ → Type 0) → ((i : ℕ) → i < numbers → P i) → P reserved_at → ((l : ℕ) → l < 20 → P (longest_at + l)) → ((j : ℕ) → j < 5 → P (rungs_at + j)) →
    (i : ℕ) → i < cells → P i
at_cells P n r l e i h = go (ltb i numbers) refl
  where
    sums : (b : Bool) → ltb i rungs_at ≡ b → numbers < i → P i
    sums true k m = let t = ltb-true i rungs_at k in let q : longest_at + (i - longest_at) ≡ i = omega arith in subst P q (l (i - longest_at) (omega arith))
    sums false k m = let t = ltb-false i rungs_at k in let q : rungs_at + (i - rungs_at) ≡ i = omega arith in subst P q (e (i - rungs_at) (omega arith))

    behind : (b : Bool) → eqb i reserved_at ≡ b → numbers ≤ i → P i
    behind true k m = subst P (sym (eqb-true i reserved_at k)) r
    behind false k m = let t = eqb-false i reserved_at k in sums (ltb i rungs_at) refl (omega arith)

    go : (b : Bool) → ltb i numbers ≡ b → P i
    go true k = n i (ltb-true i numbers k)
    go false k = behind (eqb i reserved_at) refl (ltb-false i numbers k)
