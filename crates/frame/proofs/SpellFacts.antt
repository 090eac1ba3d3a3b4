-- Digits written from the last to the first: the record of how far it has come, with laws for the start, one digit, and the end.
-- Assumes nothing.
use mathlib.Core.Path.{◌≡◌, refl, sym, ap, ◌∙◌}
use mathlib.Core.List.{List, [], ◌∷◌, ◌++◌, append_assoc}
use Prim.Native.Nat.{ℕ, zero, suc, ◌+◌, ◌-◌, ◌/◌, ◌%◌, ◌≤◌, ◌<◌}
use native.Mathlib.Nat.{add-zero}
use native.Mathlib.Numerals.{add-one}
use native.Mathlib.Omega.{arith}
use lib.ListN.{length, take, drop, set, length-append, length-drop, take-append-drop}
use Rattle.laws.proofs.Seam.{Down, down-store, down-as, down-drop}
use Rattle.frame.specs.Digits.{digit_of, spelled_of}
use Rattle.frame.specs.Over.{over}

pub spelled-length : (k n : ℕ) → length (spelled_of k n) ≡ k
unfolding spelled_of
spelled-length zero n = refl
spelled-length (suc k) n = length-append (spelled_of k (n / 16)) (digit_of (n % 16) ∷ []) ∙ ap (λ (m : ℕ). m + 1) (spelled-length k (n / 16)) ∙ add-one k

-- i digits, those of `rest`, are still to be written, of `width` in all, those of n, from the place `at` of d on
pub record Spelling (n width at : ℕ) (d out : List ℕ) (rest i : ℕ) : Type 0 where
  pub below : i ≤ width
  pub down : Down d (drop (at + i) out) (at + i) out
  pub left : spelled_of i rest ++ drop (at + i) out ≡ spelled_of width n ++ drop (at + width) d

module _ (n width at : ℕ) (d : List ℕ) where
  pub spelling-start : at + width ≤ length d → Spelling n width at d d n width
  spelling-start h = record {
    below = omega arith;
    down = record { count = simp length-drop (omega arith); same = refl; is = sym (take-append-drop (at + width) d) };
    left = refl;
  }

  one_more : (k rest : ℕ) (q : List ℕ) → spelled_of k (rest / 16) ++ (digit_of (rest % 16) ∷ q) ≡ spelled_of (suc k) rest ++ q
  unfolding spelled_of
  one_more k rest q = sym (append_assoc (spelled_of k (rest / 16)) (digit_of (rest % 16) ∷ []) q)

  pub spelling-next : (out : List ℕ) (rest i : ℕ) → 0 < i → Spelling n width at d out rest i → Spelling n width at d (set out (at + (i - 1)) (digit_of (rest % 16))) (rest / 16) (i - 1)
  spelling-next out rest i h s =
      let j = i - 1 in
      let c = digit_of (rest % 16) in
      let q = drop (at + i) out in
      let stored : Down d (c ∷ q) (at + j) (set out (at + j) c) = down-store c (at + j) (at + i) refl (omega arith) s.down in
      let is : drop (at + j) (set out (at + j) c) ≡ c ∷ q = down-drop stored in
      let more : suc j ≡ i = omega arith in
      record {
        below = omega arith;
        down = down-as (sym is) stored;
        left = ap (λ (l : List ℕ). spelled_of j (rest / 16) ++ l) is ∙ one_more j rest q ∙ ap (λ (k : ℕ). spelled_of k rest ++ q) more ∙ s.left;
      }

  pub spelling-end : (out : List ℕ) (rest i : ℕ) → i ≤ 0 → Spelling n width at d out rest i → out ≡ over at (spelled_of width n) d
  unfolding over spelled_of
  spelling-end out rest i h s =
      let none : i ≡ 0 = omega arith in
      let whole : at + i ≡ at = ap (λ (k : ℕ). at + k) none ∙ add-zero at in
      let left : drop (at + i) out ≡ spelled_of width n ++ drop (at + width) d = ap (λ (k : ℕ). spelled_of k rest ++ drop (at + i) out) (sym none) ∙ s.left in
      s.down.is
      ∙ ap (λ (k : ℕ). take k d ++ drop (at + i) out) whole
      ∙ ap (λ (l : List ℕ). take at d ++ l) left
      ∙ ap (λ (k : ℕ). take at d ++ (spelled_of width n ++ drop (at + k) d)) (sym (spelled-length width n))
