-- Bytes written over others: what was there keeps its length, and one part behind another is the two as one. Assumes nothing.
use mathlib.Core.Path.{◌≡◌, sym, ap, ◌∙◌}
use mathlib.Core.List.{List, [], ◌++◌, append_assoc}
use Prim.Native.Nat.{ℕ, ◌+◌, ◌≤◌, ◌<◌}
use native.Mathlib.Nat.{add-zero}
use native.Mathlib.Omega.{arith}
use borrow.Author.Tests.{le-leb, lt-leb}
use lib.ListN.{length, take, drop, length-append, length-take, length-drop, take-append-drop}
use lib.Seq.{take_at, drop_at, drop-drop, length-take-le}
use Rattle.frame.specs.Over.{over, offered}

module _ (at : ℕ) (p q d : List ℕ) where
  pub over-length : at + length p ≤ length d → length (over at p d) ≡ length d
  unfolding over
  over-length h = simp (length-append, length-take, length-drop) (omega arith)

  front : at ≤ length d → length (take at d ++ p) ≡ at + length p
  front h = length-append (take at d) p ∙ ap (λ (k : ℕ). k + length p) (length-take-le at d h)

  -- what stands behind the first part
  behind : at ≤ length d → (k : ℕ) → drop (at + length p + k) (over at p d) ≡ drop (at + length p + k) d
  unfolding over
  behind h k =
      sym (drop-drop k (at + length p) (take at d ++ (p ++ drop (at + length p) d)))
      ∙ ap (λ (l : List ℕ). drop k (drop (at + length p) l)) (sym (append_assoc (take at d) p (drop (at + length p) d)))
      ∙ ap (drop k) (drop_at (take at d ++ p) (drop (at + length p) d) (at + length p) (front h))
      ∙ drop-drop k (at + length p) d

  before : at ≤ length d → take (at + length p) (over at p d) ≡ take at d ++ p
  unfolding over
  before h =
      ap (take (at + length p)) (sym (append_assoc (take at d) p (drop (at + length p) d)))
      ∙ take_at (take at d ++ p) (drop (at + length p) d) (at + length p) (front h)

  sum : at + length p + length q ≡ at + length (p ++ q)
  sum = simp length-append (omega arith)

  joined : at ≤ length d → over (at + length p) q (over at p d) ≡ over at (p ++ q) d
  unfolding over
  joined h =
      ap (λ (l : List ℕ). l ++ (q ++ drop (at + length p + length q) (over at p d))) (before h)
      ∙ ap (λ (l : List ℕ). (take at d ++ p) ++ (q ++ l)) (behind h (length q) ∙ ap (λ (m : ℕ). drop m d) sum)
      ∙ append_assoc (take at d) p (q ++ drop (at + length (p ++ q)) d)
      ∙ ap (λ (l : List ℕ). take at d ++ l) (sym (append_assoc p q (drop (at + length (p ++ q)) d)))

  pub over-over : (k : ℕ) → k ≡ at + length p → at ≤ length d → over k q (over at p d) ≡ over at (p ++ q) d
  over-over k e h = ap (λ (m : ℕ). over m q (over at p d)) e ∙ joined h

-- nothing written
pub over_none : (at : ℕ) (d : List ℕ) → over at [] d ≡ d
unfolding over
over_none at d = ap (λ (k : ℕ). take at d ++ drop k d) (add-zero at) ∙ take-append-drop at d

-- ---- offered: written where there is room, and else nothing
pub offered-room : (p d : List ℕ) → length p ≤ length d → offered p d ≡ over 0 p d
unfolding offered
offered-room p d h = simp (le-leb (length p) (length d) h)

pub offered-none : (p d : List ℕ) → length d < length p → offered p d ≡ d
unfolding offered
offered-none p d h = simp (lt-leb (length p) (length d) h)
