-- The cells as the code writes them are those of the definition: none, one entry, two entries and those of the climb; the zeros before them. Assumes nothing.
use mathlib.Core.Path.{◌≡◌, refl, sym, ap, ◌∙◌}
use mathlib.Core.List.{List, [], ◌∷◌, ◌++◌}
use Prim.Native.Nat.{ℕ, suc, ◌+◌, ◌-◌, ◌*◌, ◌/◌, ◌%◌, ◌≤◌, ◌<◌}
use native.Mathlib.Omega.{arith}
use lib.ListN.{length, set, take, replicate, length-set, length-replicate}
use lib.Ieee.{Float, binary64, of_bits}
use borrow.Rule.Slice.PartMut.{mid_of, post_of, put_mid}
use Rattle.laws.specs.Operators.{◌⊖◌}
use Rattle.laws.proofs.Seam.{seam-start, seam-pair, seam-take, seam-full}
use Rattle.laws.proofs.Part.{front_length, rest-length, put_rest, put_both, both-length}
use Rattle.machine.specs.Small.{one}
use Rattle.recurrence.specs.Fill.{fill_from}
use Rattle.recurrence.specs.declared.state.Climb.{Climb}
use Rattle.right_half_plane.specs.declared.ground.Ground.{Ground}
use Rattle.right_half_plane.specs.declared.lead.Lead.{Lead}
use Rattle.right_half_plane.specs.Kernel.{rest_of, lead_cells}

pub two_cells : (d : List Float) (a b : Float) → length d ≡ 2 → set (set d 0 a) 1 b ≡ a ∷ b ∷ []
two_cells d a b e = seam-full (few (length d) e) (seam-pair a b 0 1 2 refl refl refl (room (length d) e) (seam-start d))
  where
    few : (n : ℕ) → n ≡ 2 → n ≤ 2
    few n e = omega arith

    room : (n : ℕ) → n ≡ 2 → 1 < n
    room n e = omega arith

-- ---- an even number of cells, after two stores: two, or four and more
after_two : (d : List Float) (a b : Float) → length (set (set d 0 a) 1 b) ≡ length d
after_two d a b = simp length-set

pub only : (d : List Float) (a b : Float) → length (set (set d 0 a) 1 b) ≡ 2 → length d ≡ 2
only d a b e = sym (after_two d a b) ∙ e

pub many : (d : List Float) (a b : Float) → length d % 2 ≡ 0 → (length d ≡ 0 → ⊥) → (length (set (set d 0 a) 1 b) ≡ 2 → ⊥) → 4 ≤ length d
many d a b h n m = four (length d) h n (λ e. m (after_two d a b ∙ e))
  where
    four : (n : ℕ) → n % 2 ≡ 0 → (n ≡ 0 → ⊥) → (n ≡ 2 → ⊥) → 4 ≤ n
    four n h p q = omega arith

module _ (g : Ground) (lead : Lead) where
  pub rest-empty : (d : List Float) → length d ≡ 0 → (lead.climb.rungs ≡ (rest_of g lead (length d / 2)).rungs) × (d ≡ (rest_of g lead (length d / 2)).cells)
  unfolding rest_of
  rest-empty [] e = (refl, refl)
  rest-empty (x ∷ d) e = absurd (none (length d) e)
    where
      none : (n : ℕ) → suc n ≡ 0 → ⊥
      none n e = omega arith

  pub rest-one : (d : List Float) → length d ≡ 2 → (lead.climb.rungs ≡ (rest_of g lead (length d / 2)).rungs) × (set (set d 0 lead.first.re) 1 lead.first.im ≡ (rest_of g lead (length d / 2)).cells)
  unfolding rest_of
  rest-one d e =
      let h : length d / 2 ≡ 1 = half (length d) e in
      (sym (ap (λ (k : ℕ). (rest_of g lead k).rungs) h), two_cells d lead.first.re lead.first.im e ∙ sym (ap (λ (k : ℕ). (rest_of g lead k).cells) h))
    where
      half : (n : ℕ) → n ≡ 2 → n / 2 ≡ 1
      half n e = omega arith

  -- the two entries, stored
  abbrev pub stored : List Float → List Float
  stored d = set (set (set (set d 0 lead.first.re) 1 lead.first.im) 2 lead.second.re) 3 lead.second.im

  pub stored-length : (d : List Float) → length (stored d) ≡ length d
  stored-length d = simp length-set

  stored-front : (d : List Float) → 4 ≤ length d → take 4 (stored d) ≡ lead.first.re ∷ lead.first.im ∷ lead.second.re ∷ lead.second.im ∷ []
  stored-front d h =
      seam-take (seam-pair lead.second.re lead.second.im 2 3 4 refl refl refl (omega arith) (seam-pair lead.first.re lead.first.im 0 1 2 refl refl refl (omega arith) (seam-start d)))

  pub left_over : (d : List Float) → length (mid_of 4 (length (stored d) - 4) (stored d)) ≡ length d - 4
  left_over d = rest-length 4 (stored d) ∙ ap (λ (n : ℕ). n - 4) (stored-length d)

  -- and the climb that fills behind them, of m rungs
  module _ (d : List Float) (m : ℕ) (h : 4 ≤ length d) (k : m ≡ (length d - 4) / 2) where
    count : (n m : ℕ) → 4 ≤ n → m ≡ (n - 4) / 2 → n / 2 ≡ suc (suc m)
    count n m h k = omega arith

    pub rest_more : (ys : List Float) → ys ≡ (fill_from g.two_over_z (g.order ⊖ one) (lead.zeros + 2) m lead.climb).cells → put_mid 4 (length (stored d) - 4) (stored d) ys ≡ (rest_of g lead (length d / 2)).cells
    unfolding rest_of
    rest_more ys e =
        put_rest 4 (stored d) ys
        ∙ ap (λ (l : List Float). l ++ ys) (stored-front d h)
        ∙ ap (λ (l : List Float). lead.first.re ∷ lead.first.im ∷ lead.second.re ∷ lead.second.im ∷ l) e
        ∙ sym (ap (λ (n : ℕ). (rest_of g lead n).cells) (count (length d) m h k))

    pub rungs-more : (c : Climb) → c ≡ (fill_from g.two_over_z (g.order ⊖ one) (lead.zeros + 2) m lead.climb).climb → c.rungs ≡ (rest_of g lead (length d / 2)).rungs
    unfolding rest_of
    rungs-more c e = ap (λ (t : Climb). t.rungs) e ∙ sym (ap (λ (n : ℕ). (rest_of g lead n).rungs) (count (length d) m h k))

-- ---- the zeros, and then the rest: the cells xs, of which ys are the zeros and zs the rest
module _ (g : Ground) (lead : Lead) (xs ys : List Float) (h : length xs ≡ g.count * 2) (z : lead.zeros ≤ g.count) (e : ys ≡ replicate (length (mid_of 0 (lead.zeros * 2 - 0) xs)) (of_bits binary64 0)) where
  room : (n k l : ℕ) → l ≡ n * 2 → k ≤ n → k * 2 ≤ l
  room n k l h z = omega arith

  filled : ys ≡ replicate (lead.zeros * 2) (of_bits binary64 0)
  filled = e ∙ ap (λ (n : ℕ). replicate n (of_bits binary64 0)) (front_length (lead.zeros * 2) xs (room g.count lead.zeros (length xs) h z))

  filled-length : length ys ≡ lead.zeros * 2
  filled-length = ap length filled ∙ length-replicate (lead.zeros * 2) (of_bits binary64 0)

  abbrev pub lent : ℕ
  lent = length (mid_of (lead.zeros * 2) (length (ys ++ post_of 0 (lead.zeros * 2 - 0) xs) - lead.zeros * 2) (ys ++ post_of 0 (lead.zeros * 2 - 0) xs))

  pairs : lent / 2 ≡ g.count - lead.zeros
  pairs =
      ap (λ (n : ℕ). n / 2) (both-length (lead.zeros * 2) xs ys (room g.count lead.zeros (length xs) h z) filled-length)
      ∙ half g.count lead.zeros (length xs) h z
    where
      half : (n k l : ℕ) → l ≡ n * 2 → k ≤ n → (l - k * 2) / 2 ≡ n - k
      half n k l h z = omega arith

  pub delivered-rungs : (r : ℕ) → r ≡ (rest_of g lead (lent / 2)).rungs → r ≡ (rest_of g lead (g.count - lead.zeros)).rungs
  delivered-rungs r f = f ∙ ap (λ (n : ℕ). (rest_of g lead n).rungs) pairs

  pub delivered-cells : (zs : List Float) → zs ≡ (rest_of g lead (lent / 2)).cells
      → put_mid (lead.zeros * 2) (length (ys ++ post_of 0 (lead.zeros * 2 - 0) xs) - lead.zeros * 2) (ys ++ post_of 0 (lead.zeros * 2 - 0) xs) zs ≡ lead_cells g lead
  unfolding lead_cells
  delivered-cells zs f =
      put_both (lead.zeros * 2) xs ys zs filled-length
      ∙ ap (λ (l : List Float). l ++ zs) filled
      ∙ ap (λ (l : List Float). replicate (lead.zeros * 2) (of_bits binary64 0) ++ l) (f ∙ ap (λ (n : ℕ). (rest_of g lead n).cells) pairs)
