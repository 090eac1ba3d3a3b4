-- Rows of cells by their places, a cell and what is added to it, and sums of parts. Assumes nothing.
use mathlib.Core.Path.{◌≡◌, refl, sym, ap, ◌∙◌}
use mathlib.Core.Logic.{◌⊎◌, inl, inr}
use mathlib.Core.Bool.{Bool, true, false, cond}
use mathlib.Core.List.{List, [], ◌∷◌, ◌++◌}
use Prim.Native.Nat.{ℕ, zero, suc, ◌+◌, ◌-◌, ◌≤◌, ◌<◌, min}
use native.Mathlib.Omega.{arith}
use borrow.Author.Tests.{le-leb, leb-true, leb-false, ne_eqb, eqb-true, eqb-false}
use lib.Dec.{leb, eqb}
use lib.ListN.{length, get_or, length-append, get_or-append}
use lib.Seq.{ext_get_or, get_or_at}
use Rattle.page.specs.Layout.{most_cell}
use Rattle.page.specs.Parts.{up_to, sum_up_to}
use Rattle.page.specs.Joining.{added_to}

-- ---- a row of n cells
pub up_to-length : (n : ℕ) (f : ℕ → ℕ) → length (up_to n f) ≡ n
unfolding up_to
up_to-length zero f = refl
up_to-length (suc n) f = let e = up_to-length n f in let k = length-append (up_to n f) (f n ∷ []) in omega arith

pub up_to-get : (n : ℕ) (f : ℕ → ℕ) (i : ℕ) → i < n → get_or (up_to n f) i 0 ≡ f i
unfolding up_to
up_to-get zero f i h = absurd (omega arith)
up_to-get (suc n) f i h = go (eqb i n) refl (λ k. up_to-get n f i k)
  where
    go : (b : Bool) → eqb i n ≡ b → (i < n → get_or (up_to n f) i 0 ≡ f i) → get_or (up_to n f ++ (f n ∷ [])) i 0 ≡ f i
    go true e w = let k = eqb-true i n e in get_or_at (up_to n f) (f n) [] 0 i (up_to-length n f ∙ sym k) ∙ ap f (sym k)
    go false e w =
        let k = eqb-false i n e in
        let l = up_to-length n f in
        get_or-append (up_to n f) (f n ∷ []) 0 i (omega arith) ∙ w (omega arith)

-- a list is the row of what it has at each place
pub row_is : (n : ℕ) (l : List ℕ) (f : ℕ → ℕ) → length l ≡ n → ((i : ℕ) → i < n → get_or l i 0 ≡ f i) → l ≡ up_to n f
row_is n l f k h =
    ext_get_or 0 l (up_to n f) (k ∙ sym (up_to-length n f))
    (λ i g. let j : i < n = omega arith in h i j ∙ sym (up_to-get n f i j))

pub up_to-same : (n : ℕ) (f g : ℕ → ℕ) → ((i : ℕ) → i < n → f i ≡ g i) → up_to n f ≡ up_to n g
up_to-same n f g h = row_is n (up_to n f) g (up_to-length n f) (λ i k. up_to-get n f i k ∙ h i k)

-- ---- a cell and what is added to it
module _ (a b : ℕ) where
  added-by : (t : Bool) → leb b (most_cell - a) ≡ t → ((b ≤ most_cell - a) × (added_to a b ≡ a + b)) ⊎ ((most_cell - a < b) × (added_to a b ≡ most_cell))
  unfolding added_to
  added-by true e = inl (leb-true b (most_cell - a) e, simp e)
  added-by false e = inr (leb-false b (most_cell - a) e, simp e)

  pub added_is : ((b ≤ most_cell - a) × (added_to a b ≡ a + b)) ⊎ ((most_cell - a < b) × (added_to a b ≡ most_cell))
  added_is = added-by (leb b (most_cell - a)) refl

  pub added-fits : a + b ≤ most_cell → added_to a b ≡ a + b
  unfolding added_to
  added-fits h = simp (le-leb b (most_cell - a) (omega arith))

-- of numbers of 64 bits it is the sum, or the most that they hold
pub added-min : (a b : ℕ) → a ≤ most_cell → added_to a b ≡ min (a + b) most_cell
added-min a b h = elim (added_is a b) [ inl p ↦ omega (arith, p) | inr p ↦ omega (arith, p) ]

pub added_none : (a : ℕ) → added_to a 0 ≡ a
unfolding added_to
added_none a = simp (le-leb 0 (most_cell - a) (omega arith)) (omega arith)

pub added_twice : (a b c : ℕ) → added_to (added_to a b) c ≡ added_to a (b + c)
added_twice a b c =
    elim (added_is a b) [
      | inl p ↦ elim (added_is (added_to a b) c) [
        | inl q ↦ elim (added_is a (b + c)) [ inl r ↦ omega (arith, p, q, r) | inr r ↦ omega (arith, p, q, r) ]
        | inr q ↦ elim (added_is a (b + c)) [ inl r ↦ omega (arith, p, q, r) | inr r ↦ omega (arith, p, q, r) ]
      ]
      | inr p ↦ elim (added_is (added_to a b) c) [
        | inl q ↦ elim (added_is a (b + c)) [ inl r ↦ omega (arith, p, q, r) | inr r ↦ omega (arith, p, q, r) ]
        | inr q ↦ elim (added_is a (b + c)) [ inl r ↦ omega (arith, p, q, r) | inr r ↦ omega (arith, p, q, r) ]
      ]
    ]

pub added-over : (a b c : ℕ) → added_to (added_to a b) c ≡ added_to a (added_to b c)
added-over a b c =
    added_twice a b c
    ∙ elim (added_is b c) [
      | inl p ↦ ap (added_to a) (sym p.1)
      | inr p ↦ elim (added_is a (b + c)) [
        | inl q ↦ elim (added_is a (added_to b c)) [ inl r ↦ omega (arith, p, q, r) | inr r ↦ omega (arith, p, q, r) ]
        | inr q ↦ elim (added_is a (added_to b c)) [ inl r ↦ omega (arith, p, q, r) | inr r ↦ omega (arith, p, q, r) ]
      ]
    ]

pub added-comm : (a b : ℕ) → a ≤ most_cell → b ≤ most_cell → added_to a b ≡ added_to b a
added-comm a b h k =
    elim (added_is a b) [
      | inl p ↦ elim (added_is b a) [ inl q ↦ omega (arith, p, q) | inr q ↦ omega (arith, p, q) ]
      | inr p ↦ elim (added_is b a) [ inl q ↦ omega (arith, p, q) | inr q ↦ omega (arith, p, q) ]
    ]

-- ---- sums of n parts
pub sum-few : (n : ℕ) (f g : ℕ → ℕ) → ((i : ℕ) → i < n → f i ≡ g i) → sum_up_to n f ≡ sum_up_to n g
unfolding sum_up_to
sum-few zero f g h = refl
sum-few (suc n) f g h = let e = sum-few n f g (λ i k. h i (omega arith)) in let k = h n (omega arith) in omega arith

pub sum_zeros : (n : ℕ) → sum_up_to n (λ i. 0) ≡ 0
unfolding sum_up_to
sum_zeros zero = refl
sum_zeros (suc n) = let e = sum_zeros n in omega arith

-- one of them is x and the others are 0
sum-beyond : (n m x : ℕ) → n ≤ m → sum_up_to n (λ i. cond (eqb m i) x 0) ≡ 0
unfolding sum_up_to
sum-beyond zero m x h = refl
sum-beyond (suc n) m x h = simp (ne_eqb m n (omega arith)) (let e = sum-beyond n m x (omega arith) in omega arith)

pub sum_one : (n m x : ℕ) → m < n → sum_up_to n (λ i. cond (eqb m i) x 0) ≡ x
unfolding sum_up_to
sum_one zero m x h = absurd (omega arith)
sum_one (suc n) m x h = go (eqb m n) refl (λ k. sum_one n m x k)
  where
    go : (b : Bool) → eqb m n ≡ b → (m < n → sum_up_to n (λ i. cond (eqb m i) x 0) ≡ x) → sum_up_to n (λ i. cond (eqb m i) x 0) + cond (eqb m n) x 0 ≡ x
    go true e w = simp e (let k = eqb-true m n e in let z = sum-beyond n m x (omega arith) in omega arith)
    go false e w = simp e (let k = eqb-false m n e in let z = w (omega arith) in omega arith)
