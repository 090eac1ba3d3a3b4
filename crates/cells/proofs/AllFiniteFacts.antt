-- Cells that are all finite, from an index on: one cell further, a chunk of eight further, with a product that has taken them in; and the end.
-- Assumes nothing.
use mathlib.Core.Path.{◌≡◌, refl, sym, ap, ◌∙◌}
use mathlib.Core.Bool.{Bool, true, false, ◌&&◌}
use mathlib.Core.List.{List, []}
use Prim.Native.Nat.{ℕ, zero, suc, ◌+◌, ◌*◌, ◌≤◌, ◌<◌}
use native.Mathlib.Nat.{add_assoc}
use native.Mathlib.Numerals.{add-one}
use native.Mathlib.Omega.{arith}
use lib.Ieee.{Float, nan}
use lib.Ieee.Scale.{finite}
use lib.ListN.{length, drop, get_or, drop_of_length-le}
use lib.Seq.{drop-cons}
use Rattle.std.specs.Simd.{first_chunks}
use Rattle.std.proofs.lemmas.List.{get_or-take, get_or-drop}
use Rattle.laws.specs.Operators.{◌⊗◌}
use Rattle.cells.specs.AllFinite.{all_finite}
use Rattle.cells.specs.shapes.Nought.{Nought}
use Rattle.cells.proofs.NoughtFacts.{times-finite, and-of, together, row-of-eight, Noughts, together-on}

here : (l : List Float) (i : ℕ) (d : Float) → i < length l → all_finite (drop i l) ≡ (finite (get_or l i d) && all_finite (drop (i + 1) l))
unfolding all_finite
here l i d h = rw (add-one, drop-cons l i d)

-- the same where the index is some way on
there : (l : List Float) (i k : ℕ) (d : Float) → i + k < length l → all_finite (drop (i + k) l) ≡ (finite (get_or l (i + k) d) && all_finite (drop (i + (k + 1)) l))
there l i k d h = here l (i + k) d h ∙ ap (λ (j : ℕ). finite (get_or l (i + k) d) && all_finite (drop j l)) (add_assoc i k 1)

-- a product takes a cell in
pub all-next : (l : List Float) (i : ℕ) (d z : Float) → i < length l → Nought z → (finite z && all_finite (drop i l)) ≡ (finite (z ⊗ get_or l i d) && all_finite (drop (i + 1) l))
all-next l i d z h n =
    ap (λ (b : Bool). finite z && b) (here l i d h)
    ∙ and-of (finite z) (finite (get_or l i d)) (all_finite (drop (i + 1) l))
    ∙ ap (λ (b : Bool). b && all_finite (drop (i + 1) l)) (sym (times-finite z (get_or l i d) n))

-- eight cells
all-eight : (l : List Float) (i : ℕ) (d : Float) → i + 8 ≤ length l
    → all_finite (drop i l) ≡ (together (get_or l i d) (get_or l (i + 1) d) (get_or l (i + 2) d) (get_or l (i + 3) d) (get_or l (i + 4) d) (get_or l (i + 5) d) (get_or l (i + 6) d) (get_or l (i + 7) d) && all_finite (drop (i + 8) l))
all-eight l i d h =
    let x : ℕ → Bool = λ k. finite (get_or l (i + k) d) in
    here l i d (omega arith)
    ∙ ap (λ (b : Bool). finite (get_or l i d) && b)
    (there l i 1 d (omega arith)
    ∙ ap (λ (b : Bool). x 1 && b)
    (there l i 2 d (omega arith)
    ∙ ap (λ (b : Bool). x 2 && b)
    (there l i 3 d (omega arith)
    ∙ ap (λ (b : Bool). x 3 && b)
    (there l i 4 d (omega arith)
    ∙ ap (λ (b : Bool). x 4 && b)
    (there l i 5 d (omega arith)
    ∙ ap (λ (b : Bool). x 5 && b)
    (there l i 6 d (omega arith)
    ∙ ap (λ (b : Bool). x 6 && b)
    (there l i 7 d (omega arith))))))))
    ∙ row-of-eight (get_or l i d) (get_or l (i + 1) d) (get_or l (i + 2) d) (get_or l (i + 3) d) (get_or l (i + 4) d) (get_or l (i + 5) d) (get_or l (i + 6) d) (get_or l (i + 7) d) (all_finite (drop (i + 8) l))

-- eight products take one in each
pub eight-next : (l : List Float) (i : ℕ) (d a b c d' e f g h : Float) → i + 8 ≤ length l → Noughts a b c d' e f g h
    → (together a b c d' e f g h && all_finite (drop i l)) ≡ (together (a ⊗ get_or l i d) (b ⊗ get_or l (i + 1) d) (c ⊗ get_or l (i + 2) d) (d' ⊗ get_or l (i + 3) d) (e ⊗ get_or l (i + 4) d) (f ⊗ get_or l (i + 5) d) (g ⊗ get_or l (i + 6) d) (h ⊗ get_or l (i + 7) d) && all_finite (drop (i + 8) l))
eight-next l i d a b c d' e f g h k n =
    ap (λ (t : Bool). together a b c d' e f g h && t) (all-eight l i d k)
    ∙ and-of (together a b c d' e f g h) (together (get_or l i d) (get_or l (i + 1) d) (get_or l (i + 2) d) (get_or l (i + 3) d) (get_or l (i + 4) d) (get_or l (i + 5) d) (get_or l (i + 6) d) (get_or l (i + 7) d)) (all_finite (drop (i + 8) l))
    ∙ ap (λ (t : Bool). t && all_finite (drop (i + 8) l)) (sym (together-on a b c d' e f g h (get_or l i d) (get_or l (i + 1) d) (get_or l (i + 2) d) (get_or l (i + 3) d) (get_or l (i + 4) d) (get_or l (i + 5) d) (get_or l (i + 6) d) (get_or l (i + 7) d) n))

-- cell j of chunk k
chunk-at : (n k j : ℕ) (l : List Float) (d : Float) → k < n → j < 8 → get_or (get_or (first_chunks 8 n l) k []) j d ≡ get_or l (k * 8 + j) d
chunk-at zero k j l d h i = absurd (none k h)
  where
    none : (k : ℕ) → k < 0 → ⊥
    none k h = omega arith
chunk-at (suc n) zero j l d h i = get_or-take 8 l j d i ∙ ap (λ (m : ℕ). get_or l m d) (start j)
  where
    start : (j : ℕ) → j ≡ 0 * 8 + j
    start j = omega arith
chunk-at (suc n) (suc k) j l d h i = chunk-at n k j (drop 8 l) d (less n k h) i ∙ get_or-drop 8 l (k * 8 + j) d ∙ ap (λ (m : ℕ). get_or l m d) (on k j)
  where
    less : (n k : ℕ) → suc k < suc n → k < n
    less n k h = omega arith

    on : (k j : ℕ) → 8 + (k * 8 + j) ≡ suc k * 8 + j
    on k j = omega arith

-- the same by the chunks of a list
pub chunk-next : (l : List Float) (v : List (List Float)) (n k : ℕ) (a b c d e f g h : Float) → v ≡ first_chunks 8 n l → k < n → n * 8 ≤ length l → Noughts a b c d e f g h
    → (together a b c d e f g h && all_finite (drop (k * 8) l)) ≡ (together (a ⊗ get_or (get_or v k []) 0 nan) (b ⊗ get_or (get_or v k []) 1 nan) (c ⊗ get_or (get_or v k []) 2 nan) (d ⊗ get_or (get_or v k []) 3 nan) (e ⊗ get_or (get_or v k []) 4 nan) (f ⊗ get_or (get_or v k []) 5 nan) (g ⊗ get_or (get_or v k []) 6 nan) (h ⊗ get_or (get_or v k []) 7 nan) && all_finite (drop ((k + 1) * 8) l))
chunk-next l v n k a b c d e f g h V K N o =
    let at : (j : ℕ) → j < 8 → get_or (get_or v k []) j nan ≡ get_or l (k * 8 + j) nan = λ j J. ap (λ (w : List (List Float)). get_or (get_or w k []) j nan) V ∙ chunk-at n k j l nan K J in
    let first : get_or (get_or v k []) 0 nan ≡ get_or l (k * 8) nan = at 0 (omega arith) ∙ ap (λ (m : ℕ). get_or l m nan) (omega arith) in
    let end : (k + 1) * 8 ≡ k * 8 + 8 = omega arith in
    rw (first, at 1 (omega arith), at 2 (omega arith), at 3 (omega arith), at 4 (omega arith), at 5 (omega arith), at 6 (omega arith), at 7 (omega arith), end)
    (eight-next l (k * 8) nan a b c d e f g h (omega arith) o)

pub all_end : (l : List Float) (i : ℕ) (all : Bool) → length l ≤ i → (all && all_finite (drop i l)) ≡ all
unfolding all_finite
all_end l i all h = ap (λ (r : List Float). all && all_finite r) (drop_of_length-le l h) ∙ whole all
  where
    whole : (b : Bool) → (b && true) ≡ b
    whole true = refl
    whole false = refl
