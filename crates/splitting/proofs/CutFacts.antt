-- An input of lines: cut anywhere it comes to the same lines, and they are those of the whole input, each as far as it is held. Assumes nothing.
use mathlib.Core.Path.{◌≡◌, refl, sym, ap, ◌∙◌}
use mathlib.Core.Bool.{Bool, true, false, cond}
use mathlib.Core.List.{List, [], ◌∷◌, ◌++◌}
use Prim.Native.Nat.{ℕ, zero, suc, ◌<◌}
use native.Mathlib.Omega.{arith}
use borrow.Author.Tests.{eq-eqb, ne_eqb}
use lib.Dec.{eqb}
use lib.ListN.{length, take}
use lib.Seq.{take-nil}
use Rattle.splitting.specs.Lines.{newline, last_of, lines_from, lines_of}
use Rattle.splitting.specs.Cut.{held_if, closed_if, left_by, ended_in, shortened}

-- ---- one byte
module _ (most : ℕ) (h : List ℕ) (b : ℕ) where
  pub left-newline : b ≡ newline → left_by most h (b ∷ []) ≡ []
  unfolding left_by held_if
  left-newline e = simp (eq-eqb b newline e)

  pub left_other : (b ≡ newline → ⊥) → left_by most h (b ∷ []) ≡ take most (h ++ (b ∷ []))
  unfolding left_by held_if
  left_other e = simp (ne_eqb b newline e)

  pub ended-newline : b ≡ newline → ended_in most h (b ∷ []) ≡ h ∷ []
  unfolding ended_in closed_if
  ended-newline e = simp (eq-eqb b newline e)

  pub ended-other : (b ≡ newline → ⊥) → ended_in most h (b ∷ []) ≡ []
  unfolding ended_in closed_if
  ended-other e = simp (ne_eqb b newline e)

-- ---- cut anywhere
pub left-append : (most : ℕ) (h a b : List ℕ) → left_by most (left_by most h a) b ≡ left_by most h (a ++ b)
unfolding left_by
left-append most h [] b = refl
left-append most h (c ∷ a) b = left-append most (held_if (eqb c newline) most h c) a b

closed-append : (t : Bool) (h : List ℕ) (a b : List (List ℕ)) → closed_if t h a ++ b ≡ closed_if t h (a ++ b)
unfolding closed_if
closed-append true h a b = refl
closed-append false h a b = refl

pub ended-append : (most : ℕ) (h a b : List ℕ) → ended_in most h a ++ ended_in most (left_by most h a) b ≡ ended_in most h (a ++ b)
unfolding ended_in left_by
ended-append most h [] b = refl
ended-append most h (c ∷ a) b =
    let t = eqb c newline in
    let k = held_if t most h c in
    closed-append t h (ended_in most k a) (ended_in most (left_by most k a) b) ∙ ap (closed_if t h) (ended-append most k a b)

-- ---- the whole input
-- the first n of the first n and more
pub take_more : (n : ℕ) (l x : List ℕ) → take n (take n l ++ x) ≡ take n (l ++ x)
take_more zero l x = refl
take_more (suc n) [] x = refl
take_more (suc n) (c ∷ l) x = ap (λ (k : List ℕ). c ∷ k) (take_more n l x)

-- what is held at the end is a last line, unless it is empty
pub last_some : (h : List ℕ) → 0 < length h → last_of h ≡ h ∷ []
unfolding last_of
last_some [] l = absurd (omega arith)
last_some (b ∷ h) l = refl

pub last_none : (line : List ℕ) (held : ℕ) → held ≡ 0 → last_of (take held line) ≡ []
unfolding last_of
last_none line held e = ap (λ (n : ℕ). last_of (take n line)) e

-- a last line is there whether or not it is shortened
last-shortened : (most : ℕ) (line : List ℕ) → 0 < most → last_of (take most line) ≡ shortened most (last_of line)
unfolding last_of shortened
last-shortened zero line h = absurd (omega arith)
last-shortened (suc n) [] h = refl
last-shortened (suc n) (c ∷ line) h = refl

module _ (most : ℕ) (some : 0 < most) where
  -- one byte more, given what holds of the bytes behind it
  from_byte :
      (line bs : List ℕ) (b : ℕ) (t : Bool) → ((l : List ℕ) → ended_in most (take most l) bs ++ last_of (left_by most (take most l) bs) ≡ shortened most (lines_from l bs)) →
      closed_if t (take most line) (ended_in most (held_if t most (take most line) b) bs) ++ last_of (left_by most (held_if t most (take most line) b) bs)
      ≡ shortened most (cond t (line ∷ lines_from [] bs) (lines_from (line ++ (b ∷ [])) bs))
  unfolding closed_if held_if shortened
  from_byte line bs b true rest =
      ap (λ (x : List (List ℕ)). take most line ∷ x)
      (ap (λ (e : List ℕ). ended_in most e bs ++ last_of (left_by most e bs)) (sym (take-nil most)) ∙ rest [])
  from_byte line bs b false rest =
      ap (λ (e : List ℕ). ended_in most e bs ++ last_of (left_by most e bs)) (take_more most line (b ∷ [])) ∙ rest (line ++ (b ∷ []))

  -- `line` is what was read of a line
  from : (line bs : List ℕ) → ended_in most (take most line) bs ++ last_of (left_by most (take most line) bs) ≡ shortened most (lines_from line bs)
  unfolding ended_in left_by lines_from
  from line [] = last-shortened most line some
  from line (b ∷ bs) = from_byte line bs b (eqb b newline) (λ l. from l bs)

  -- the lines of an input, as far as they are held: those that were read to their ends, and a last one
  pub lines-parts : (input : List ℕ) → ended_in most [] input ++ last_of (left_by most [] input) ≡ shortened most (lines_of input)
  unfolding lines_of
  lines-parts input = ap (λ (e : List ℕ). ended_in most e input ++ last_of (left_by most e input)) (sym (take-nil most)) ∙ from [] input
