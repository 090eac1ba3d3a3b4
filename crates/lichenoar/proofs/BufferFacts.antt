-- The two buffers: a line closed behind what is written, and the bytes taken so far. Assumes nothing.
use mathlib.Core.Path.{◌≡◌, sym, ap, ◌∙◌}
use mathlib.Core.List.{List, [], ◌∷◌, ◌++◌, append_assoc}
use Prim.Native.Nat.{ℕ, ◌+◌, ◌-◌, ◌≤◌}
use native.Mathlib.Numerals.{add-one}
use native.Mathlib.Omega.{arith}
use borrow.Rule.Slice.PartMut.{mid_of, put_mid}
use lib.ListN.{length, take, drop, set, length-append}
use lib.Seq.{take_at, take-suc-set, take-add, length-take-le}
use Rattle.laws.proofs.Part.{rest-length, put_rest}
use Rattle.frame.specs.Layout.{longest_line}
use Rattle.frame.specs.Over.{over, offered}
use Rattle.frame.proofs.OverFacts.{over-length, offered-room}
use Rattle.splitting.specs.Lines.{newline}
use Rattle.answering.specs.Feed.{with_line}
use Rattle.lichenoar.specs.Feed.{most_room, most_written}

-- ---- a line written behind what is written, and its newline
pub record Closing (d l buffer : List ℕ) (f n : ℕ) : Type 0 where
  pub most : n ≤ longest_line
  pub long : length buffer ≡ length d
  pub closed : take (f + n + 1) (set buffer (f + n) newline) ≡ with_line l (take f d)

module _ (d l ys : List ℕ) (f n : ℕ) (room : f + most_room ≤ length d) (most : length l ≤ longest_line) (en : n ≡ length l) (ey : ys ≡ over 0 l (mid_of f (length d - f) d)) where
  abbrev lent : List ℕ
  lent = mid_of f (length d - f) d

  lent_length : length lent ≡ length d - f
  lent_length = rest-length f d

  abbrev buffer : List ℕ
  buffer = put_mid f (length d - f) d ys

  ys-length : length ys ≡ length d - f
  ys-length = ap length ey ∙ over-length 0 l [] lent (omega (arith, most, lent_length)) ∙ lent_length

  front : length (take f d ++ l) ≡ f + n
  front = length-append (take f d) l ∙ ap (λ (k : ℕ). k + length l) (length-take-le f d (omega arith)) ∙ ap (λ (k : ℕ). f + k) (sym en)

  split : buffer ≡ (take f d ++ l) ++ drop (0 + length l) lent
  unfolding over
  split = put_rest f d ys ∙ ap (λ (x : List ℕ). take f d ++ x) ey ∙ sym (append_assoc (take f d) l (drop (0 + length l) lent))

  buffer-length : length buffer ≡ length d
  buffer-length = ap length (put_rest f d ys) ∙ length-append (take f d) ys ∙ ap (λ (k : ℕ). k + length ys) (length-take-le f d (omega arith)) ∙ omega (arith, ys-length)

  line-closed : take (f + n + 1) (set buffer (f + n) newline) ≡ with_line l (take f d)
  line-closed =
      ap (λ (k : ℕ). take k (set buffer (f + n) newline)) (add-one (f + n))
      ∙ take-suc-set buffer (f + n) newline (omega (arith, buffer-length, en, most))
      ∙ ap (λ (x : List ℕ). take (f + n) x ++ (newline ∷ [])) split
      ∙ ap (λ (x : List ℕ). x ++ (newline ∷ [])) (take_at (take f d ++ l) (drop (0 + length l) lent) (f + n) front)
      ∙ append_assoc (take f d) l (newline ∷ [])

  pub closing : Closing d l buffer f n
  closing = record { most = omega (arith, en, most); long = buffer-length; closed = line-closed }

-- the lent rest of the bytes has room for any answer line
pub lent-room : (d : List ℕ) (f : ℕ) → f + most_room ≤ length d → longest_line ≤ length (mid_of f (length d - f) d)
lent-room d f h = omega (arith, rest-length f d)

-- what an answer line's function gives of the lent rest
pub behind :
    (l d ys : List ℕ) (f n : ℕ) → f + most_room ≤ length d → length l ≤ longest_line → n ≡ length l → ys ≡ offered l (mid_of f (length d - f) d) → Closing d l (put_mid f (length d - f) d ys) f n
behind l d ys f n h m e g = closing d l ys f n h m e (g ∙ offered-room l (mid_of f (length d - f) d) (omega (arith, lent-room d f h, m)))

-- how much is written leaves room for a line
pub room :
    (d : List ℕ) (f : ℕ) (w : List ℕ) → take f d ≡ w → f ≤ most_written → length d ≡ most_written → length w + most_room ≤ most_written → f + most_room ≤ length d
room d f w e h l r = let n = length-take-le f d (omega arith) in let m = ap length e in omega arith

-- ---- the bytes taken so far
pub taken-both : (l : List ℕ) (at next : ℕ) → at ≤ next → take at l ++ take (next - at) (drop at l) ≡ take next l
taken-both l at next h = let e : at + (next - at) ≡ next = omega arith in sym (take-add at (next - at) l) ∙ ap (λ (m : ℕ). take m l) e
