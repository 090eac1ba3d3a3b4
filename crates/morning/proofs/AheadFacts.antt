-- A line of digits that comes next, counted pair by pair, and what its bytes and its newline come to. Assumes nothing.
use mathlib.Core.Path.{◌≡◌, refl, sym, ap, ◌∙◌, subst}
use mathlib.Core.Bool.{true}
use mathlib.Core.List.{List, [], ◌∷◌, ◌++◌, append_assoc, append-nil}
use Prim.Native.Nat.{ℕ, suc, ◌+◌, ◌-◌, ◌%◌, ◌≤◌, ◌<◌}
use native.Mathlib.Omega.{arith}
use lib.ListN.{length, take, drop, get_or, length-append, length-drop}
use lib.Seq.{take-add, take-suc, take_all, drop-drop, get_or-drop, length-take-le}
use Rattle.splitting.specs.Lines.{newline}
use Rattle.splitting.specs.Cut.{left_by, ended_in, part_of}
use Rattle.splitting.proofs.CutFacts.{left-newline, left_other, ended-newline, ended-other, left-append, ended-append}
use Rattle.frame.specs.Layout.{record_length, longest_line}
use Rattle.frame.specs.Digits.{is_digit, are_digits}
use Rattle.frame.proofs.DigitFacts.{both, digits_append, digit-no-newline}
use Rattle.morning.specs.Ahead.{StartsWell, LineAhead}
use Rattle.morning.specs.Turn.{most_held}

-- ---- so many digits, a record's and whole pairs
pub record Counting (chunk : List ℕ) (at n : ℕ) : Type 0 where
  pub long : record_length ≤ n
  pub few : n ≤ longest_line
  pub whole : n % 32 ≡ 18
  pub room : at + n ≤ length chunk
  pub digits : are_digits (take n (drop at chunk)) ≡ true

pub counting-first : (chunk : List ℕ) (at : ℕ) → StartsWell chunk at → Counting chunk at record_length
counting-first chunk at s = record { long = omega arith; few = omega arith; whole = refl; room = s.room; digits = s.digits }

pub counting_more :
    (chunk : List ℕ) (at n m : ℕ) → Counting chunk at n → n < longest_line → 32 ≤ length chunk - at - n → m ≡ 32 → are_digits (take m (drop (at + n) chunk)) ≡ true →
    Counting chunk at (n + 32)
counting_more chunk at n m c h r e d =
    record {
      long = omega (arith, c.long);
      few = omega (arith, c.few, c.whole);
      whole = omega (arith, c.whole);
      room = omega (arith, c.room);
      digits =
          ap are_digits (take-add n 32 (drop at chunk) ∙ ap (λ (l : List ℕ). take n (drop at chunk) ++ take 32 l) (drop-drop n at chunk))
          ∙ digits_append (take n (drop at chunk)) (take 32 (drop (at + n) chunk)) c.digits (subst (λ (k : ℕ). are_digits (take k (drop (at + n) chunk)) ≡ true) e d);
    }

pub counted-ahead : (chunk : List ℕ) (at n : ℕ) → Counting chunk at n → at + n < length chunk → get_or chunk (at + n) 0 ≡ newline → LineAhead chunk at n
counted-ahead chunk at n c h e = record { long = c.long; few = c.few; room = h; digits = c.digits; ended = e }

-- ---- digits are held one by one
digits-left : (D h : List ℕ) → are_digits D ≡ true → length h + length D ≤ most_held → (left_by most_held h D ≡ h ++ D) × (ended_in most_held h D ≡ [])
unfolding are_digits left_by ended_in
digits-left [] h t n = (sym (append-nil h), refl)
digits-left (c ∷ D) h t n =
    let p = both (is_digit c) (are_digits D) t in
    let other = digit-no-newline c p.0 in
    let more : length (h ++ (c ∷ [])) ≡ length h + 1 = length-append h (c ∷ []) in
    let held : left_by most_held h (c ∷ []) ≡ h ++ (c ∷ []) = left_other most_held h c other ∙ take_all most_held (h ++ (c ∷ [])) (omega arith) in
    let rest = digits-left D (h ++ (c ∷ [])) p.1 (omega arith) in (
      sym (left-append most_held h (c ∷ []) D) ∙ ap (λ (l : List ℕ). left_by most_held l D) held ∙ rest.0 ∙ append_assoc h (c ∷ []) D,
      sym (ended-append most_held h (c ∷ []) D)
          ∙ ap (λ (l : List (List ℕ)). l ++ ended_in most_held (left_by most_held h (c ∷ [])) D) (ended-other most_held h c other)
          ∙ ap (λ (l : List ℕ). ended_in most_held l D) held
          ∙ rest.1,
    )

-- ---- a line and its newline, where nothing was held
module _ (chunk : List ℕ) (at n : ℕ) (a : LineAhead chunk at n) where
  abbrev line : List ℕ
  line = take n (drop at chunk)

  pub line-long : length line ≡ n
  line-long = length-take-le n (drop at chunk) (omega (arith, length-drop at chunk, a.room))

  line-bytes : part_of chunk at (at + n + 1) ≡ line ++ (newline ∷ [])
  line-bytes =
      let e : at + n + 1 - at ≡ suc n = omega arith in
      ap (λ (k : ℕ). take k (drop at chunk)) e
      ∙ take-suc (drop at chunk) n 0 (omega (arith, length-drop at chunk, a.room))
      ∙ ap (λ (b : ℕ). line ++ (b ∷ [])) (get_or-drop at chunk n 0 ∙ a.ended)

  held_all : (left_by most_held [] line ≡ line) × (ended_in most_held [] line ≡ [])
  held_all = digits-left line [] a.digits (omega (arith, line-long, a.few))

  pub line-left : left_by most_held [] (part_of chunk at (at + n + 1)) ≡ []
  line-left =
      ap (left_by most_held []) line-bytes
      ∙ sym (left-append most_held [] line (newline ∷ []))
      ∙ left-newline most_held (left_by most_held [] line) newline refl

  pub line-ended : ended_in most_held [] (part_of chunk at (at + n + 1)) ≡ line ∷ []
  line-ended =
      ap (ended_in most_held []) line-bytes
      ∙ sym (ended-append most_held [] line (newline ∷ []))
      ∙ ap (λ (l : List (List ℕ)). l ++ ended_in most_held (left_by most_held [] line) (newline ∷ [])) held_all.1
      ∙ ended-newline most_held (left_by most_held [] line) newline refl
      ∙ ap (λ (l : List ℕ). l ∷ []) held_all.0
