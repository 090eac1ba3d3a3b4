-- The number at a place of a line: it fits its width, its digits are those of the line there, and where it was written it is read again.
-- Assumes nothing.
use mathlib.Core.Path.{◌≡◌, refl, sym, ap, ◌∙◌}
use mathlib.Core.Bool.{true}
use mathlib.Core.List.{List, ◌++◌}
use Prim.Native.Nat.{ℕ, ◌+◌, ◌*◌, ◌%◌, ◌^◌, ◌≤◌, ◌<◌}
use native.Mathlib.Nat.{zero-mul, zero-add, mod-eq_of_lt, lt_of_lt_of_le}
use native.Mathlib.Omega.{arith}
use lib.ListN.{length, take, drop, length-drop, take-append-drop}
use lib.Pow.{pow_mono}
use lib.Seq.{take_at, drop_at, drop-drop, length-take-le}
use Rattle.frame.specs.Digits.{are_digits, number_of, spelled_of, field_of}
use Rattle.frame.proofs.DigitFacts.{digits-part, number_fits, number_spelled, spelled-number}
use Rattle.frame.proofs.SpellFacts.{spelled-length}

module _ (at width : ℕ) (line : List ℕ) (h : at + width ≤ length line) where
  part_length : length (take width (drop at line)) ≡ width
  part_length = length-take-le width (drop at line) (omega (arith, length-drop at line))

  -- what stands from a place on is the part there and what stands behind it
  part-rest : take width (drop at line) ++ drop (at + width) line ≡ drop at line
  part-rest = ap (λ (l : List ℕ). take width (drop at line) ++ l) (sym (drop-drop width at line)) ∙ take-append-drop width (drop at line)

  module _ (e : are_digits line ≡ true) where
    pub field_fits : field_of at width line < 2 ^ (4 * width)
    unfolding number_of
    field_fits = number_fits width (take width (drop at line)) part_length (digits-part width at line e)

    pub field-again : spelled_of width (field_of at width line) ≡ take width (drop at line)
    unfolding number_of
    field-again = spelled-number width (take width (drop at line)) part_length (digits-part width at line e)

-- a field written before what stands behind it
pub field_next :
    (at width : ℕ) (line rest : List ℕ) → at + width ≤ length line → are_digits line ≡ true → rest ≡ drop (at + width) line → spelled_of width (field_of at width line) ++ rest ≡ drop at line
field_next at width line rest h e r =
    ap (λ (l : List ℕ). l ++ rest) (field-again at width line h e) ∙ ap (λ (l : List ℕ). take width (drop at line) ++ l) r ∙ part-rest at width line h

-- four digits at most
pub short-fits : (l : List ℕ) → length l ≤ 4 → are_digits l ≡ true → number_of l < 2 ^ 32
unfolding number_of
short-fits l h e = lt_of_lt_of_le (number_fits (length l) l refl e) (pow_mono {i = 4 * length l} {j = 32} (omega arith))

pub short_below : (at width : ℕ) (line : List ℕ) → at + width ≤ length line → are_digits line ≡ true → width ≤ 4 → field_of at width line < 2 ^ 16
short_below at width line h e k = lt_of_lt_of_le (field_fits at width line h e) (pow_mono {i = 4 * width} {j = 16} (omega arith))

pub number-back : (width n : ℕ) → n < 2 ^ (4 * width) → number_of (spelled_of width n) ≡ n
unfolding number_of
number-back width n h = number_spelled width 0 n ∙ ap (λ (k : ℕ). k + n % 2 ^ (4 * width)) (zero-mul (2 ^ (4 * width))) ∙ zero-add (n % 2 ^ (4 * width)) ∙ mod-eq_of_lt h

-- behind p, of as many digits as the place says
pub field_at : (line p q : List ℕ) (at width n : ℕ) → line ≡ p ++ (spelled_of width n ++ q) → length p ≡ at → n < 2 ^ (4 * width) → field_of at width line ≡ n
field_at line p q at width n e l h =
    ap (field_of at width) e
    ∙ ap (λ (x : List ℕ). number_of (take width x)) (drop_at p (spelled_of width n ++ q) at l)
    ∙ ap number_of (take_at (spelled_of width n) q width (spelled-length width n))
    ∙ number-back width n h
