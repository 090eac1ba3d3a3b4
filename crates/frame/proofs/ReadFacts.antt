-- An answer line by its layout: a line of digits that is long enough is decided by what follows its number, and of a line that is read its
-- length, its digits and its record are known. Assumes nothing.
use mathlib.Core.Path.{◌≡◌, refl, sym, ap, ◌∙◌, subst}
use mathlib.Core.Bool.{Bool, true, false, cond, ◌&&◌}
use mathlib.Core.List.{List}
use Prim.Native.Nat.{ℕ, ◌+◌, ◌*◌, ◌-◌, ◌%◌, ◌/◌, ◌≤◌, ◌<◌}
use native.Mathlib.Omega.{arith}
use borrow.Author.Tests.{lt-ltb, le-leb, eq-eqb, ne_eqb, ltb-true, leb-true, eqb-true, eqb-false}
use lib.Dec.{ltb, leb, eqb}
use lib.ListN.{length}
use Rattle.frame.specs.declared.reading.Record.{Record}
use Rattle.std.proofs.Common.{None, Some}
use Rattle.std.specs.Bool.{then_some}
use Rattle.frame.specs.Layout.{byte_width, count_width, pair_width, number_at, zeros_at, longest_sum_at, rungs_at, backward_at, record_length, longest_pairs}
use Rattle.frame.specs.Digits.{are_digits, field_of}
use Rattle.frame.specs.Reading.{record_at, rest_inside, layout_kept, reading_of, RecordFits}
use Rattle.frame.proofs.DigitFacts.{both}
use Rattle.frame.proofs.FieldFacts.{field_fits}
use Rattle.frame.proofs.WordFacts.{word_fits}

module _ (line : List ℕ) (h : record_length ≤ length line) (e : are_digits line ≡ true) where
  pub reading-kept : reading_of line ≡ then_some (rest_inside (record_at line).number (length line - record_length)) (record_at line)
  unfolding reading_of layout_kept record_at
  reading-kept = simp (le-leb record_length (length line) h, e) (sym (then-cond (rest_inside (field_of number_at byte_width line) (length line - record_length)) _))
    where
      then-cond : (b : Bool) (r : Record) → then_some b r ≡ cond b (Some r) None
      then-cond true r = refl
      then-cond false r = refl

  pub readable : rest_inside (field_of number_at byte_width line) (length line - record_length) ≡ true → reading_of line ≡ Some (record_at line)
  unfolding record_at
  readable k = reading-kept ∙ ap (λ (b : Bool). then_some b (record_at line)) k

-- ---- what may follow a number
pub pairs-inside : (n : ℕ) → 1 ≤ n → n ≤ 512 → rest_inside 0 (n * pair_width) ≡ true
unfolding rest_inside
pairs-inside n h k = simp (lt-ltb 0 (n * pair_width) (omega arith), le-leb (n * pair_width) longest_pairs (omega arith), eq-eqb (n * pair_width % pair_width) 0 (omega arith))

pub none_inside : (number : ℕ) → (number ≡ 0 → ⊥) → rest_inside number 0 ≡ true
unfolding rest_inside
none_inside number h = simp (ne_eqb number 0 h)

-- so many digits are whole pairs: one to 512 behind 0, and none behind another number
pub record Rest (number rest : ℕ) : Type 0 where
  pub whole : rest / pair_width * pair_width ≡ rest
  pub answered : number ≡ 0 → (1 ≤ rest / pair_width) × (rest / pair_width ≤ 512)
  pub refused : (number ≡ 0 → ⊥) → rest / pair_width ≡ 0

rest-if : (number rest : ℕ) (b : Bool) → eqb number 0 ≡ b → cond b (ltb 0 rest && (leb rest longest_pairs && eqb (rest % pair_width) 0)) (eqb rest 0) ≡ true → Rest number rest
rest-if number rest true e k =
    let t = both (ltb 0 rest) (leb rest longest_pairs && eqb (rest % pair_width) 0) k in
    let u = both (leb rest longest_pairs) (eqb (rest % pair_width) 0) t.1 in
    let some : 0 < rest = ltb-true 0 rest t.0 in
    let most : rest ≤ 16384 = leb-true rest longest_pairs u.0 in
    let even : rest % 32 ≡ 0 = eqb-true (rest % pair_width) 0 u.1 in
    record { whole = omega arith; answered = λ z. (omega arith, omega arith); refused = λ n. absurd (n (eqb-true number 0 e)) }
rest-if number rest false e k =
    let none : rest ≡ 0 = eqb-true rest 0 k in
    record { whole = omega arith; answered = λ z. absurd (eqb-false number 0 e z); refused = λ n. omega arith }

rest-known : (number rest : ℕ) → rest_inside number rest ≡ true → Rest number rest
unfolding rest_inside
rest-known number rest k = rest-if number rest (eqb number 0) refl k

-- ---- a line that is read
pub record Taken (line : List ℕ) (r : Record) : Type 0 where
  pub digits : are_digits line ≡ true
  pub long : length line ≡ record_length + r.pairs * pair_width
  pub is : r ≡ record_at line
  pub fits : RecordFits r

record-fits : (line : List ℕ) → record_length ≤ length line → are_digits line ≡ true → Rest (field_of number_at byte_width line) (length line - record_length) → RecordFits (record_at line)
unfolding record_at
record-fits line h e k = record {
  number = field_fits number_at byte_width line (omega arith) e;
  zeros = word_fits (field_of zeros_at count_width line) (field_fits zeros_at count_width line (omega arith) e);
  sum = field_fits longest_sum_at count_width line (omega arith) e;
  rungs = field_fits rungs_at count_width line (omega arith) e;
  backward = field_fits backward_at count_width line (omega arith) e;
  answered = k.answered;
  refused = k.refused;
}

pairs_of : (line : List ℕ) → (record_at line).pairs ≡ (length line - record_length) / pair_width
unfolding record_at
pairs_of line = refl

kept-is :
    (line : List ℕ) → layout_kept line ≡ true →
    (record_length ≤ length line) × (are_digits line ≡ true) × (Rest (field_of number_at byte_width line) (length line - record_length))
unfolding layout_kept
kept-is line k =
    let n = field_of number_at byte_width line in
    let t = both (leb record_length (length line)) (are_digits line && rest_inside n (length line - record_length)) k in
    let u = both (are_digits line) (rest_inside n (length line - record_length)) t.1 in
    (leb-true record_length (length line) t.0, u.0, rest-known n (length line - record_length) u.1)

taken-if : (line : List ℕ) (r : Record) (b : Bool) → layout_kept line ≡ b → cond b (Some (record_at line)) None ≡ Some r → Taken line r
taken-if line r true k e =
    let is : r ≡ record_at line = cc in
    let t = kept-is line k in
    let rest = length line - record_length in
    let pairs : r.pairs ≡ rest / pair_width = ap (λ (x : Record). x.pairs) is ∙ pairs_of line in
    record {
      digits = t.1;
      long = omega (arith, t.0, t.2.whole, pairs);
      is = is;
      fits = subst RecordFits (sym is) (record-fits line t.0 t.1 t.2);
    }
taken-if line r false k e = absurd (let z : ◌≡◌ {A = ℕ} 0 1 = cc in omega arith)

pub taken : (line : List ℕ) (r : Record) → reading_of line ≡ Some r → Taken line r
unfolding reading_of
taken line r e = taken-if line r (layout_kept line) refl e
