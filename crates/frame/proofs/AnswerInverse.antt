-- Reading and writing an answer line are inverse: the line of an answer and its cells reads as that answer and, cell by cell, as those
-- bits; and a line that is read is the line of what was read. Assumes nothing.
use mathlib.Core.Path.{◌≡◌, refl, sym, ap, ◌∙◌, subst}
use mathlib.Core.Bool.{Bool, true, false, cond}
use mathlib.Core.List.{List, [], ◌∷◌, ◌++◌, map, append_assoc, append-nil}
use Prim.Native.Nat.{ℕ, zero, suc, ◌+◌, ◌*◌, ◌-◌, ◌/◌, ◌^◌, ◌≤◌, ◌<◌}
use native.Mathlib.Nat.{le_refl, le_of_lt}
use native.Mathlib.Omega.{arith}
use borrow.Author.Tests.{eqb-true, eqb-false, eq-eqb, ne_eqb}
use lib.Dec.{T, eqb}
use lib.Ieee.{Float, binary64, fits, of_bits, to_bits}
use lib.Ieee.Bits.{of_bits-to_bits, to_bits-lt}
use lib.ListN.{length, take, drop, get_or, length-append, length-drop, length-map, get_or-map}
use lib.Seq.{take_all, take-length, take-suc, take-add, drop-drop, split_at, length-take-le}
use Rattle.call.specs.Answer.{Answer, number_in}
use Rattle.frame.specs.declared.reading.Record.{Record}
use Rattle.std.proofs.Common.{Some}
use Rattle.frame.specs.Layout.{byte_width, count_width, float_width, pair_width, number_at, zeros_at, longest_sum_at, rungs_at, backward_at, record_length}
use Rattle.frame.specs.Digits.{are_digits, spelled_of, field_of}
use Rattle.frame.specs.Writing.{twos_complement, spelled_record, spelled_numbers, record_of, spelled_patterns, cells_of, written_of, line_of}
use Rattle.frame.specs.Reading.{signed_word, record_at, rest_inside, reading_of, cell_bits_of, bits_read, cells_read, RecordFits, said_of, line_again}
use Rattle.frame.proofs.DigitFacts.{digits_append}
use Rattle.frame.proofs.SpellFacts.{spelled-length}
use Rattle.frame.proofs.FieldFacts.{field_fits, field-again, field_next, field_at}
use Rattle.frame.proofs.WordFacts.{word_small, word_back, word-again}
use Rattle.frame.proofs.WriteFacts.{spelled-record-length, spelled-record-digits, patterns-digits, patterns-cells, line_refused, line-answered}
use Rattle.frame.proofs.ReadFacts.{readable, pairs-inside, none_inside, taken}

-- ---- patterns, one behind the other
patterns-length : (bs : List ℕ) → length (spelled_patterns bs) ≡ length bs * float_width
unfolding spelled_patterns
patterns-length [] = refl
patterns-length (b ∷ bs) = length-append (spelled_of float_width b) (spelled_patterns bs) ∙ omega (arith, spelled-length float_width b, patterns-length bs)

patterns-append : (bs cs : List ℕ) → spelled_patterns (bs ++ cs) ≡ spelled_patterns bs ++ spelled_patterns cs
unfolding spelled_patterns
patterns-append [] cs = refl
patterns-append (b ∷ bs) cs =
    ap (λ (l : List ℕ). spelled_of float_width b ++ l) (patterns-append bs cs) ∙ sym (append_assoc (spelled_of float_width b) (spelled_patterns bs) (spelled_patterns cs))

patterns-one : (b : ℕ) → spelled_patterns (b ∷ []) ≡ spelled_of float_width b
unfolding spelled_patterns
patterns-one b = append-nil (spelled_of float_width b)

patterns-first : (b : ℕ) (bs : List ℕ) → spelled_patterns (b ∷ bs) ≡ spelled_of float_width b ++ spelled_patterns bs
unfolding spelled_patterns
patterns-first b bs = refl

-- ---- what was written is read
module _ (r : Record) (tail : List ℕ) where
  abbrev q1 : List ℕ
  q1 = spelled_of byte_width r.number

  abbrev q2 : List ℕ
  q2 = spelled_of count_width (twos_complement r.zeros)

  abbrev q3 : List ℕ
  q3 = spelled_of count_width r.longest_sum

  abbrev q4 : List ℕ
  q4 = spelled_of count_width r.rungs

  abbrev q5 : List ℕ
  q5 = spelled_of count_width r.backward

  abbrev front : List ℕ
  front = spelled_record r.number r.zeros r.longest_sum r.rungs r.backward

  front_length : length front ≡ record_length
  front_length = spelled-record-length r.number r.zeros r.longest_sum r.rungs r.backward

  front-digits : are_digits front ≡ true
  front-digits = spelled-record-digits r.number r.zeros r.longest_sum r.rungs r.backward

  abbrev line : List ℕ
  line = front ++ tail

  line-long : length line ≡ record_length + length tail
  line-long = length-append front tail ∙ ap (λ (k : ℕ). k + length tail) front_length

  module _ (h : RecordFits r) where
    number-at : field_of number_at byte_width line ≡ r.number
    unfolding spelled_record
    number-at = field_at line [] ((q2 ++ (q3 ++ (q4 ++ q5))) ++ tail) number_at byte_width r.number (simp append_assoc) refl h.number

    record-at : length tail ≡ r.pairs * pair_width → record_at line ≡ r
    unfolding record_at spelled_record
    record-at e =
        let z : field_of zeros_at count_width line ≡ twos_complement r.zeros =
        field_at line q1 ((q3 ++ (q4 ++ q5)) ++ tail) zeros_at count_width (twos_complement r.zeros) (simp append_assoc) (spelled-length byte_width r.number) (word_small r.zeros) in
        let s : field_of longest_sum_at count_width line ≡ r.longest_sum =
        field_at line (q1 ++ q2) ((q4 ++ q5) ++ tail) longest_sum_at count_width r.longest_sum (simp append_assoc) (simp (length-append, spelled-length)) h.sum in
        let g : field_of rungs_at count_width line ≡ r.rungs =
        field_at line ((q1 ++ q2) ++ q3) (q5 ++ tail) rungs_at count_width r.rungs (simp append_assoc) (simp (length-append, spelled-length)) h.rungs in
        let b : field_of backward_at count_width line ≡ r.backward =
        field_at line (((q1 ++ q2) ++ q3) ++ q4) tail backward_at count_width r.backward (simp append_assoc) (simp (length-append, spelled-length)) h.backward in
        let p : (length line - record_length) / pair_width ≡ r.pairs = omega (arith, line-long, e) in
        simp (number-at, z, word_back r.zeros h.zeros, s, g, b, p)

rest-follows : (r : Record) → RecordFits r → (n : ℕ) → n ≡ r.pairs * pair_width → rest_inside r.number n ≡ true
rest-follows r h n e = by (eqb r.number 0) refl
  where
    by : (b : Bool) → eqb r.number 0 ≡ b → rest_inside r.number n ≡ true
    by true k =
        let z = eqb-true r.number 0 k in
        let p = h.answered z in
        ap (λ (m : ℕ). rest_inside m n) z ∙ ap (rest_inside 0) e ∙ pairs-inside r.pairs p.0 p.1
    by false k =
        let z = eqb-false r.number 0 k in
        ap (rest_inside r.number) (e ∙ ap (λ (m : ℕ). m * pair_width) (h.refused z)) ∙ none_inside r.number z

module _ (r : Record) (bits : List ℕ) where
  bits-long : length bits ≡ r.pairs * 2 → length (spelled_patterns bits) ≡ r.pairs * pair_width
  bits-long e = omega (arith, patterns-length bits)

  pub record-read : RecordFits r → length bits ≡ r.pairs * 2 → reading_of (line_again r bits) ≡ Some r
  unfolding line_again
  record-read h e =
      let tail = spelled_patterns bits in
      let long = bits-long e in
      let whole = line-long r tail in
      let rest = rest-follows r h (length (line r tail) - record_length) (omega (arith, whole, long)) in
      readable (line r tail) (omega (arith, whole)) (digits_append (front r tail) tail (front-digits r tail) (patterns-digits bits))
      (ap (λ (m : ℕ). rest_inside m (length (line r tail) - record_length)) (number-at r tail h) ∙ rest)
      ∙ ap Some (record-at r tail h long)

  pub bits-again : (i d : ℕ) → i < length bits → get_or bits i d < 2 ^ 64 → cell_bits_of i (line_again r bits) ≡ get_or bits i d
  unfolding cell_bits_of line_again
  bits-again i d h k =
      let tail = spelled_patterns bits in
      let before = spelled_patterns (take i bits) in
      let behind = spelled_patterns (drop (suc i) bits) in
      let split : tail ≡ before ++ (spelled_of float_width (get_or bits i d) ++ behind) =
      ap spelled_patterns (split_at bits i d h) ∙ patterns-append (take i bits) (get_or bits i d ∷ drop (suc i) bits) ∙ ap (λ (l : List ℕ). before ++ l) (patterns-first (get_or bits i d) (drop (suc i) bits)) in
      let place : length (front r tail ++ before) ≡ record_length + i * float_width =
      length-append (front r tail) before ∙ omega (arith, front_length r tail, patterns-length (take i bits), length-take-le i bits (le_of_lt h)) in
      field_at (line r tail) (front r tail ++ before) behind (record_length + i * float_width) float_width (get_or bits i d)
      (ap (λ (l : List ℕ). front r tail ++ l) split ∙ sym (append_assoc (front r tail) before (spelled_of float_width (get_or bits i d) ++ behind)))
      place
      k

  pub bits-read : ((i : ℕ) → i < length bits → get_or bits i 0 < 2 ^ 64) → bits_read (length bits) (line_again r bits) ≡ bits
  unfolding bits_read
  bits-read h = first (length bits) (le_refl (length bits)) ∙ take-length bits
    where
      first : (n : ℕ) → n ≤ length bits → bits_read n (line_again r bits) ≡ take n bits
      first zero k = refl
      first (suc n) k =
          ap (λ (l : List ℕ). l ++ (cell_bits_of n (line_again r bits) ∷ [])) (first n (omega arith))
          ∙ ap (λ (b : ℕ). take n bits ++ (b ∷ [])) (bits-again n 0 k (h n k))
          ∙ sym (take-suc bits n 0 k)

-- ---- the same of the numbers of any record and cells: the cells follow the number 0 alone
module _ (r : Record) (cells : List Float) where
  abbrev patterns : List ℕ
  patterns = map (to_bits binary64) cells

  numbers-answered : r.number ≡ 0 → written_of r cells ≡ line_again r patterns
  unfolding line_again written_of spelled_numbers
  numbers-answered e = simp (eq-eqb r.number 0 e, patterns-cells cells)

  numbers-refused : (r.number ≡ 0 → ⊥) → written_of r cells ≡ line_again r []
  unfolding line_again written_of spelled_numbers spelled_patterns
  numbers-refused h = simp (ne_eqb r.number 0 h)

  pub answered-numbers-read : RecordFits r → r.number ≡ 0 → length cells ≡ r.pairs * 2 → reading_of (written_of r cells) ≡ Some r
  answered-numbers-read h e l = ap reading_of (numbers-answered e) ∙ record-read r patterns h (length-map cells (to_bits binary64) ∙ l)

  pub refused-numbers-read : RecordFits r → (r.number ≡ 0 → ⊥) → reading_of (written_of r cells) ≡ Some r
  refused-numbers-read h e = ap reading_of (numbers-refused e) ∙ record-read r [] h (sym (ap (λ (n : ℕ). n * 2) (h.refused e)))

  pub cell-of-numbers-read :
      (i : ℕ) (z : Float) → r.number ≡ 0 → i < length cells → T (fits binary64 (get_or cells i z)) → cell_bits_of i (written_of r cells) ≡ to_bits binary64 (get_or cells i z)
  cell-of-numbers-read i z e h t =
      let same : get_or patterns i (to_bits binary64 z) ≡ to_bits binary64 (get_or cells i z) = get_or-map (to_bits binary64) cells i z in
      ap (cell_bits_of i) (numbers-answered e)
      ∙ bits-again r patterns i (to_bits binary64 z) (subst (λ (n : ℕ). i < n) (sym (length-map cells (to_bits binary64))) h)
      (subst (λ (n : ℕ). n < 2 ^ 64) (sym same) (to_bits-lt binary64 (get_or cells i z) t))
      ∙ same

-- ---- the same of an answer and its cells
module _ (a : Answer) (cells : List Float) where
  line-said : (n : ℕ) → number_in a ≡ 0 → line_of a cells ≡ line_again (said_of a n) (map (to_bits binary64) cells)
  unfolding line_again said_of record_of
  line-said n e = line-answered a cells e ∙ ap (λ (l : List ℕ). record_of a ++ l) (patterns-cells cells)

  refusal-said : (number_in a ≡ 0 → ⊥) → line_of a cells ≡ line_again (said_of a 0) []
  unfolding line_again said_of record_of spelled_patterns
  refusal-said h = line_refused a cells h ∙ sym (append-nil (record_of a))

  pub answered-read : (n : ℕ) → RecordFits (said_of a n) → number_in a ≡ 0 → length cells ≡ n * 2 → reading_of (line_of a cells) ≡ Some (said_of a n)
  unfolding said_of
  answered-read n h e l = ap reading_of (line-said n e) ∙ record-read (said_of a n) (map (to_bits binary64) cells) h (length-map cells (to_bits binary64) ∙ l)

  pub refused-read : RecordFits (said_of a 0) → (number_in a ≡ 0 → ⊥) → reading_of (line_of a cells) ≡ Some (said_of a 0)
  unfolding said_of
  refused-read h e = ap reading_of (refusal-said e) ∙ record-read (said_of a 0) [] h refl

  pub cell-read : (i : ℕ) (z : Float) → number_in a ≡ 0 → i < length cells → T (fits binary64 (get_or cells i z)) → cell_bits_of i (line_of a cells) ≡ to_bits binary64 (get_or cells i z)
  cell-read i z e h t =
      let bits = map (to_bits binary64) cells in
      let same : get_or bits i (to_bits binary64 z) ≡ to_bits binary64 (get_or cells i z) = get_or-map (to_bits binary64) cells i z in
      ap (cell_bits_of i) (line-said 0 e)
      ∙ bits-again (said_of a 0) bits i (to_bits binary64 z) (subst (λ (n : ℕ). i < n) (sym (length-map cells (to_bits binary64))) h)
      (subst (λ (n : ℕ). n < 2 ^ 64) (sym same) (to_bits-lt binary64 (get_or cells i z) t))
      ∙ same

  pub value_read : (i : ℕ) (z : Float) → number_in a ≡ 0 → i < length cells → T (fits binary64 (get_or cells i z)) → of_bits binary64 (cell_bits_of i (line_of a cells)) ≡ get_or cells i z
  value_read i z e h t = ap (of_bits binary64) (cell-read i z e h t) ∙ of_bits-to_bits binary64 (get_or cells i z) t

  pub cells-read : (z : Float) → number_in a ≡ 0 → ((i : ℕ) → i < length cells → T (fits binary64 (get_or cells i z))) → cells_read (length cells) (line_of a cells) ≡ cells
  unfolding cells_read
  cells-read z e h = first (length cells) (le_refl (length cells)) ∙ take-length cells
    where
      first : (n : ℕ) → n ≤ length cells → cells_read n (line_of a cells) ≡ take n cells
      first zero k = refl
      first (suc n) k =
          ap (λ (l : List Float). l ++ (of_bits binary64 (cell_bits_of n (line_of a cells)) ∷ [])) (first n (omega arith))
          ∙ ap (λ (x : Float). take n cells ++ (x ∷ [])) (value_read n z e k (h n k))
          ∙ sym (take-suc cells n z k)

-- ---- what was read is written
bits-written :
    (n : ℕ) (line : List ℕ) → are_digits line ≡ true → record_length + n * float_width ≤ length line →
    spelled_patterns (bits_read n line) ≡ take (n * float_width) (drop record_length line)
unfolding bits_read spelled_patterns cell_bits_of
bits-written zero line e h = refl
bits-written (suc n) line e h =
    let d = drop record_length line in
    let at = record_length + n * float_width in
    let more : n * float_width + float_width ≡ suc n * float_width = omega arith in
    patterns-append (bits_read n line) (cell_bits_of n line ∷ [])
    ∙ ap (λ (l : List ℕ). l ++ spelled_patterns (cell_bits_of n line ∷ [])) (bits-written n line e (omega arith))
    ∙ ap (λ (l : List ℕ). take (n * float_width) d ++ l) (patterns-one (cell_bits_of n line) ∙ field-again at float_width line (omega arith) e ∙ ap (take float_width) (sym (drop-drop (n * float_width) record_length line)))
    ∙ sym (take-add (n * float_width) float_width d)
    ∙ ap (λ (k : ℕ). take k d) more

record-again : (line bits : List ℕ) → are_digits line ≡ true → record_length ≤ length line → spelled_patterns bits ≡ drop record_length line → line_again (record_at line) bits ≡ line
unfolding line_again record_at spelled_record
record-again line bits e h t =
    let tail = spelled_patterns bits in
    let w = field_of zeros_at count_width line in
    let zeros : spelled_of count_width (twos_complement (signed_word w)) ≡ spelled_of count_width w = ap (spelled_of count_width) (word-again w (field_fits zeros_at count_width line (omega arith) e)) in
    let k5 = field_next backward_at count_width line tail (omega arith) e t in
    let k4 = field_next rungs_at count_width line _ (omega arith) e k5 in
    let k3 = field_next longest_sum_at count_width line _ (omega arith) e k4 in
    let k2 = field_next zeros_at count_width line _ (omega arith) e k3 in
    let k1 = field_next number_at byte_width line _ (omega arith) e k2 in
    simp (append_assoc, zeros) k1

pub line-again : (line : List ℕ) (r : Record) → reading_of line ≡ Some r → line_again r (bits_read (r.pairs * 2) line) ≡ line
line-again line r e =
    let t = taken line r e in
    let n = r.pairs * 2 in
    let bits = bits-written n line t.digits (omega (arith, t.long)) ∙ take_all (n * float_width) (drop record_length line) (omega (arith, length-drop record_length line, t.long)) in
    ap (λ (x : Record). line_again x (bits_read n line)) t.is ∙ record-again line (bits_read n line) t.digits (omega (arith, t.long)) bits

pub line-fits : (line : List ℕ) (r : Record) → reading_of line ≡ Some r → RecordFits r
line-fits line r e = (taken line r e).fits
