-- What is written behind what was written before: an asking line and a record field by field, the cells one by one, and how long they are.
-- Assumes nothing.
use mathlib.Core.Path.{◌≡◌, refl, sym, ap, ◌∙◌}
use mathlib.Core.Bool.{Bool, true, false, cond}
use mathlib.Core.List.{List, [], ◌∷◌, ◌++◌, map, append_assoc, append-nil}
use Prim.Native.Nat.{ℕ, ◌+◌, ◌*◌, min, ◌≤◌, ◌<◌, zero-le}
use native.Mathlib.Nat.{add-zero}
use native.Mathlib.Numerals.{add-one}
use native.Mathlib.Omega.{arith}
use borrow.Author.Tests.{eq-eqb, ne_eqb}
use lib.Dec.{eqb}
use lib.Ieee.{Float, binary64, to_bits}
use lib.IntN.{ℤ}
use lib.ListN.{length, take, get_or, length-append, length-take}
use lib.Seq.{take_at, take-suc}
use Rattle.std.proofs.Common.{Ok, Err}
use Rattle.refusal.specs.Number.{number_of}
use Rattle.refusal.specs.declared.refusal.Refusal.{Refusal}
use Rattle.refusal.proofs.Distinct.{never-zero}
use Rattle.call.specs.declared.answer.Counts.{Counts}
use Rattle.call.specs.Answer.{Answer, number_in, zeros_in, longest_in, rungs_in, backward_in}
use Rattle.frame.specs.declared.asking.Fields.{Fields}
use Rattle.frame.specs.declared.reading.Record.{Record}
use Rattle.frame.specs.Layout.{byte_width, count_width, float_width, asking_length, record_length}
use Rattle.frame.specs.Digits.{are_digits, spelled_of}
use Rattle.frame.specs.Over.{over}
use Rattle.frame.specs.Asking.{asking_line_of}
use Rattle.frame.specs.Writing.{twos_complement, spelled_record, spelled_numbers, record_of, spelled_patterns, cells_of, written_of, line_of}
use Rattle.frame.specs.Reading.{said_of}
use Rattle.frame.proofs.OverFacts.{over-over}
use Rattle.frame.proofs.DigitFacts.{digits_append, spelled-digits}
use Rattle.frame.proofs.SpellFacts.{spelled-length}

-- q behind p
pub over-next : (at k : ℕ) (p q d o r : List ℕ) → at ≤ length d → k ≡ at + length p → o ≡ over at p d → r ≡ over k q o → r ≡ over at (p ++ q) d
over-next at k p q d o r h e f g = g ∙ ap (over k q) f ∙ over-over at p q d k e h

-- ---- an asking line
pub asking-length : (f : Fields) → length (asking_line_of f) ≡ asking_length
unfolding asking_line_of
asking-length f = simp (length-append, spelled-length)

module _ (f : Fields) (at : ℕ) (d o1 o2 o3 o4 o5 o6 : List ℕ) where
  pub asking-written :
      at ≤ length d → o1 ≡ over (at + 0) (spelled_of byte_width f.kind) d → o2 ≡ over (at + 2) (spelled_of byte_width f.scaling) o1 → o3 ≡ over (at + 4) (spelled_of count_width f.count) o2 →
      o4 ≡ over (at + 8) (spelled_of float_width f.v) o3 → o5 ≡ over (at + 24) (spelled_of float_width f.re) o4 → o6 ≡ over (at + 40) (spelled_of float_width f.im) o5 →
      o6 ≡ over at (asking_line_of f) d
  unfolding asking_line_of
  asking-written h e1 e2 e3 e4 e5 e6 =
      let p1 = spelled_of byte_width f.kind in
      let p2 = spelled_of byte_width f.scaling in
      let p3 = spelled_of count_width f.count in
      let p4 = spelled_of float_width f.v in
      let p5 = spelled_of float_width f.re in
      let p6 = spelled_of float_width f.im in
      let w1 : o1 ≡ over at p1 d = e1 ∙ ap (λ (k : ℕ). over k p1 d) (add-zero at) in
      let w2 : o2 ≡ over at (p1 ++ p2) d = over-next at (at + 2) p1 p2 d o1 o2 h (simp spelled-length) w1 e2 in
      let w3 : o3 ≡ over at ((p1 ++ p2) ++ p3) d = over-next at (at + 4) (p1 ++ p2) p3 d o2 o3 h (simp (length-append, spelled-length)) w2 e3 in
      let w4 : o4 ≡ over at (((p1 ++ p2) ++ p3) ++ p4) d = over-next at (at + 8) ((p1 ++ p2) ++ p3) p4 d o3 o4 h (simp (length-append, spelled-length)) w3 e4 in
      let w5 : o5 ≡ over at ((((p1 ++ p2) ++ p3) ++ p4) ++ p5) d =
      over-next at (at + 24) (((p1 ++ p2) ++ p3) ++ p4) p5 d o4 o5 h (simp (length-append, spelled-length)) w4 e5 in
      let w6 : o6 ≡ over at (((((p1 ++ p2) ++ p3) ++ p4) ++ p5) ++ p6) d =
      over-next at (at + 40) ((((p1 ++ p2) ++ p3) ++ p4) ++ p5) p6 d o5 o6 h (simp (length-append, spelled-length)) w5 e6 in
      w6 ∙ simp append_assoc

-- ---- the record
module _ (number : ℕ) (zeros : ℤ) (sum rungs backward : ℕ) where
  pub spelled-record-length : length (spelled_record number zeros sum rungs backward) ≡ record_length
  unfolding spelled_record
  spelled-record-length = simp (length-append, spelled-length)

  pub spelled-record-digits : are_digits (spelled_record number zeros sum rungs backward) ≡ true
  unfolding spelled_record
  spelled-record-digits =
      digits_append (spelled_of byte_width number) _ (spelled-digits byte_width number)
      (digits_append (spelled_of count_width (twos_complement zeros)) _ (spelled-digits count_width (twos_complement zeros))
      (digits_append (spelled_of count_width sum) _ (spelled-digits count_width sum)
      (digits_append (spelled_of count_width rungs) (spelled_of count_width backward) (spelled-digits count_width rungs) (spelled-digits count_width backward))))

pub record-length : (a : Answer) → length (record_of a) ≡ record_length
unfolding record_of
record-length a = spelled-record-length (number_in a) (zeros_in a) (longest_in a) (rungs_in a) (backward_in a)

pub numbers-length : (r : Record) → length (spelled_numbers r) ≡ record_length
unfolding spelled_numbers
numbers-length r = spelled-record-length r.number r.zeros r.longest_sum r.rungs r.backward

module _ (q : Record) (d o1 o2 o3 o4 o5 : List ℕ) (n z s r b : ℕ) where
  pub numbers-written :
      n ≡ q.number → z ≡ twos_complement q.zeros → s ≡ q.longest_sum → r ≡ q.rungs → b ≡ q.backward →
      o1 ≡ over 0 (spelled_of byte_width n) d → o2 ≡ over 2 (spelled_of count_width z) o1 → o3 ≡ over 6 (spelled_of count_width s) o2 → o4 ≡ over 10 (spelled_of count_width r) o3 → o5 ≡ over 14 (spelled_of count_width b) o4 →
      o5 ≡ over 0 (spelled_numbers q) d
  unfolding spelled_numbers spelled_record
  numbers-written e f g h i e1 e2 e3 e4 e5 =
      let p1 = spelled_of byte_width n in
      let p2 = spelled_of count_width z in
      let p3 = spelled_of count_width s in
      let p4 = spelled_of count_width r in
      let p5 = spelled_of count_width b in
      let w2 : o2 ≡ over 0 (p1 ++ p2) d = over-next 0 2 p1 p2 d o1 o2 zero-le (simp spelled-length) e1 e2 in
      let w3 : o3 ≡ over 0 ((p1 ++ p2) ++ p3) d = over-next 0 6 (p1 ++ p2) p3 d o2 o3 zero-le (simp (length-append, spelled-length)) w2 e3 in
      let w4 : o4 ≡ over 0 (((p1 ++ p2) ++ p3) ++ p4) d = over-next 0 10 ((p1 ++ p2) ++ p3) p4 d o3 o4 zero-le (simp (length-append, spelled-length)) w3 e4 in
      let w5 : o5 ≡ over 0 ((((p1 ++ p2) ++ p3) ++ p4) ++ p5) d = over-next 0 14 (((p1 ++ p2) ++ p3) ++ p4) p5 d o4 o5 zero-le (simp (length-append, spelled-length)) w4 e5 in
      w5 ∙ simp (append_assoc, e, f, g, h, i)

-- ---- the cells
pub patterns-digits : (bs : List ℕ) → are_digits (spelled_patterns bs) ≡ true
unfolding spelled_patterns are_digits
patterns-digits [] = refl
patterns-digits (b ∷ bs) = digits_append (spelled_of float_width b) (spelled_patterns bs) (spelled-digits float_width b) (patterns-digits bs)

pub patterns-cells : (xs : List Float) → cells_of xs ≡ spelled_patterns (map (to_bits binary64) xs)
unfolding cells_of spelled_patterns
patterns-cells [] = refl
patterns-cells (x ∷ xs) = ap (λ (l : List ℕ). spelled_of float_width (to_bits binary64 x) ++ l) (patterns-cells xs)

pub cells-length : (xs : List Float) → length (cells_of xs) ≡ length xs * float_width
unfolding cells_of
cells-length [] = refl
cells-length (x ∷ xs) =
    length-append (spelled_of float_width (to_bits binary64 x)) (cells_of xs)
    ∙ ap (λ (k : ℕ). k + length (cells_of xs)) (spelled-length float_width (to_bits binary64 x))
    ∙ omega (arith, cells-length xs)

cells-append : (xs : List Float) (x : Float) → cells_of (xs ++ (x ∷ [])) ≡ cells_of xs ++ spelled_of float_width (to_bits binary64 x)
unfolding cells_of
cells-append [] x = append-nil (spelled_of float_width (to_bits binary64 x))
cells-append (y ∷ ys) x =
    ap (λ (l : List ℕ). spelled_of float_width (to_bits binary64 y) ++ l) (cells-append ys x)
    ∙ sym (append_assoc (spelled_of float_width (to_bits binary64 y)) (cells_of ys) (spelled_of float_width (to_bits binary64 x)))

-- the first i cells stand from the place `at` on
pub record Cells (cells : List Float) (at : ℕ) (d out : List ℕ) (place i : ℕ) : Type 0 where
  pub below : i ≤ length cells
  pub reached : place ≡ at + i * float_width
  pub is : out ≡ over at (cells_of (take i cells)) d
  pub same : length out ≡ length d

module _ (cells : List Float) (at : ℕ) (d out : List ℕ) (place i : ℕ) where
  pub cells-next :
      (bits : ℕ) (x : Float) (r : List ℕ) → at ≤ length d → i < length cells → Cells cells at d out place i → bits ≡ to_bits binary64 (get_or cells i x) → r ≡ over place (spelled_of float_width bits) out → length r ≡ length out →
      Cells cells at d r (place + float_width) (i + 1)
  cells-next bits x r h k s e f g =
      let p = cells_of (take i cells) in
      let q = spelled_of float_width bits in
      let long : length p ≡ i * float_width = cells-length (take i cells) ∙ ap (λ (m : ℕ). m * float_width) (length-take i cells ∙ small i (length cells) s.below) in
      let one : cells_of (take (i + 1) cells) ≡ p ++ q =
      ap (λ (m : ℕ). cells_of (take m cells)) (add-one i) ∙ ap cells_of (take-suc cells i x k) ∙ cells-append (take i cells) (get_or cells i x) ∙ ap (λ (m : ℕ). p ++ spelled_of float_width m) (sym e) in
      record {
        below = omega arith;
        reached = omega (arith, s.reached);
        is = over-next at place p q d out r h (s.reached ∙ ap (λ (m : ℕ). at + m) (sym long)) s.is f ∙ ap (λ (l : List ℕ). over at l d) (sym one);
        same = g ∙ s.same;
      }
    where
      small : (i n : ℕ) → i ≤ n → min i n ≡ i
      small i n h = omega arith

-- ---- the line of any five numbers: behind another number than 0 the record is alone
module _ (r : Record) (cells : List Float) where
  pub written_refused : (r.number ≡ 0 → ⊥) → written_of r cells ≡ spelled_numbers r
  unfolding written_of
  written_refused h = simp (ne_eqb r.number 0 h) (append-nil (spelled_numbers r))

  pub written-answered : r.number ≡ 0 → written_of r cells ≡ spelled_numbers r ++ cells_of cells
  unfolding written_of
  written-answered h = simp (eq-eqb r.number 0 h)

  pub written-length : r.number ≡ 0 → length (written_of r cells) ≡ record_length + length cells * float_width
  written-length h =
      ap length (written-answered h)
      ∙ length-append (spelled_numbers r) (cells_of cells)
      ∙ ap (λ (k : ℕ). k + length (cells_of cells)) (numbers-length r)
      ∙ ap (λ (k : ℕ). record_length + k) (cells-length cells)

  pub written-least : record_length ≤ length (written_of r cells)
  unfolding written_of
  written-least = simp length-append (omega (arith, numbers-length r))

-- ---- an answer's line is that of what it says, with so many pairs as one likes
pub record-said : (a : Answer) (n : ℕ) → spelled_numbers (said_of a n) ≡ record_of a
unfolding spelled_numbers record_of said_of
record-said a n = refl

pub line-written : (a : Answer) (n : ℕ) (cells : List Float) → written_of (said_of a n) cells ≡ line_of a cells
unfolding written_of line_of spelled_numbers record_of said_of
line-written a n cells = refl

-- and its five fields, each put over the bytes behind the one before, are its record
module _ (a : Answer) (d o1 o2 o3 o4 o5 : List ℕ) (n z s r b : ℕ) where
  pub record-written :
      n ≡ number_in a → z ≡ twos_complement (zeros_in a) → s ≡ longest_in a → r ≡ rungs_in a → b ≡ backward_in a →
      o1 ≡ over 0 (spelled_of byte_width n) d → o2 ≡ over 2 (spelled_of count_width z) o1 → o3 ≡ over 6 (spelled_of count_width s) o2 → o4 ≡ over 10 (spelled_of count_width r) o3 → o5 ≡ over 14 (spelled_of count_width b) o4 →
      o5 ≡ over 0 (record_of a) d
  unfolding said_of
  record-written e f g h i e1 e2 e3 e4 e5 =
      numbers-written (said_of a 0) d o1 o2 o3 o4 o5 n z s r b e f g h i e1 e2 e3 e4 e5
      ∙ ap (λ (q : List ℕ). over 0 q d) (record-said a 0)

-- ---- an answer has the number 0, and a refusal another
pub answered-number : (a : Answer) (counts : Counts) → a ≡ Ok counts → number_in a ≡ 0
answered-number a counts e = ap number_in e

pub refused-number : (a : Answer) (refusal : Refusal) → a ≡ Err refusal → number_in a ≡ 0 → ⊥
refused-number a refusal e z = let n : number_of refusal ≡ 0 = sym (ap number_in e) ∙ z in omega (arith, never-zero refusal)

-- ---- the line: a refusal is the record alone, an answer the record and the cells
pub line_refused : (a : Answer) (cells : List Float) → (number_in a ≡ 0 → ⊥) → line_of a cells ≡ record_of a
unfolding line_of
line_refused a cells h = simp (ne_eqb (number_in a) 0 h) (append-nil (record_of a))

pub line-answered : (a : Answer) (cells : List Float) → number_in a ≡ 0 → line_of a cells ≡ record_of a ++ cells_of cells
unfolding line_of
line-answered a cells h = simp (eq-eqb (number_in a) 0 h)

pub line-length : (a : Answer) (cells : List Float) → number_in a ≡ 0 → length (line_of a cells) ≡ record_length + length cells * float_width
unfolding said_of
line-length a cells h = ap length (sym (line-written a 0 cells)) ∙ written-length (said_of a 0) cells h

-- the record, and no more than the cells behind it
line-most-if : (a : Answer) (cells : List Float) (b : Bool) → length (record_of a ++ cond b (cells_of cells) []) ≤ record_length + length cells * float_width
line-most-if a cells true = simp length-append (omega (arith, record-length a, cells-length cells))
line-most-if a cells false = simp length-append (omega (arith, record-length a))

pub line-most : (a : Answer) (cells : List Float) → length (line_of a cells) ≤ record_length + length cells * float_width
unfolding line_of
line-most a cells = line-most-if a cells (eqb (number_in a) 0)

pub line-least : (a : Answer) (cells : List Float) → record_length ≤ length (line_of a cells)
unfolding line_of
line-least a cells = simp length-append (omega (arith, record-length a))

-- every byte is an upper-case digit, so that a newline behind a line ends it
cells-digits-if : (cells : List Float) (b : Bool) → are_digits (cond b (cells_of cells) []) ≡ true
unfolding are_digits
cells-digits-if cells true = ap are_digits (patterns-cells cells) ∙ patterns-digits (map (to_bits binary64) cells)
cells-digits-if cells false = refl

pub line-digits : (a : Answer) (cells : List Float) → are_digits (line_of a cells) ≡ true
unfolding line_of record_of
line-digits a cells =
    digits_append (record_of a) (cond (eqb (number_in a) 0) (cells_of cells) []) (spelled-record-digits (number_in a) (zeros_in a) (longest_in a) (rungs_in a) (backward_in a)) (cells-digits-if cells (eqb (number_in a) 0))

-- the first two digits are the number's
pub line-number : (a : Answer) (cells : List Float) → take byte_width (line_of a cells) ≡ spelled_of byte_width (number_in a)
unfolding line_of record_of spelled_record
line-number a cells = let n = spelled_of byte_width (number_in a) in ap (take byte_width) (append_assoc n _ _) ∙ take_at n _ byte_width (spelled-length byte_width (number_in a))
