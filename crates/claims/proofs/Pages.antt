-- The claims of the page: what a line says, each part by itself over the list of lines, that the parts add up, what a line added and two pages joined come to,
-- 15 exactly, no overflow, and where the answer lines of our own program are counted. Assumes nothing.
use Rattle.std.specs.Prelude.{Option, Some, None}
use Rattle.call.specs.Answer as answers
use mathlib.Core.Path.{◌≡◌, refl, sym, ap, ◌∙◌, subst}
use mathlib.Core.Logic.{◌⊎◌, inl, inr}
use mathlib.Core.Bool.{Bool, true, cond, ◌&&◌, ◌||◌}
use mathlib.Core.List.{List, [], ◌∷◌, ◌++◌}
use Prim.Native.Nat.{ℕ, ◌+◌, ◌*◌, ◌≤◌, ◌<◌, min}
use native.Mathlib.Omega.{arith}
use borrow.Author.Tests.{le-leb, eq-eqb}
use lib.Dec.{T, leb, eqb}
use lib.IntN.{nat_abs}
use lib.ListN.{length, take, get_or}
use Rattle.laws.proofs.First.{passed}
use Rattle.refusal.specs.Number.{number_of as refusal-number, is_listed}
use Rattle.refusal.specs.declared.refusal.Refusal.{Refusal}
use Rattle.refusal.specs.declared.refusal.Refusal.TheVariants as refusals
use Rattle.refusal.proofs.Distinct as refusal-numbers
use Rattle.splitting.specs.Count.{total_of}
use Rattle.call.proofs.FirstFacts.{is_one_of}
use Rattle.frame.specs.declared.asking.Asking.{Asking}
use Rattle.frame.specs.declared.reading.Record.{Record}
use Rattle.frame.specs.Layout.{byte_width}
use Rattle.frame.specs.Digits.{number_of}
use Rattle.frame.specs.Asking.{parsed_of}
use Rattle.frame.specs.Reading.{said_of, layout_kept, reading_of}
use Rattle.bessel.specs.Outcome.{refused_outcome}
use Rattle.bessel.proofs.CallFacts.{refused-facts}
use Rattle.bessel.proofs.CountBounds.{Bounded, refused-bounded}
use Rattle.answering.specs.Called.{called_of}
use Rattle.answering.specs.Line.{outcome_of, answer_line_of}
use Rattle.answering.specs.Fields.{pairs_of}
use Rattle.answering.proofs.AnswerLines.{number_read}
use Rattle.answering.proofs.FieldsRead.{called-bounded, fields_read}
use Rattle.page.specs.Layout.{numbers, reserved_at, longest_at, sums, rungs_at, backward_at, zeros_at, lines_at, unreadable_at, cells, most_lines, most_cell}
use Rattle.page.specs.Saying.{is_known, said_in, said_by}
use Rattle.page.specs.Parts.{as_number, as_unreadable, as_longest, if_answered, rungs_in, backward_in, zeros_in, end_at, part_at, cell_of, page_of, sum_up_to, read_of}
use Rattle.page.specs.Joining.{joined_cells, empty_page, lines_in, join_number, join_page, line_number, line_page, lines_page}
use Rattle.page.proofs.ListFacts.{named}
use Rattle.page.proofs.SumFacts.{total-as, cell-of-number, cell-of-longest, numbers-add-up, longest-add-up, lines-add-up}
use Rattle.page.proofs.BoundFacts.{no_overflow}
use Rattle.page.proofs.JoinFacts.{Fits, joined-cell, outcome, join-comm, join-over}
use Rattle.page.proofs.PageFacts.{page-get, page-lines, joined-fits, join_is, join-beyond, line-more, line-beyond, night}
use Rattle.claims.proofs.Determined.{Determined, Gives, one-outcome}
use Rattle.claims.proofs.Lines.{all_of, one_of_all, line_numbers, line-no-other}

-- ---- a number that our own program writes is one that the page knows
known : ℕ → Bool
known n = eqb n 0 || is_listed n

own-number : (line : List ℕ) → (eqb (answers.number_in (outcome_of (parsed_of line)).answer) 0 || is_listed (answers.number_in (outcome_of (parsed_of line)).answer)) ≡ true
unfolding known all_of is_listed
own-number line =
    passed _ (subst (λ (n : ℕ). T (known n)) (number_read line) (one_of_all known (number_of (take byte_width (answer_line_of line))) line_numbers tt (line-no-other line)))

own-bounded : (p : Option Asking) → Bounded (outcome_of p)
unfolding outcome_of called_of
own-bounded (Some a) = called-bounded a.kind a (a.count * 2)
own-bounded None = refused-bounded 0 (refused_outcome refusals.Malformed 0) (refused-facts 0 refusals.Malformed)

own-known : (line : List ℕ) → is_known (said_of (outcome_of (parsed_of line)).answer (pairs_of (parsed_of line))) ≡ true
unfolding is_known said_of
own-known line =
    let o = (outcome_of (parsed_of line)).answer in
    ap (λ (b : Bool). b && (eqb (answers.number_in o) 0 || is_listed (answers.number_in o))) (le-leb (answers.longest_in o) 19 (own-bounded (parsed_of line)).longest-sum) ∙ own-number line

own-said : (line : List ℕ) → said_by (answer_line_of line) ≡ Some (said_of (outcome_of (parsed_of line)).answer (pairs_of (parsed_of line)))
unfolding said_by said_in
own-said line =
    let r = said_of (outcome_of (parsed_of line)).answer (pairs_of (parsed_of line)) in
    ap said_in (fields_read line) ∙ ap (λ (b : Bool). cond b (Some r) None) (own-known line)

own-one : (line : List ℕ) → as_number (answers.number_in (outcome_of (parsed_of line)).answer) (said_by (answer_line_of line)) ≡ 1
unfolding as_number said_of
own-one line =
    let n = answers.number_in (outcome_of (parsed_of line)).answer in
    ap (as_number n) (own-said line) ∙ ap (λ (b : Bool). cond b 1 0) (eq-eqb n n refl)

own_read : (line : List ℕ) → as_unreadable (said_by (answer_line_of line)) ≡ 0
unfolding as_unreadable
own_read line = ap as_unreadable (own-said line)

own-counts :
    (line : List ℕ) → let o = (outcome_of (parsed_of line)).answer in let s = said_by (answer_line_of line) in answers.number_in o ≡ 0 →
    (as_longest (answers.longest_in o) s ≡ 1) × (rungs_in s ≡ (answers.rungs_in o)) × (backward_in s ≡ (answers.backward_in o)) × (zeros_in s ≡ nat_abs (answers.zeros_in o))
unfolding as_longest rungs_in backward_in zeros_in if_answered said_of
own-counts line e =
    let o = (outcome_of (parsed_of line)).answer in
    let answered = eq-eqb (answers.number_in o) 0 e in
    let said = own-said line in (
      ap (as_longest (answers.longest_in o)) said ∙ ap (λ (b : Bool). cond (b && eqb (answers.longest_in o) (answers.longest_in o)) 1 0) answered ∙ ap (λ (b : Bool). cond b 1 0) (eq-eqb (answers.longest_in o) (answers.longest_in o) refl),
      ap rungs_in said ∙ ap (λ (b : Bool). cond b (answers.rungs_in o) 0) answered,
      ap backward_in said ∙ ap (λ (b : Bool). cond b (answers.backward_in o) 0) answered,
      ap zeros_in said ∙ ap (λ (b : Bool). cond b (nat_abs (answers.zeros_in o)) 0) answered,
    )

none_said : said_by [] ≡ None
unfolding said_by said_in reading_of layout_kept
none_said = refl

pub record OfPage : Type 0 where
  -- the contracts of `lichenoar_page_line` and `lichenoar_page_join` give the number and every cell: no second outcome fits, whatever the cells held
  pub one-outcome-line : (page line : List ℕ) → Determined (Gives (line_number page line) (line_page page line))
  pub one-outcome-join : (into from : List ℕ) → Determined (Gives (join_number into from) (join_page into from))
  -- a line is read by its layout, with 0 or a number of the list and a longest sum of at most 19, and is else unreadable, an empty one too
  pub said : (line : List ℕ) (r : Record) → reading_of line ≡ Some r → said_by line ≡ cond (leb r.longest_sum 19 && (eqb r.number 0 || is_listed r.number)) (Some r) None
  pub unsaid : (line : List ℕ) → reading_of line ≡ None → said_by line ≡ None
  pub empty-line : said_by [] ≡ None
  -- the list is that of the refusals, both ways
  pub listed : (r : Refusal) → is_listed (refusal-number r) ≡ true
  pub named : (n : ℕ) → is_listed n ≡ true → (r : Refusal) × (refusal-number r ≡ n)
  -- each part by itself, over the list of lines alone: answered, refused by k, answered by longest sum, the totals, lines, unreadable; nothing in reserve
  pub answered : (lines : List (List ℕ)) → get_or (page_of lines) 0 0 ≡ total_of (λ line. as_number 0 (said_by line)) lines
  pub refused : (lines : List (List ℕ)) (k : ℕ) → k < numbers → get_or (page_of lines) k 0 ≡ total_of (λ line. as_number k (said_by line)) lines
  pub longest : (lines : List (List ℕ)) (l : ℕ) → l < sums → get_or (page_of lines) (longest_at + l) 0 ≡ total_of (λ line. as_longest l (said_by line)) lines
  pub rungs : (lines : List (List ℕ)) → get_or (page_of lines) rungs_at 0 ≡ total_of (λ line. if_answered (λ r. r.rungs) (said_by line)) lines
  pub backward : (lines : List (List ℕ)) → get_or (page_of lines) backward_at 0 ≡ total_of (λ line. if_answered (λ r. r.backward) (said_by line)) lines
  pub zeros : (lines : List (List ℕ)) → get_or (page_of lines) zeros_at 0 ≡ total_of (λ line. if_answered (λ r. nat_abs r.zeros) (said_by line)) lines
  pub lines : (lines : List (List ℕ)) → get_or (page_of lines) lines_at 0 ≡ length lines
  pub unreadable : (lines : List (List ℕ)) → get_or (page_of lines) unreadable_at 0 ≡ total_of (λ line. as_unreadable (said_by line)) lines
  pub reserved : (lines : List (List ℕ)) → get_or (page_of lines) reserved_at 0 ≡ total_of (λ line. 0) lines
  -- they add up: answered and refused to the lines read, the twenty to the answered, read and unreadable to all
  pub numbers-add-up : (lines : List (List ℕ)) → sum_up_to numbers (λ k. cell_of k lines) ≡ read_of lines
  pub longest-add-up : (lines : List (List ℕ)) → sum_up_to sums (λ l. cell_of (longest_at + l) lines) ≡ cell_of 0 lines
  pub lines-add-up : (lines : List (List ℕ)) → read_of lines + cell_of unreadable_at lines ≡ length lines
  -- after any list of lines, added one by one to a page of zeros, the page is the one defined from the list, or from its first 2^32 - 1 lines
  pub night : (lines : List (List ℕ)) → lines_page empty_page lines ≡ page_of (take most_lines lines)
  pub line-more : (lines : List (List ℕ)) (line : List ℕ) → length lines < most_lines → (line_number (page_of lines) line ≡ 0) × (line_page (page_of lines) line ≡ page_of (lines ++ (line ∷ [])))
  pub line-beyond : (lines : List (List ℕ)) (line : List ℕ) → most_lines ≤ length lines → (line_number (page_of lines) line ≡ 15) × (line_page (page_of lines) line ≡ page_of lines)
  -- joining gives the page of the one list behind the other; beyond 2^32 - 1 lines it is refused, and the page stands
  pub joined : (a b : List (List ℕ)) → length (a ++ b) ≤ most_lines → (join_number (page_of a) (page_of b) ≡ 0) × (join_page (page_of a) (page_of b) ≡ page_of (a ++ b))
  pub join-beyond : (a b : List (List ℕ)) → most_lines < length (a ++ b) → (join_number (page_of a) (page_of b) ≡ 15) × (join_page (page_of a) (page_of b) ≡ page_of a)
  -- of any page, ours or not: 0 with every cell added, or 15 with the page as it was, by the counts of lines alone; a cell is then
  -- the sum, or 2^64 - 1 where that is less; no number but these
  pub outcome :
      (a b : List ℕ) →
      ((lines_in a + lines_in b ≤ most_lines) × (join_number a b ≡ 0) × (join_page a b ≡ joined_cells a b))
      ⊎ ((most_lines < lines_in a + lines_in b) × (join_number a b ≡ 15) × (join_page a b ≡ a))
  pub cell : (a b : List ℕ) (i : ℕ) → i < cells → Fits a → Fits b → get_or (joined_cells a b) i 0 ≡ min (get_or a i 0 + get_or b i 0) most_cell
  pub line-outcome :
      (page line : List ℕ) →
      ((lines_in page < most_lines) × (line_number page line ≡ 0) × (line_page page line ≡ joined_cells page (page_of (line ∷ []))))
      ⊎ ((most_lines ≤ lines_in page) × (line_number page line ≡ 15) × (line_page page line ≡ page))
  pub no_other : (a b : List ℕ) → T (is_one_of (join_number a b) (0 ∷ 15 ∷ []))
  -- where it is not refused, order and grouping do not matter
  pub order : (a b : List ℕ) → Fits a → Fits b → lines_in a + lines_in b ≤ most_lines → (join_number b a ≡ 0) × (join_page a b ≡ join_page b a)
  pub grouping :
      (a b c : List ℕ) → lines_in a + lines_in b + lines_in c ≤ most_lines →
      (join_number (join_page a b) c ≡ 0) × (join_number a (join_page b c) ≡ 0) × (join_page (join_page a b) c ≡ join_page a (join_page b c))
  -- no total overflows: of 2^32 - 1 lines no cell is above 65,535 times as many, which is below 2^48; and none is cut off in joining
  pub no_overflow : (lines : List (List ℕ)) → length lines ≤ most_lines → (i : ℕ) → i < cells → cell_of i lines ≤ 281470681677825
  pub none-cut : (a b : List (List ℕ)) → length (a ++ b) ≤ most_lines → (i : ℕ) → i < cells → cell_of i a + cell_of i b ≤ most_cell
  -- every answer line of our own program is read, and says what was answered; so it is counted where it belongs
  pub own-lines : (line : List ℕ) → let p = parsed_of line in said_by (answer_line_of line) ≡ Some (said_of (outcome_of p).answer (pairs_of p))
  pub own-number : (asked : List ℕ) → as_number (answers.number_in (outcome_of (parsed_of asked)).answer) (said_by (answer_line_of asked)) ≡ 1
  pub own-readable : (asked : List ℕ) → as_unreadable (said_by (answer_line_of asked)) ≡ 0
  pub own-counts :
      (asked : List ℕ) → let o = (outcome_of (parsed_of asked)).answer in let s = said_by (answer_line_of asked) in answers.number_in o ≡ 0 →
      (as_longest (answers.longest_in o) s ≡ 1) × (rungs_in s ≡ (answers.rungs_in o)) × (backward_in s ≡ (answers.backward_in o)) × (zeros_in s ≡ nat_abs (answers.zeros_in o))

line-outcome :
    (page line : List ℕ) →
    ((lines_in page < most_lines) × (line_number page line ≡ 0) × (line_page page line ≡ joined_cells page (page_of (line ∷ []))))
    ⊎ ((most_lines ≤ lines_in page) × (line_number page line ≡ 15) × (line_page page line ≡ page))
unfolding line_number line_page
line-outcome page line =
    let one : lines_in (page_of (line ∷ [])) ≡ 1 = page-lines (line ∷ []) in
    elim (outcome page (page_of (line ∷ []))) [ inl w ↦ inl (omega (arith, w.0), w.1, w.2) | inr w ↦ inr (omega (arith, w.0), w.1, w.2) ]

one_of_two : (a b : List ℕ) → T (is_one_of (join_number a b) (0 ∷ 15 ∷ []))
one_of_two a b =
    elim (outcome a b) [
      | inl w ↦ subst (λ (n : ℕ). T (is_one_of n (0 ∷ 15 ∷ []))) (sym w.1) tt
      | inr w ↦ subst (λ (n : ℕ). T (is_one_of n (0 ∷ 15 ∷ []))) (sym w.1) tt
    ]

-- the last cells, by their places
module _ (lines : List (List ℕ)) where
  last-cell : (i : ℕ) (f : Option Record → ℕ) → i < cells → ((s : Option Record) → part_at i s ≡ f s) → get_or (page_of lines) i 0 ≡ total_of (λ line. f (said_by line)) lines
  unfolding cell_of
  last-cell i f h e = page-get lines i h ∙ total-as (λ line. part_at i (said_by line)) (λ line. f (said_by line)) lines (λ line. e (said_by line))

pub of-page : OfPage
unfolding part_at end_at rungs_in backward_in zeros_in said_by said_in is_known
of-page = record {
  one-outcome-line = λ page line. one-outcome (line_number page line) (line_page page line);
  one-outcome-join = λ into from. one-outcome (join_number into from) (join_page into from);
  said = λ line r e. ap said_in e;
  unsaid = λ line e. ap said_in e;
  empty-line = none_said;
  listed = refusal-numbers.listed;
  named = named;
  answered = λ lines. page-get lines 0 (omega arith) ∙ cell-of-number lines 0 (omega arith);
  refused = λ lines k h. page-get lines k (omega arith) ∙ cell-of-number lines k h;
  longest = λ lines l h. page-get lines (longest_at + l) (omega arith) ∙ cell-of-longest lines l h;
  rungs = λ lines. last-cell lines rungs_at (if_answered (λ r. r.rungs)) (omega arith) (λ s. refl);
  backward = λ lines. last-cell lines backward_at (if_answered (λ r. r.backward)) (omega arith) (λ s. refl);
  zeros = λ lines. last-cell lines zeros_at (if_answered (λ r. nat_abs r.zeros)) (omega arith) (λ s. refl);
  lines = page-lines;
  unreadable = λ lines. last-cell lines unreadable_at as_unreadable (omega arith) (λ s. refl);
  reserved = λ lines. last-cell lines reserved_at (λ s. 0) (omega arith) (λ s. refl);
  numbers-add-up = numbers-add-up;
  longest-add-up = longest-add-up;
  lines-add-up = lines-add-up;
  night = night;
  line-more = line-more;
  line-beyond = line-beyond;
  joined = join_is;
  join-beyond = join-beyond;
  outcome = outcome;
  cell = joined-cell;
  line-outcome = line-outcome;
  no_other = one_of_two;
  order = join-comm;
  grouping = join-over;
  no_overflow = no_overflow;
  none-cut = joined-fits;
  own-lines = own-said;
  own-number = own-one;
  own-readable = own_read;
  own-counts = own-counts;
}
