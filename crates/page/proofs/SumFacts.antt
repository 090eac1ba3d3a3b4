-- The parts of a page add up: read lines by number, answered ones by longest sum, and read and unreadable ones. Assumes nothing.
use Rattle.frame.specs.declared.reading.Record.{Record}
use Rattle.std.proofs.Common.{Option, None, Some}
use mathlib.Core.Path.{◌≡◌, refl, sym, ap, ◌∙◌}
use mathlib.Core.Bool.{Bool, true, false, cond, ◌&&◌}
use mathlib.Core.List.{List, [], ◌∷◌}
use Prim.Native.Nat.{ℕ, zero, suc, ◌+◌, ◌<◌}
use native.Mathlib.Omega.{arith}
use lib.Dec.{eqb}
use lib.ListN.{length}
use Rattle.splitting.specs.Count.{total_of}
use Rattle.frame.specs.Reading.{reading_of}
use Rattle.page.specs.Layout.{numbers, longest_at, sums, lines_at, unreadable_at}
use Rattle.page.specs.Saying.{said_by, Known}
use Rattle.page.specs.Parts.{as_number, as_read, as_unreadable, as_longest, part_at, end_at, cell_of, sum_up_to, read_of}
use Rattle.page.proofs.CellFacts.{sum-few, sum_zeros, sum_one}
use Rattle.page.proofs.PartFacts.{number-part, longest-part}
use Rattle.page.proofs.SaidFacts.{said-known, line-part}

-- ---- a sum of parts over the lines is a sum over the lines of what each line counts for in them
pub total-as : (f g : List ℕ → ℕ) (lines : List (List ℕ)) → ((l : List ℕ) → f l ≡ g l) → total_of f lines ≡ total_of g lines
unfolding total_of
total-as f g [] h = refl
total-as f g (l ∷ ls) h = let e = total-as f g ls h in let k = h l in omega arith

total-plus : (f g : List ℕ → ℕ) (lines : List (List ℕ)) → total_of (λ l. f l + g l) lines ≡ total_of f lines + total_of g lines
unfolding total_of
total-plus f g [] = refl
total-plus f g (l ∷ ls) = let e = total-plus f g ls in omega arith

total-zeros : (lines : List (List ℕ)) → total_of (λ l. 0) lines ≡ 0
unfolding total_of
total-zeros [] = refl
total-zeros (l ∷ ls) = let e = total-zeros ls in omega arith

pub total-ones : (lines : List (List ℕ)) → total_of (λ l. 1) lines ≡ length lines
unfolding total_of
total-ones [] = refl
total-ones (l ∷ ls) = let e = total-ones ls in omega arith

swapped : (n : ℕ) (f : ℕ → List ℕ → ℕ) (lines : List (List ℕ)) → sum_up_to n (λ k. total_of (f k) lines) ≡ total_of (λ l. sum_up_to n (λ k. f k l)) lines
unfolding sum_up_to
swapped zero f lines = sym (total-zeros lines)
swapped (suc n) f lines =
    let e = swapped n f lines in
    let k = total-plus (λ l. sum_up_to n (λ i. f i l)) (f n) lines in
    omega arith

-- what is said of a line is known of it
known : (line : List ℕ) → Known (said_by line)
unfolding said_by
known line = said-known (reading_of line)

-- ---- one line
numbers_of : (s : Option Record) → Known s → sum_up_to numbers (λ k. as_number k s) ≡ as_read s
unfolding Known as_number as_read
numbers_of (Some r) h = sum_one numbers r.number 1 h.0
numbers_of None h = sum_zeros numbers

longest-of : (s : Option Record) → Known s → sum_up_to sums (λ l. as_longest l s) ≡ as_number 0 s
unfolding Known as_longest as_number
longest-of (Some r) h = go (eqb r.number 0)
  where
    go : (b : Bool) → sum_up_to sums (λ l. cond (b && eqb r.longest_sum l) 1 0) ≡ cond b 1 0
    go true = sum_one sums r.longest_sum 1 h.1
    go false = sum_zeros sums
longest-of None h = sum_zeros sums

read-or-not : (s : Option Record) → as_read s + as_unreadable s ≡ 1
unfolding as_read as_unreadable
read-or-not (Some r) = refl
read-or-not None = refl

unreadable-part : (s : Option Record) → part_at unreadable_at s ≡ as_unreadable s
unfolding part_at end_at
unreadable-part s = refl

-- ---- the lines of a night
module _ (lines : List (List ℕ)) where
  pub cell-of-number : (k : ℕ) → k < numbers → cell_of k lines ≡ total_of (λ l. as_number k (said_by l)) lines
  unfolding cell_of
  cell-of-number k h = total-as (λ l. part_at k (said_by l)) (λ l. as_number k (said_by l)) lines (λ l. number-part (said_by l) k h)

  pub cell-of-longest : (l : ℕ) → l < sums → cell_of (longest_at + l) lines ≡ total_of (λ x. as_longest l (said_by x)) lines
  unfolding cell_of
  cell-of-longest l h = total-as (λ x. part_at (longest_at + l) (said_by x)) (λ x. as_longest l (said_by x)) lines (λ x. longest-part (said_by x) l h)

  pub cell-of-lines : cell_of lines_at lines ≡ length lines
  unfolding cell_of
  cell-of-lines = total-as (λ l. part_at lines_at (said_by l)) (λ l. 1) lines (λ l. line-part (said_by l)) ∙ total-ones lines

  -- answered and refused, by their numbers, are the lines that are read
  pub numbers-add-up : sum_up_to numbers (λ k. cell_of k lines) ≡ read_of lines
  unfolding read_of
  numbers-add-up =
      sum-few numbers (λ k. cell_of k lines) (λ k. total_of (λ l. as_number k (said_by l)) lines) cell-of-number
      ∙ swapped numbers (λ k l. as_number k (said_by l)) lines
      ∙ total-as (λ l. sum_up_to numbers (λ k. as_number k (said_by l))) (λ l. as_read (said_by l)) lines (λ l. numbers_of (said_by l) (known l))

  -- the twenty parts are the answered lines
  pub longest-add-up : sum_up_to sums (λ l. cell_of (longest_at + l) lines) ≡ cell_of 0 lines
  longest-add-up =
      sum-few sums (λ l. cell_of (longest_at + l) lines) (λ l. total_of (λ x. as_longest l (said_by x)) lines) cell-of-longest
      ∙ swapped sums (λ l x. as_longest l (said_by x)) lines
      ∙ total-as (λ x. sum_up_to sums (λ l. as_longest l (said_by x))) (λ x. as_number 0 (said_by x)) lines (λ x. longest-of (said_by x) (known x))
      ∙ sym (cell-of-number 0 (omega arith))

  -- read and unreadable ones are all lines
  pub lines-add-up : read_of lines + cell_of unreadable_at lines ≡ length lines
  unfolding read_of cell_of
  lines-add-up =
      ap (λ (n : ℕ). total_of (λ l. as_read (said_by l)) lines + n)
      (total-as (λ l. part_at unreadable_at (said_by l)) (λ l. as_unreadable (said_by l)) lines (λ l. unreadable-part (said_by l)))
      ∙ sym (total-plus (λ l. as_read (said_by l)) (λ l. as_unreadable (said_by l)) lines)
      ∙ total-as (λ l. as_read (said_by l) + as_unreadable (said_by l)) (λ l. 1) lines (λ l. read-or-not (said_by l))
      ∙ total-ones lines
