-- A line added cell by cell is the page of that line joined. Assumes nothing.
use Rattle.std.proofs.Common.{Option, None, Some}
use mathlib.Core.Path.{◌≡◌, refl, sym, ap, ◌∙◌}
use mathlib.Core.Bool.{Bool, true, false, cond}
use mathlib.Core.List.{List}
use Prim.Native.Nat.{ℕ, zero, suc, ◌+◌, ◌<◌}
use native.Mathlib.Omega.{arith}
use borrow.Author.Tests.{eq-eqb, ne_eqb, eqb-true, eqb-false}
use lib.Dec.{eqb}
use lib.IntN.{nat_abs}
use lib.ListN.{length, get_or, set, length-set}
use lib.Seq.{get_or-set_same, get_or-set_other}
use Rattle.frame.specs.declared.reading.Record.{Record}
use Rattle.page.specs.Layout.{numbers, longest_at, sums, rungs_at, backward_at, zeros_at, lines_at, unreadable_at, cells}
use Rattle.page.specs.Parts.{as_number, as_longest, if_answered, rungs_in, backward_in, zeros_in, as_unreadable, end_at, part_at, one_page, up_to}
use Rattle.page.specs.Joining.{added_to, joined_cells}
use Rattle.page.specs.Steps.{with_added, with_line, with_answered}
use Rattle.page.proofs.CellFacts.{up_to-get, row_is, added_none, added_twice}
use Rattle.page.proofs.PartFacts.{number-part, reserved-part, longest-part, end-part, at_cells}

-- n at one place, and nothing elsewhere
abbrev one_at : ℕ → ℕ → ℕ → ℕ
one_at at n i = cond (eqb at i) n 0

none-at : (at n i : ℕ) → (at ≡ i → ⊥) → one_at at n i ≡ 0
none-at at n i h = simp (ne_eqb at i h)

all-at : (at n i : ℕ) → at ≡ i → one_at at n i ≡ n
all-at at n i h = simp (eq-eqb at i h)

-- ---- what is in a cell after some additions: what was there, and their sum
pub kept-length : (at n : ℕ) (page : List ℕ) → length (with_added at n page) ≡ length page
unfolding with_added
kept-length at n page = length-set page at (added_to (get_or page at 0) n)

record Holds (page before : List ℕ) (x : ℕ → ℕ) : Type 0 where
  long : length page ≡ cells
  is : (i : ℕ) → get_or page i 0 ≡ added_to (get_or before i 0) (x i)

at_first : (page : List ℕ) → length page ≡ cells → Holds page page (λ i. 0)
at_first page h = record { long = h; is = λ i. sym (added_none (get_or page i 0)) }

more-at : (at n : ℕ) (page : List ℕ) (i : ℕ) → at < length page → (b : Bool) → eqb at i ≡ b → get_or (with_added at n page) i 0 ≡ added_to (get_or page i 0) (one_at at n i)
unfolding with_added
more-at at n page i h true e =
    let k = eqb-true at i e in
    simp e (ap (λ (j : ℕ). get_or (set page at (added_to (get_or page at 0) n)) j 0) (sym k) ∙ get_or-set_same page at (added_to (get_or page at 0) n) 0 h ∙ ap (λ (j : ℕ). added_to (get_or page j 0) n) k)
more-at at n page i h false e =
    let k = eqb-false at i e in
    simp e (get_or-set_other page at i (added_to (get_or page at 0) n) 0 (λ q. k (sym q)) ∙ sym (added_none (get_or page i 0)))

holds_more : {page before : List ℕ} {x : ℕ → ℕ} (at n : ℕ) → at < cells → Holds page before x → Holds (with_added at n page) before (λ i. x i + one_at at n i)
holds_more {page} {before} {x} at n h w =
    record {
      long = kept-length at n page ∙ w.long;
      is =
          λ i.
          more-at at n page i (omega (arith, w.long)) (eqb at i) refl
          ∙ ap (λ (v : ℕ). added_to v (one_at at n i)) (w.is i)
          ∙ added_twice (get_or before i 0) (x i) (one_at at n i);
    }

-- where the sums are what a line counts for, the page of that line is joined
joined_by : {page before : List ℕ} {x : ℕ → ℕ} (s : Option Record) → Holds page before x → ((i : ℕ) → i < cells → x i ≡ part_at i s) → page ≡ joined_cells before (one_page s)
unfolding joined_cells one_page
joined_by {page} {before} {x} s w same =
    row_is cells page (λ i. added_to (get_or before i 0) (get_or (up_to cells (λ (j : ℕ). part_at j s)) i 0)) w.long
    (λ i h. w.is i ∙ ap (added_to (get_or before i 0)) (same i h ∙ sym (up_to-get cells (λ (j : ℕ). part_at j s) i h)))

-- ---- an unreadable line
number-none : (i : ℕ) → as_number i None ≡ 0
unfolding as_number
number-none i = refl

longest-none : (l : ℕ) → as_longest l None ≡ 0
unfolding as_longest
longest-none l = refl

abbrev unreadable_sum : ℕ → ℕ
unreadable_sum i = 0 + one_at lines_at 1 i + one_at unreadable_at 1 i

unreadable-ends : (j : ℕ) → j < 5 → unreadable_sum (rungs_at + j) ≡ end_at j None
unfolding end_at rungs_in backward_in zeros_in if_answered as_unreadable
unreadable-ends zero h = refl
unreadable-ends (suc zero) h = refl
unreadable-ends (suc (suc zero)) h = refl
unreadable-ends (suc (suc (suc zero))) h = refl
unreadable-ends (suc (suc (suc (suc zero)))) h = refl
unreadable-ends (suc (suc (suc (suc (suc j))))) h = absurd (omega arith)

unreadable-sum : (i : ℕ) → i < cells → unreadable_sum i ≡ part_at i None
unreadable-sum =
    at_cells (λ i. unreadable_sum i ≡ part_at i None)
    (λ i h. simp (number-part None i h, number-none, none-at lines_at 1 i (omega arith), none-at unreadable_at 1 i (omega arith)))
    (sym (reserved-part None))
    (λ l h. simp (longest-part None l h, longest-none, none-at lines_at 1 (longest_at + l) (omega arith), none-at unreadable_at 1 (longest_at + l) (omega arith)))
    (λ j h. unreadable-ends j h ∙ sym (end-part None j))

pub unreadable-joined : (page : List ℕ) → length page ≡ cells → with_line unreadable_at page ≡ joined_cells page (one_page None)
unfolding with_line
unreadable-joined page h = joined_by None (holds_more unreadable_at 1 (omega arith) (holds_more lines_at 1 (omega arith) (at_first page h))) unreadable-sum

-- ---- a line that is read
module _ (r : Record) where
  number_is : (i : ℕ) → as_number i (Some r) ≡ one_at r.number 1 i
  unfolding as_number
  number_is i = refl

  abbrev read_sum : ℕ → ℕ
  read_sum i = 0 + one_at lines_at 1 i + one_at r.number 1 i

  -- refused
  module _ (some : r.number ≡ 0 → ⊥) (few : r.number < numbers) where
    refused-longest : (l : ℕ) → as_longest l (Some r) ≡ 0
    unfolding as_longest
    refused-longest l = simp (ne_eqb r.number 0 some)

    refused-ends : (j : ℕ) → j < 5 → read_sum (rungs_at + j) ≡ end_at j (Some r)
    unfolding end_at rungs_in backward_in zeros_in if_answered as_unreadable
    refused-ends zero h = simp (ne_eqb r.number 0 some, none-at r.number 1 53 (omega arith))
    refused-ends (suc zero) h = simp (ne_eqb r.number 0 some, none-at r.number 1 54 (omega arith))
    refused-ends (suc (suc zero)) h = simp (ne_eqb r.number 0 some, none-at r.number 1 55 (omega arith))
    refused-ends (suc (suc (suc zero))) h = simp (none-at r.number 1 56 (omega arith))
    refused-ends (suc (suc (suc (suc zero)))) h = simp (none-at r.number 1 57 (omega arith))
    refused-ends (suc (suc (suc (suc (suc j))))) h = absurd (omega arith)

    refused-sum : (i : ℕ) → i < cells → read_sum i ≡ part_at i (Some r)
    refused-sum =
        at_cells (λ i. read_sum i ≡ part_at i (Some r))
        (λ i h. simp (number-part (Some r) i h, number_is, none-at lines_at 1 i (omega arith)) (omega arith))
        (simp (none-at r.number 1 32 (omega arith)) (sym (reserved-part (Some r))))
        (λ l h. simp (longest-part (Some r) l h, refused-longest, none-at lines_at 1 (longest_at + l) (omega arith), none-at r.number 1 (longest_at + l) (omega arith)))
        (λ j h. refused-ends j h ∙ sym (end-part (Some r) j))

    pub refused-joined : (page : List ℕ) → length page ≡ cells → with_line r.number page ≡ joined_cells page (one_page (Some r))
    unfolding with_line
    refused-joined page h = joined_by (Some r) (holds_more r.number 1 (omega arith) (holds_more lines_at 1 (omega arith) (at_first page h))) refused-sum

  -- answered
  module _ (none : r.number ≡ 0) (few : r.longest_sum < sums) where
    abbrev place : ℕ
    place = longest_at + r.longest_sum

    abbrev answered_sum : ℕ → ℕ
    answered_sum i = read_sum i + one_at place 1 i + one_at rungs_at r.rungs i + one_at backward_at r.backward i + one_at zeros_at (nat_abs r.zeros) i

    answered-longest : (l : ℕ) → as_longest l (Some r) ≡ one_at place 1 (longest_at + l)
    unfolding as_longest
    answered-longest l = simp (eq-eqb r.number 0 none) (go (eqb r.longest_sum l) refl)
      where
        go : (b : Bool) → eqb r.longest_sum l ≡ b → cond (eqb r.longest_sum l) 1 0 ≡ one_at place 1 (longest_at + l)
        go true e = let k = eqb-true r.longest_sum l e in simp (e, eq-eqb place (longest_at + l) (omega arith))
        go false e = let k = eqb-false r.longest_sum l e in simp (e, ne_eqb place (longest_at + l) (λ q. k (omega arith)))

    answered-ends : (j : ℕ) → j < 5 → answered_sum (rungs_at + j) ≡ end_at j (Some r)
    unfolding end_at rungs_in backward_in zeros_in if_answered as_unreadable
    answered-ends zero h = simp (eq-eqb r.number 0 none, none-at r.number 1 53 (omega arith), none-at place 1 53 (omega arith)) (omega arith)
    answered-ends (suc zero) h = simp (eq-eqb r.number 0 none, none-at r.number 1 54 (omega arith), none-at place 1 54 (omega arith)) (omega arith)
    answered-ends (suc (suc zero)) h = simp (eq-eqb r.number 0 none, none-at r.number 1 55 (omega arith), none-at place 1 55 (omega arith)) (omega arith)
    answered-ends (suc (suc (suc zero))) h = simp (none-at r.number 1 56 (omega arith), none-at place 1 56 (omega arith))
    answered-ends (suc (suc (suc (suc zero)))) h = simp (none-at r.number 1 57 (omega arith), none-at place 1 57 (omega arith))
    answered-ends (suc (suc (suc (suc (suc j))))) h = absurd (omega arith)

    answered-sum : (i : ℕ) → i < cells → answered_sum i ≡ part_at i (Some r)
    answered-sum =
        at_cells (λ i. answered_sum i ≡ part_at i (Some r))
        (λ i h.
        simp (
          number-part (Some r) i h,
          number_is,
          none-at lines_at 1 i (omega arith),
          none-at place 1 i (omega arith),
          none-at rungs_at r.rungs i (omega arith),
          none-at backward_at r.backward i (omega arith),
          none-at zeros_at (nat_abs r.zeros) i (omega arith),
        ) (omega arith))
        (simp (none-at r.number 1 32 (omega arith), none-at place 1 32 (omega arith)) (sym (reserved-part (Some r))))
        (λ l h.
        simp (
          longest-part (Some r) l h,
          answered-longest l,
          none-at lines_at 1 (longest_at + l) (omega arith),
          none-at r.number 1 (longest_at + l) (omega arith),
          none-at rungs_at r.rungs (longest_at + l) (omega arith),
          none-at backward_at r.backward (longest_at + l) (omega arith),
          none-at zeros_at (nat_abs r.zeros) (longest_at + l) (omega arith),
        ) (omega arith))
        (λ j h. answered-ends j h ∙ sym (end-part (Some r) j))

    pub answered-joined : (page : List ℕ) → length page ≡ cells → with_answered r (with_line r.number page) ≡ joined_cells page (one_page (Some r))
    unfolding with_answered with_line
    answered-joined page h =
        joined_by (Some r)
        (holds_more zeros_at (nat_abs r.zeros) (omega arith)
        (holds_more backward_at r.backward (omega arith)
        (holds_more rungs_at r.rungs (omega arith)
        (holds_more place 1 (omega arith)
        (holds_more r.number 1 (omega arith) (holds_more lines_at 1 (omega arith) (at_first page h))))))) answered-sum
