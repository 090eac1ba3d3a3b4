-- The page of a list of lines: what joining two of them gives, and what lines added one after the other give. Assumes nothing.
use mathlib.Core.Path.{◌≡◌, refl, sym, ap, ◌∙◌}
use mathlib.Core.Bool.{Bool, true, false}
use mathlib.Core.List.{List, [], ◌∷◌, ◌++◌, append_assoc, append-nil}
use Prim.Native.Nat.{ℕ, ◌+◌, ◌≤◌, ◌<◌}
use native.Mathlib.Omega.{arith}
use borrow.Author.Tests.{ltb-true, ltb-false}
use lib.Dec.{ltb}
use lib.ListN.{length, get_or, take, length-append, get_or-replicate, length-replicate}
use lib.Seq.{take_all, take_at}
use Rattle.splitting.specs.Count.{total_of}
use Rattle.splitting.proofs.CountFacts.{total-append}
use Rattle.page.specs.Layout.{lines_at, cells, most_lines, most_cell}
use Rattle.page.specs.Saying.{said_by}
use Rattle.page.specs.Parts.{part_at, cell_of, page_of}
use Rattle.page.specs.Joining.{added_to, joined_cells, empty_page, lines_in, join_number, join_page, line_number, line_page, lines_page}
use Rattle.page.proofs.CellFacts.{up_to-length, up_to-get, up_to-same, row_is, added-fits}
use Rattle.page.proofs.SaidFacts.{room-number, room-page, full-number, full-page}
use Rattle.page.proofs.SumFacts.{cell-of-lines}
use Rattle.page.proofs.BoundFacts.{cell-small}
use Rattle.page.proofs.JoinFacts.{room, no_room}

-- ---- the cells of a page
module _ (lines : List (List ℕ)) where
  pub page-length : length (page_of lines) ≡ cells
  unfolding page_of
  page-length = up_to-length cells (λ i. cell_of i lines)

  pub page-get : (i : ℕ) → i < cells → get_or (page_of lines) i 0 ≡ cell_of i lines
  unfolding page_of
  page-get i h = up_to-get cells (λ k. cell_of k lines) i h

  pub page-lines : lines_in (page_of lines) ≡ length lines
  page-lines = page-get lines_at (omega arith) ∙ cell-of-lines lines

-- of no lines every cell is 0
cell-none : (i : ℕ) → 0 ≡ cell_of i []
unfolding cell_of total_of
cell-none i = refl

pub page-empty : empty_page ≡ page_of []
unfolding page_of
page-empty = row_is cells empty_page (λ i. cell_of i []) (length-replicate {A = ℕ} cells 0) (λ i h. get_or-replicate {A = ℕ} cells i 0 0 h ∙ cell-none i)

pub cell-append : (i : ℕ) (a b : List (List ℕ)) → cell_of i (a ++ b) ≡ cell_of i a + cell_of i b
unfolding cell_of
cell-append i a b = total-append (λ l. part_at i (said_by l)) a b

-- ---- two nights
module _ (a b : List (List ℕ)) where
  together : length (a ++ b) ≡ length a + length b
  together = length-append a b

  both-lines : lines_in (page_of a) + lines_in (page_of b) ≡ length (a ++ b)
  both-lines = let e = page-lines a in let k = page-lines b in let t = together in omega arith

  -- no cell is cut off
  pub joined-fits : length (a ++ b) ≤ most_lines → (i : ℕ) → i < cells → cell_of i a + cell_of i b ≤ most_cell
  joined-fits h i k = let e = cell-small a i k in let f = cell-small b i k in let t = together in omega arith

  joined-cells : length (a ++ b) ≤ most_lines → joined_cells (page_of a) (page_of b) ≡ page_of (a ++ b)
  unfolding joined_cells page_of
  joined-cells h =
      up_to-same cells (λ i. added_to (get_or (page_of a) i 0) (get_or (page_of b) i 0)) (λ i. cell_of i (a ++ b))
      (λ i k.
      ap (λ (n : ℕ). added_to n (get_or (page_of b) i 0)) (page-get a i k)
      ∙ ap (added_to (cell_of i a)) (page-get b i k)
      ∙ added-fits (cell_of i a) (cell_of i b) (joined-fits h i k)
      ∙ sym (cell-append i a b))

  pub join_is : length (a ++ b) ≤ most_lines → (join_number (page_of a) (page_of b) ≡ 0) × (join_page (page_of a) (page_of b) ≡ page_of (a ++ b))
  join_is h =
      let r = room (page_of a) (page_of b) (let e = both-lines in omega arith) in
      (room-number (page_of a) (page_of b) r, room-page (page_of a) (page_of b) r ∙ joined-cells h)

  pub join-beyond : most_lines < length (a ++ b) → (join_number (page_of a) (page_of b) ≡ 15) × (join_page (page_of a) (page_of b) ≡ page_of a)
  join-beyond h =
      let r = no_room (page_of a) (page_of b) (let e = both-lines in omega arith) in
      (full-number (page_of a) (page_of b) r, full-page (page_of a) (page_of b) r)

-- ---- a line more
module _ (lines : List (List ℕ)) (line : List ℕ) where
  pub line-more : length lines < most_lines → (line_number (page_of lines) line ≡ 0) × (line_page (page_of lines) line ≡ page_of (lines ++ (line ∷ [])))
  unfolding line_number line_page
  line-more h = join_is lines (line ∷ []) (let e = length-append lines (line ∷ []) in omega arith)

  pub line-beyond : most_lines ≤ length lines → (line_number (page_of lines) line ≡ 15) × (line_page (page_of lines) line ≡ page_of lines)
  unfolding line_number line_page
  line-beyond h = join-beyond lines (line ∷ []) (let e = length-append lines (line ∷ []) in omega arith)

-- ---- line by line: the page of all of them, or of the first 2^32 - 1
pub added-lines : (done lines : List (List ℕ)) → length done ≤ most_lines → lines_page (page_of done) lines ≡ page_of (take most_lines (done ++ lines))
unfolding lines_page
added-lines done [] h = ap page_of (sym (ap (take most_lines) (append-nil done) ∙ take_all most_lines done h))
added-lines done (l ∷ lines) h = go (ltb (length done) most_lines) refl (λ k. added-lines (done ++ (l ∷ [])) lines k) (added-lines done lines h)
  where
    go :
        (b : Bool) → ltb (length done) most_lines ≡ b →
        (length (done ++ (l ∷ [])) ≤ most_lines → lines_page (page_of (done ++ (l ∷ []))) lines ≡ page_of (take most_lines ((done ++ (l ∷ [])) ++ lines))) →
        lines_page (page_of done) lines ≡ page_of (take most_lines (done ++ lines)) →
        lines_page (line_page (page_of done) l) lines ≡ page_of (take most_lines (done ++ (l ∷ lines)))
    go true e on stay =
        let k = ltb-true (length done) most_lines e in
        ap (λ (p : List ℕ). lines_page p lines) (line-more done l k).1
        ∙ on (let n = length-append done (l ∷ []) in omega arith)
        ∙ ap (λ (x : List (List ℕ)). page_of (take most_lines x)) (append_assoc done (l ∷ []) lines)
    go false e on stay =
        let k = ltb-false (length done) most_lines e in
        let n : length done ≡ most_lines = omega arith in
        ap (λ (p : List ℕ). lines_page p lines) (line-beyond done l (omega arith)).1
        ∙ stay
        ∙ ap page_of (take_at done lines most_lines n ∙ sym (take_at done (l ∷ lines) most_lines n))

pub night : (lines : List (List ℕ)) → lines_page empty_page lines ≡ page_of (take most_lines lines)
night lines = ap (λ (p : List ℕ). lines_page p lines) page-empty ∙ added-lines [] lines (omega arith)
