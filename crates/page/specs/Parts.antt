-- The page of a list of lines. Each part is the sum, over the lines, of what one line counts for in it, and of nothing else: no part is defined
-- by another, by an earlier page or by a running total (docs/SCOPE.md, The page). Definitions only.
use Rattle.std.specs.Prelude.{cond, ◌&&◌, List, [], ◌∷◌, ◌++◌, ℕ, zero, suc, ◌+◌, ◌-◌, ltb, eqb, nat_abs, get_or, Option, None, Some}
use Rattle.splitting.specs.Count.{total_of}
use Rattle.frame.specs.declared.reading.Record.{Record}
use Rattle.page.specs.Layout.{numbers, longest_at, rungs_at, cells}
use Rattle.page.specs.Saying.{said_by}

-- ---- what a line counts for: as one that is read with the number k, as one that is read, as unreadable
unfoldable pub as_number : ℕ → Option Record → ℕ
as_number k (Some r) = cond (eqb r.number k) 1 0
as_number k None = 0

unfoldable pub as_read : Option Record → ℕ
as_read (Some r) = 1
as_read None = 0

unfoldable pub as_unreadable : Option Record → ℕ
as_unreadable (Some r) = 0
as_unreadable None = 1

-- ---- as an answered one with the longest sum l; and what an answered one adds to a total: of a refused line no count is summed
unfoldable pub as_longest : ℕ → Option Record → ℕ
as_longest l (Some r) = cond (eqb r.number 0 && eqb r.longest_sum l) 1 0
as_longest l None = 0

unfoldable pub if_answered : (Record → ℕ) → Option Record → ℕ
if_answered f (Some r) = cond (eqb r.number 0) (f r) 0
if_answered f None = 0

unfoldable pub rungs_in : Option Record → ℕ
rungs_in said = if_answered (λ r. r.rungs) said

unfoldable pub backward_in : Option Record → ℕ
backward_in said = if_answered (λ r. r.backward) said

-- by their magnitude: 8000 is 32,768
unfoldable pub zeros_in : Option Record → ℕ
zeros_in said = if_answered (λ r. nat_abs r.zeros) said

-- ---- what a line counts for in each cell, by its place: numbers, the reserve, longest sums, and the last five
unfoldable pub end_at : ℕ → Option Record → ℕ
end_at j said = get_or (rungs_in said ∷ backward_in said ∷ zeros_in said ∷ 1 ∷ as_unreadable said ∷ []) j 0

unfoldable pub part_at : ℕ → Option Record → ℕ
part_at i said =
    cond (ltb i numbers) (as_number i said)
    (cond (ltb i longest_at) 0
    (cond (ltb i rungs_at) (as_longest (i - longest_at) said) (end_at (i - rungs_at) said)))

-- ---- the page: a cell is the sum over the lines, and there are 58
unfoldable pub cell_of : ℕ → List (List ℕ) → ℕ
cell_of i lines = total_of (λ line. part_at i (said_by line)) lines

unfoldable pub up_to : ℕ → (ℕ → ℕ) → List ℕ
up_to zero f = []
up_to (suc n) f = up_to n f ++ (f n ∷ [])

-- of one line, by what it says
unfoldable pub one_page : Option Record → List ℕ
one_page said = up_to cells (λ i. part_at i said)

unfoldable pub page_of : List (List ℕ) → List ℕ
page_of lines = up_to cells (λ i. cell_of i lines)

-- ---- sums of parts: of the first n of a row of them
unfoldable pub sum_up_to : ℕ → (ℕ → ℕ) → ℕ
sum_up_to zero f = 0
sum_up_to (suc n) f = sum_up_to n f + f n

-- the lines that are read
unfoldable pub read_of : List (List ℕ) → ℕ
read_of lines = total_of (λ line. as_read (said_by line)) lines
