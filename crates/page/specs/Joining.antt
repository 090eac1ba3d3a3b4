-- Joining two pages, and adding a line, which is joining the page of that line alone (docs/SCOPE.md, The page). This is so of every page, whatever its
-- cells hold: a cell that would pass 2^64 - 1 stays there, and 15 goes by the counts of lines alone. Definitions only.
use Rattle.std.specs.Prelude.{Bool, cond, List, [], ◌∷◌, ℕ, ◌+◌, ◌-◌, leb, get_or, replicate}
use Rattle.refusal.specs.Number.{number_of}
use Rattle.refusal.specs.declared.refusal.Refusal.TheVariants.{Full}
use Rattle.page.specs.Layout.{lines_at, cells, most_lines, most_cell}
use Rattle.page.specs.Parts.{up_to, page_of}

-- a cell and what is added to it, as much as it holds
unfoldable pub added_to : ℕ → ℕ → ℕ
added_to a b = cond (leb b (most_cell - a)) (a + b) most_cell

unfoldable pub joined_cells : List ℕ → List ℕ → List ℕ
joined_cells a b = up_to cells (λ i. added_to (get_or a i 0) (get_or b i 0))

-- a page of zeros is the empty one
abbrev pub empty_page : List ℕ
empty_page = replicate cells 0

abbrev pub lines_in : List ℕ → ℕ
lines_in page = get_or page lines_at 0

-- no more lines than a page holds
unfoldable pub is_room : List ℕ → List ℕ → Bool
is_room a b = leb (lines_in a + lines_in b) most_lines

-- ---- the number, and the page that is joined to, which stands as it was where the number is 15
unfoldable pub join_number : List ℕ → List ℕ → ℕ
join_number a b = cond (is_room a b) 0 (number_of Full)

unfoldable pub join_page : List ℕ → List ℕ → List ℕ
join_page a b = cond (is_room a b) (joined_cells a b) a

-- ---- a line added
unfoldable pub line_number : List ℕ → List ℕ → ℕ
line_number page line = join_number page (page_of (line ∷ []))

unfoldable pub line_page : List ℕ → List ℕ → List ℕ
line_page page line = join_page page (page_of (line ∷ []))

-- ---- lines added one after the other
unfoldable pub lines_page : List ℕ → List (List ℕ) → List ℕ
lines_page page [] = page
lines_page page (l ∷ ls) = lines_page (line_page page l) ls
