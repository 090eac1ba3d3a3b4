-- What lines come to, one after the other: the page, and how many of them were too many. Definitions only.
use Rattle.std.specs.Prelude.{◌≡◌, cond, List, [], ◌∷◌, ℕ, ◌+◌, eqb}
use Rattle.splitting.specs.Count.{Adds}
use Rattle.page.specs.Joining.{line_number, line_page, lines_page}

-- 1 for a line that is refused
abbrev pub one_unless : ℕ → ℕ
one_unless number = cond (eqb number 0) 0 1

abbrev pub refused_by : List ℕ → List ℕ → ℕ
refused_by page line = one_unless (line_number page line)

unfoldable pub refused_in : List ℕ → List (List ℕ) → ℕ
refused_in page [] = 0
refused_in page (l ∷ ls) = refused_by page l + refused_in (line_page page l) ls

-- a page and a count, and what they are behind some lines
pub record Grown (lines : List (List ℕ)) (page : List ℕ) (before : ℕ) (page' : List ℕ) (after : ℕ) : Type 0 where
  pub paged : page' ≡ lines_page page lines
  pub refused : Adds before (refused_in page lines) after
