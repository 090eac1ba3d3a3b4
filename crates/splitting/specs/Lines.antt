-- The lines of an input. Definitions only.
use Rattle.std.specs.Prelude.{Bool, true, not, cond, ◌&&◌, List, [], ◌∷◌, ◌++◌, ℕ, eqb}

abbrev pub newline : ℕ
newline = 10

-- what follows the last newline is a line, unless it is empty
unfoldable pub last_of : List ℕ → List (List ℕ)
last_of [] = []
last_of (b ∷ bs) = (b ∷ bs) ∷ []

-- the lines, each without its newline; `line` is what was read of the first already
unfoldable pub lines_from : List ℕ → List ℕ → List (List ℕ)
lines_from line [] = last_of line
lines_from line (b ∷ bs) = cond (eqb b newline) (line ∷ lines_from [] bs) (lines_from (line ++ (b ∷ [])) bs)

unfoldable pub lines_of : List ℕ → List (List ℕ)
lines_of input = lines_from [] input

-- lines, each with its newline
unfoldable pub ended_lines : List (List ℕ) → List ℕ
ended_lines [] = []
ended_lines (line ∷ lines) = line ++ (newline ∷ ended_lines lines)

-- no newline in a line, in any line
unfoldable pub is_plain : List ℕ → Bool
is_plain [] = true
is_plain (b ∷ bs) = not (eqb b newline) && is_plain bs

unfoldable pub are_plain : List (List ℕ) → Bool
are_plain [] = true
are_plain (line ∷ lines) = is_plain line && are_plain lines
