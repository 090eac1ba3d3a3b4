-- The answers of an input of many lines: one answer line for each. Definitions only.
use Rattle.std.specs.Prelude.{List, [], ◌∷◌, ◌++◌, ℕ}
use Rattle.splitting.specs.Lines.{newline, lines_of}
use Rattle.answering.specs.Line.{answer_line_of}

unfoldable pub answers_of : List (List ℕ) → List ℕ
answers_of [] = []
answers_of (line ∷ lines) = answer_line_of line ++ (newline ∷ answers_of lines)

unfoldable pub output_of : List ℕ → List ℕ
output_of input = answers_of (lines_of input)
