-- An input byte by byte, cut anywhere: what is held of the line that is being read, never more than 57 bytes, and what is written.
-- Definitions only.
use Rattle.std.specs.Prelude.{Bool, true, false, List, [], ◌∷◌, ◌++◌, ℕ, eqb, take}
use Rattle.answering.specs.Line.{answer_line_of}
use Rattle.splitting.specs.Lines.{newline}

-- one byte more than a frame has: a line that is as long or longer is malformed, whatever follows
abbrev pub most_held : ℕ
most_held = 57

pub record Feed : Type 0 where
  pub held : List ℕ
  pub written : List ℕ

-- a line and its newline behind what is written
abbrev pub with_line : List ℕ → List ℕ → List ℕ
with_line line written = written ++ (line ++ (newline ∷ []))

unfoldable pub closed_of : List ℕ → List ℕ → List ℕ
closed_of held written = with_line (answer_line_of held) written

unfoldable pub step_if : Bool → Feed → ℕ → Feed
step_if true s b = record { held = []; written = closed_of s.held s.written }
step_if false s b = record { held = take most_held (s.held ++ (b ∷ [])); written = s.written }

unfoldable pub step_of : Feed → ℕ → Feed
step_of s b = step_if (eqb b newline) s b

unfoldable pub fed_of : Feed → List ℕ → Feed
fed_of s [] = s
fed_of s (b ∷ bs) = fed_of (step_of s b) bs

-- at the end of the input: what is held is a last line, unless it is empty
unfoldable pub ended_from : List ℕ → List ℕ → List ℕ
ended_from [] written = written
ended_from (b ∷ bs) written = closed_of (b ∷ bs) written

unfoldable pub ended_of : Feed → List ℕ
ended_of s = ended_from s.held s.written

-- bytes of the input where so much of a line was held: the answers that they complete, and what is held then
unfoldable pub owed_of : List ℕ → List ℕ → List ℕ
owed_of held bytes = (fed_of (record { held = held; written = [] }) bytes).written

unfoldable pub kept_of : List ℕ → List ℕ → List ℕ
kept_of held bytes = (fed_of (record { held = held; written = [] }) bytes).held

-- chunk after chunk, and then the end: all that is handed on
unfoldable pub handed_from : List ℕ → List (List ℕ) → List ℕ
handed_from held [] = ended_from held []
handed_from held (chunk ∷ chunks) = owed_of held chunk ++ handed_from (kept_of held chunk) chunks

unfoldable pub joined_of : List (List ℕ) → List ℕ
joined_of [] = []
joined_of (chunk ∷ chunks) = chunk ++ joined_of chunks
