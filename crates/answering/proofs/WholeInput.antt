-- A whole input, cut into chunks anywhere and its answers written out anywhere, comes to one answer line for each line. Assumes nothing.
use mathlib.Core.Path.{◌≡◌, refl, sym, ap, ◌∙◌}
use mathlib.Core.Bool.{Bool, true, false, cond}
use mathlib.Core.List.{List, [], ◌∷◌, ◌++◌, append_assoc, append-nil}
use Prim.Native.Nat.{ℕ}
use lib.Dec.{eqb}
use lib.ListN.{take}
use Rattle.answering.specs.Line.{answer_line_of}
use Rattle.splitting.specs.Lines.{newline, last_of, lines_from, lines_of}
use Rattle.splitting.proofs.CutFacts.{take_more}
use Rattle.answering.specs.Lines.{answers_of, output_of}
use Rattle.answering.specs.Feed.{most_held, closed_of, step_if, step_of, fed_of, ended_from, ended_of, owed_of, kept_of, handed_from, joined_of}
use Rattle.answering.proofs.LineFacts.{kept}
use Rattle.answering.proofs.FeedFacts.{feed, kept_append, owed-append}

closed-kept : (line w : List ℕ) → closed_of (take most_held line) w ≡ w ++ (answer_line_of line ++ (newline ∷ []))
unfolding closed_of
closed-kept line w = ap (λ (l : List ℕ). w ++ (l ++ (newline ∷ []))) (kept line)

last_line : (line w : List ℕ) → ended_from (take most_held line) w ≡ w ++ answers_of (last_of line)
unfolding ended_from last_of answers_of
last_line [] w = sym (append-nil w)
last_line (c ∷ line) w = closed-kept (c ∷ line) w

-- one byte more, given what holds of the bytes behind it
from_byte :
    (line w bs : List ℕ) (b : ℕ) (t : Bool) → ((l v : List ℕ) → ended_of (fed_of (feed (take most_held l) v) bs) ≡ v ++ answers_of (lines_from l bs)) →
    ended_of (fed_of (step_if t (feed (take most_held line) w) b) bs) ≡ w ++ answers_of (cond t (line ∷ lines_from [] bs) (lines_from (line ++ (b ∷ [])) bs))
unfolding step_if answers_of
from_byte line w bs b true rest =
    rest [] (closed_of (take most_held line) w)
    ∙ ap (λ (l : List ℕ). l ++ answers_of (lines_from [] bs)) (closed-kept line w)
    ∙ append_assoc w (answer_line_of line ++ (newline ∷ [])) (answers_of (lines_from [] bs))
    ∙ ap (λ (l : List ℕ). w ++ l) (append_assoc (answer_line_of line) (newline ∷ []) (answers_of (lines_from [] bs)))
from_byte line w bs b false rest = ap (λ (l : List ℕ). ended_of (fed_of (feed l w) bs)) (take_more most_held line (b ∷ [])) ∙ rest (line ++ (b ∷ [])) w

-- `line` is what was read of a line, and w what was written
from : (line w bs : List ℕ) → ended_of (fed_of (feed (take most_held line) w) bs) ≡ w ++ answers_of (lines_from line bs)
unfolding ended_of fed_of lines_from step_of
from line w [] = last_line line w
from line w (b ∷ bs) = from_byte line w bs b (eqb b newline) (λ l v. from l v bs)

-- ---- the whole input
whole : (input : List ℕ) → ended_of (fed_of (feed [] []) input) ≡ output_of input
unfolding output_of lines_of
whole input = from [] [] input

ended-front : (h w v : List ℕ) → ended_from h (w ++ v) ≡ w ++ ended_from h v
unfolding ended_from closed_of
ended-front [] w v = refl
ended-front (c ∷ h) w v = append_assoc w v (answer_line_of (c ∷ h) ++ (newline ∷ []))

-- ---- chunk after chunk, and then the end: the answers of the chunks as one input
owed-end : (held bytes : List ℕ) → owed_of held bytes ++ ended_from (kept_of held bytes) [] ≡ ended_of (fed_of (feed held []) bytes)
unfolding owed_of kept_of ended_of
owed-end held bytes = let s = fed_of (feed held []) bytes in sym (ended-front s.held s.written []) ∙ ap (ended_from s.held) (append-nil s.written)

-- the answers of an input: those of the lines that were read to their ends, and that of a last line
pub output-parts : (input : List ℕ) → owed_of [] input ++ ended_from (kept_of [] input) [] ≡ output_of input
output-parts input = owed-end [] input ∙ whole input

handed : (held : List ℕ) (chunks : List (List ℕ)) → handed_from held chunks ≡ owed_of held (joined_of chunks) ++ ended_from (kept_of held (joined_of chunks)) []
unfolding handed_from joined_of owed_of kept_of fed_of
handed held [] = refl
handed held (chunk ∷ chunks) =
    let rest = joined_of chunks in
    let k = kept_of held chunk in
    ap (λ (l : List ℕ). owed_of held chunk ++ l) (handed k chunks)
    ∙ sym (append_assoc (owed_of held chunk) (owed_of k rest) (ended_from (kept_of k rest) []))
    ∙ ap (λ (l : List ℕ). l ++ ended_from (kept_of k rest) []) (owed-append held chunk rest)
    ∙ ap (λ (l : List ℕ). owed_of held (chunk ++ rest) ++ ended_from l []) (kept_append held chunk rest)

pub cut-anywhere : (chunks : List (List ℕ)) → handed_from [] chunks ≡ output_of (joined_of chunks)
cut-anywhere chunks = handed [] chunks ∙ output-parts (joined_of chunks)
