-- The answer line of a line, byte by byte, for every line (docs/SCOPE.md, The frame program). Definitions only.
use Rattle.std.specs.Prelude.{List, ℕ, ◌*◌, Option, None, Some}
use Rattle.frame.specs.declared.asking.Asking.{Asking}
use Rattle.refusal.specs.declared.refusal.Refusal.TheVariants as refusals
use Rattle.frame.specs.Over.{offered}
use Rattle.frame.specs.Asking.{parsed_of}
use Rattle.bessel.specs.Outcome.{Outcome, refused_outcome}
use Rattle.answering.specs.Called.{called_of, outcome_line}

unfoldable pub outcome_of : Option Asking → Outcome
outcome_of (Some a) = called_of a (a.count * 2)
outcome_of None = refused_outcome refusals.Malformed 0

unfoldable pub answer_line_of : List ℕ → List ℕ
answer_line_of line = outcome_line (outcome_of (parsed_of line))

-- of what was parsed already
abbrev pub parsed_line : Option Asking → List ℕ
parsed_line p = outcome_line (outcome_of p)

-- ---- into lent bytes: behind the line's end they stay, and fewer than this line's are left alone
abbrev pub bytes_into : List ℕ → List ℕ → List ℕ
bytes_into d line = offered (answer_line_of line) d
