-- A sweep: its number, how many bytes its frames are, and the frames (docs/SCOPE.md, The sweep). Definitions only.
use Rattle.std.specs.Prelude.{List, [], ℕ, ◌*◌, Result, Ok, Err}
use Rattle.refusal.specs.Number.{number_of}
use Rattle.refusal.specs.declared.refusal.Refusal.{Refusal}
use Rattle.call.specs.Checks.{Verdict, verdict_of, number_given}
use Rattle.sweeping.specs.declared.request.Request.{Request}
use Rattle.sweeping.specs.Points.{normalised_request, frames_up_to}
use Rattle.sweeping.specs.Checks.{sweep_checks}

-- a frame's digits and its newline
abbrev pub line_length : ℕ
line_length = 57

-- the refusal's number or 0, and how many bytes the frames are
pub record Swept : Type 0 where
  pub number : ℕ
  pub needed : ℕ

-- of what the writer hands back: how many bytes, or a refusal
abbrev pub swept_in : Result ℕ Refusal → Swept
swept_in (Ok needed) = record { number = 0; needed = needed }
swept_in (Err refusal) = record { number = number_of refusal; needed = 0 }

unfoldable pub verdict_for : Request → Verdict
verdict_for r = verdict_of (sweep_checks (normalised_request r))

-- ---- by the verdict: a refused sweep has no frames
unfoldable pub needed_by : Verdict → Request → ℕ
needed_by (Ok admitted) r = r.steps * line_length
needed_by (Err refusal) r = 0

unfoldable pub frames_by : Verdict → Request → List ℕ
frames_by (Ok admitted) r = frames_up_to (normalised_request r) r.steps
frames_by (Err refusal) r = []

unfoldable pub swept_of : Request → Swept
swept_of r = record { number = number_given (verdict_for r); needed = needed_by (verdict_for r) r }

unfoldable pub frames_of : Request → List ℕ
frames_of r = frames_by (verdict_for r) r
