-- The outcome of a call on a buffer of so many cells: what it returns, and what every cell then holds. Definitions only.
use Rattle.std.specs.Prelude.{Bool, true, false, List, ℕ, drop, replicate, Float, Ok, Err}
use Rattle.machine.specs.Constants.{not_a_number}
use Rattle.cells.specs.AllFinite.{all_finite}
use Rattle.refusal.specs.declared.refusal.Refusal.{Refusal}
use Rattle.refusal.specs.declared.refusal.Refusal.TheVariants.{Overflow}
use Rattle.call.specs.Answer.{Answer, refused_of}
use Rattle.call.specs.Checks.{Check, Verdict, verdict_of}

pub record Outcome : Type 0 where
  pub answer : Answer
  pub cells : List Float

-- a refusal fills every cell with the fixed not-a-number
unfoldable pub refused_outcome : Refusal → ℕ → Outcome
refused_outcome refusal length = record { answer = refused_of refusal; cells = replicate length not_a_number }

-- refusal 8: a cell of a finished entry is not finite. The finished entries are those from the cell `from` on.
unfoldable pub judged_if : Bool → ℕ → Answer → List Float → Outcome
judged_if true length answer cells = record { answer = answer; cells = cells }
judged_if false length answer cells = refused_outcome Overflow length

unfoldable pub judged_of : ℕ → Answer → ℕ → List Float → Outcome
judged_of length answer from cells = judged_if (all_finite (drop from cells)) length answer cells

-- ---- what the steps of an admitted call come to: a record, its cells and the first finished one of them; or a refusal
pub data Steps : Type 0 where
  Delivered : Answer → ℕ → List Float → Steps
  Stopped : Refusal → Steps

unfoldable pub concluded_of : ℕ → Steps → Outcome
concluded_of length (Delivered answer from cells) = judged_of length answer from cells
concluded_of length (Stopped refusal) = refused_outcome refusal length

-- ---- a call: refused by the first of its checks that applies, and otherwise what its steps come to
unfoldable pub outcome_by : Verdict → ℕ → Steps → Outcome
outcome_by (Ok admitted) length steps = concluded_of length steps
outcome_by (Err refusal) length steps = refused_outcome refusal length

unfoldable pub call_outcome : List Check → ℕ → Steps → Outcome
call_outcome checks length steps = outcome_by (verdict_of checks) length steps
