-- What a line, a read and the whole run come to: what is held, the three counts, and how it ended. Definitions only.
use Rattle.std.specs.Prelude.{◌≡◌, Bool, cond, ◌⊎◌, List, [], ◌∷◌, ℕ, min, eqb, ℤ, pos, negsuc, length, take}
use Rattle.splitting.specs.Lines.{last_of, lines_of}
use Rattle.splitting.specs.Cut.{left_by, left_if, ended_in, closed_if}
use Rattle.splitting.specs.Count.{total_of, Adds}
use Rattle.splitting.specs.State.{status_of}
use Rattle.sweeping.specs.Line.{line_swept, line_bytes}
use Rattle.splitting.specs.declared.state.State.{State}
use Rattle.splitting.specs.declared.state.State.TheVariants.{Going, Whole, Unwritten, Unread}
use Rattle.sweep.specs.declared.turn.Turn.{Turn}

-- one byte more than a request has: a line that is as long or longer is malformed, whatever follows
abbrev pub most_held : ℕ
most_held = 93

-- the frames of the longest sweep, 4,096 lines of 57
abbrev pub most_room : ℕ
most_room = 233472

-- ---- what is counted of a line: itself, whether it is refused, and the bytes of its frames
abbrev pub is_request : List ℕ → ℕ
is_request line = 1

unfoldable pub is_refused : List ℕ → ℕ
is_refused line = cond (eqb (line_swept line).number 0) 0 1

abbrev pub frame_bytes : List ℕ → ℕ
frame_bytes line = length (line_bytes line)

pub record Grown (lines : List (List ℕ)) (before after : Turn) : Type 0 where
  pub requests : Adds before.requests (total_of is_request lines) after.requests
  pub refused : Adds before.refused (total_of is_refused lines) after.refused
  pub sent : Adds before.sent (total_of frame_bytes lines) after.sent

-- ---- a turn as it was, but over
abbrev pub ended_as : Turn → State → Turn
ended_as turn state = record { requests = turn.requests; refused = turn.refused; sent = turn.sent; state = state }

-- ---- after a line: it goes on, or a write failed
pub record Answered (line : List ℕ) (before after : Turn) : Type 0 where
  pub going : after.state ≡ Going
  pub grown : Grown (line ∷ []) before after

abbrev pub AfterLine : List ℕ → Turn → Turn → Type 0
AfterLine line before after = Answered line before after ⊎ (after.state ≡ Unwritten)

-- ---- after a line as far as it is held, come to its end or not: answered, or held still, or a write failed
pub record Rested (ended : Bool) (held : List ℕ) (before : Turn) (line : List ℕ) (after : Turn) : Type 0 where
  pub going : after.state ≡ Going
  pub holds : line ≡ left_if ended held
  pub grown : Grown (closed_if ended held []) before after

abbrev pub Settled : Bool → List ℕ → Turn → List ℕ → Turn → Type 0
Settled ended held before line after = Rested ended held before line after ⊎ (after.state ≡ Unwritten)

-- ---- after some bytes: it goes on, holds what they leave and has answered the lines that they end, or a write failed
pub record Passed (held bytes : List ℕ) (before : Turn) (line : List ℕ) (after : Turn) : Type 0 where
  pub going : after.state ≡ Going
  pub holds : line ≡ left_by most_held held bytes
  pub grown : Grown (ended_in most_held held bytes) before after

abbrev pub AfterBytes : List ℕ → List ℕ → Turn → List ℕ → Turn → Type 0
AfterBytes held bytes before line after = Passed held bytes before line after ⊎ (after.state ≡ Unwritten)

-- ---- at the end of the input: what is held is a last line, unless it is empty
pub record Ended (held : List ℕ) (before after : Turn) : Type 0 where
  pub ended : after.state ≡ Whole
  pub grown : Grown (last_of held) before after

abbrev pub AtEnd : List ℕ → Turn → Turn → Type 0
AtEnd held before after = Ended held before after ⊎ (after.state ≡ Unwritten)

-- ---- after a read that failed: nothing more is answered
pub record Failed (before after : Turn) : Type 0 where
  pub failed : after.state ≡ Unread
  pub grown : Grown [] before after

-- ---- by what a read reported: less than 0 is a failure, 0 the end, and else so many bytes stand at the buffer's start
unfoldable pub TakenSome : List ℕ → List ℕ → Turn → List ℕ → Turn → Type 0
TakenSome [] held before line after = AtEnd held before after
TakenSome (b ∷ bs) held before line after = AfterBytes held (b ∷ bs) before line after

unfoldable pub TakenRead : ℤ → List ℕ → List ℕ → Turn → List ℕ → Turn → Type 0
TakenRead (negsuc k) buffer held before line after = Failed before after
TakenRead (pos k) buffer held before line after = TakenSome (take (min k (length buffer)) buffer) held before line after

-- ---- the whole run: of what the reads brought, all lines, or those that were read to their ends; 0 is told where all were, and none was refused
abbrev pub start : Turn
start = record { requests = 0; refused = 0; sent = 0; state = Going }

pub record Served (r : Turn) : Type 0 where
  pub input : List ℕ
  pub whole : r.state ≡ Whole → Grown (lines_of input) start r
  pub unread : r.state ≡ Unread → Grown (ended_in most_held [] input) start r
  pub over : r.state ≡ Going → ⊥
  pub clean : status_of r.state r.refused ≡ 48 → (r.state ≡ Whole) × (total_of is_refused (lines_of input) ≡ 0)

-- ---- as long as it goes on: of what the reads brought, what it leaves is held, and the lines that it ended are counted
pub record Reached (line : List ℕ) (last : Turn) : Type 0 where
  pub input : List ℕ
  pub holds : line ≡ left_by most_held [] input
  pub grown : Grown (ended_in most_held [] input) start last
