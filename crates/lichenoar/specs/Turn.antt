-- What one read comes to, and the whole run: what is held, how many bytes of answers the writer took, and how it ended. Definitions only.
use Rattle.std.specs.Prelude.{◌≡◌, ◌⊎◌, List, [], ◌∷◌, ℕ, ◌+◌, ◌%◌, ◌≤◌, ◌<◌, min, ℤ, pos, negsuc, length, take}
use Rattle.splitting.specs.declared.state.State.{State}
use Rattle.splitting.specs.declared.state.State.TheVariants.{Going, Whole, Unwritten, Unread}
use Rattle.lichenoar.specs.declared.turn.Turn.{Turn}
use Rattle.answering.specs.Lines.{output_of}
use Rattle.splitting.specs.Cut.{part_of}
use Rattle.answering.specs.Feed.{ended_from, owed_of, kept_of}

-- ---- a count of bytes, modulo 2^63, and a total that is another one and n bytes more
abbrev pub tallied : ℕ → ℕ
tallied n = n % 9223372036854775808

abbrev pub Adds : ℕ → ℕ → ℕ → Type 0
Adds sent n total = tallied total ≡ tallied (sent + n)

-- ---- after the bytes of a chunk from one place to another: they are taken, held is what they leave, and their answers were handed on
pub record Delivered (chunk : List ℕ) (from at : ℕ) (held : List ℕ) (before : Turn) (line : List ℕ) (after : Turn) : Type 0 where
  pub low : from < at
  pub high : at ≤ length chunk
  pub same : after.state ≡ before.state
  pub holds : line ≡ kept_of held (part_of chunk from at)
  pub sent : after.sent ≡ tallied (before.sent + length (owed_of held (part_of chunk from at)))

-- ---- after some bytes: it goes on, holds what they leave and has handed on their answers, or a write failed
pub record Passed (held bytes : List ℕ) (sent : ℕ) (line : List ℕ) (r : Turn) : Type 0 where
  pub going : r.state ≡ Going
  pub holds : line ≡ kept_of held bytes
  pub adds : Adds sent (length (owed_of held bytes)) r.sent

abbrev pub AfterBytes : List ℕ → List ℕ → ℕ → List ℕ → Turn → Type 0
AfterBytes held bytes sent line r = Passed held bytes sent line r ⊎ (r.state ≡ Unwritten)

-- ---- at the end of the input: what is held is a last line, unless it is empty
pub record Ended (held : List ℕ) (sent : ℕ) (r : Turn) : Type 0 where
  pub ended : r.state ≡ Whole
  pub adds : Adds sent (length (ended_from held [])) r.sent

abbrev pub AtEnd : List ℕ → ℕ → Turn → Type 0
AtEnd held sent r = Ended held sent r ⊎ (r.state ≡ Unwritten)

-- ---- after a read that failed: nothing more is answered
pub record Failed (sent : ℕ) (r : Turn) : Type 0 where
  pub failed : r.state ≡ Unread
  pub adds : Adds sent 0 r.sent

-- ---- by what a read reported: less than 0 is a failure, 0 the end, and else so many bytes stand at the buffer's start
unfoldable pub TakenSome : List ℕ → List ℕ → ℕ → List ℕ → Turn → Type 0
TakenSome [] held sent line r = AtEnd held sent r
TakenSome (b ∷ bs) held sent line r = AfterBytes held (b ∷ bs) sent line r

unfoldable pub Taken : ℤ → List ℕ → List ℕ → ℕ → List ℕ → Turn → Type 0
Taken (negsuc k) buffer held sent line r = Failed sent r
Taken (pos k) buffer held sent line r = TakenSome (take (min k (length buffer)) buffer) held sent line r

-- ---- the whole run: of what the reads brought, all answers, or those of the lines that were read to their ends
pub record Served (r : Turn) : Type 0 where
  pub input : List ℕ
  pub whole : r.state ≡ Whole → Adds 0 (length (output_of input)) r.sent
  pub unread : r.state ≡ Unread → Adds 0 (length (owed_of [] input)) r.sent
  pub over : r.state ≡ Going → ⊥

-- ---- as long as it goes on: of what the reads brought, what it leaves is held, and the answers of its lines were handed on
pub record Reached (line : List ℕ) (sent : ℕ) : Type 0 where
  pub input : List ℕ
  pub holds : line ≡ kept_of [] input
  pub adds : Adds 0 (length (owed_of [] input)) sent

-- ---- told at the end: 0 where everything was read and written, and else 1, as a digit
abbrev pub status_of : State → ℕ
status_of Whole = 48
status_of Going = 49
status_of Unwritten = 49
status_of Unread = 49
