-- What some bytes, a read and the whole run come to: what is held, the page, the lines too many, and how it ended. Definitions only.
use Rattle.std.specs.Prelude.{◌≡◌, Bool, List, [], ◌∷◌, ℕ, ◌-◌, min, ℤ, pos, negsuc, length, take}
use Rattle.splitting.specs.Lines.{last_of, lines_of}
use Rattle.splitting.specs.Cut.{left_by, left_if, ended_in, closed_if}
use Rattle.splitting.specs.Count.{Adds}
use Rattle.splitting.specs.State.{status_of}
use Rattle.splitting.specs.declared.state.State.TheVariants.{Going, Whole, Unread}
use Rattle.page.specs.Layout.{most_lines}
use Rattle.page.specs.Parts.{page_of}
use Rattle.page.specs.Joining.{empty_page}
use Rattle.morning.specs.Tally.{Grown}
use Rattle.morning.specs.declared.turn.Turn.{Turn}

-- one byte more than an answer line has: a line that is as long or longer is unreadable, whatever follows
abbrev pub most_held : ℕ
most_held = 16403

-- ---- after a line as far as it is held, come to its end or not: counted, or held still
pub record Settled (ended : Bool) (held page : List ℕ) (before : ℕ) (line page' : List ℕ) (after : ℕ) : Type 0 where
  pub holds : line ≡ left_if ended held
  pub grown : Grown (closed_if ended held []) page before page' after

-- ---- after some bytes: what they leave is held, and the lines that they end are counted
pub record Passed (held bytes page : List ℕ) (before : ℕ) (line page' : List ℕ) (after : ℕ) : Type 0 where
  pub holds : line ≡ left_by most_held held bytes
  pub grown : Grown (ended_in most_held held bytes) page before page' after

pub record PassedTo (held bytes page : List ℕ) (before : ℕ) (line page' : List ℕ) (r : Turn) : Type 0 where
  pub going : r.state ≡ Going
  pub passed : Passed held bytes page before line page' r.refused

-- ---- at the end of the input: what is held is a last line, unless it is empty
pub record AtEnd (held page : List ℕ) (before : ℕ) (page' : List ℕ) (r : Turn) : Type 0 where
  pub ended : r.state ≡ Whole
  pub grown : Grown (last_of held) page before page' r.refused

-- ---- by what a read reported: less than 0 is a failure, 0 the end, and else so many bytes stand at the buffer's start
unfoldable pub TakenSome : List ℕ → List ℕ → List ℕ → ℕ → List ℕ → List ℕ → Turn → Type 0
TakenSome [] held page before line page' r = AtEnd held page before page' r
TakenSome (b ∷ bs) held page before line page' r = PassedTo held (b ∷ bs) page before line page' r

unfoldable pub TakenRead : ℤ → List ℕ → List ℕ → List ℕ → ℕ → List ℕ → List ℕ → Turn → Type 0
TakenRead (negsuc k) buffer held page before line page' r = r.state ≡ Unread
TakenRead (pos k) buffer held page before line page' r = TakenSome (take (min k (length buffer)) buffer) held page before line page' r

-- ---- the whole run: where all was read, the page is that of the lines of what the reads brought, of the first 2^32 - 1 of them, and the others are
-- counted as too many; 0 is told where there are none
pub record Served (page : List ℕ) (r : Turn) : Type 0 where
  pub input : List ℕ
  pub paged : r.state ≡ Whole → page ≡ page_of (take most_lines (lines_of input))
  pub refused : r.state ≡ Whole → Adds 0 (length (lines_of input) - most_lines) r.refused
  pub over : r.state ≡ Going → ⊥
  pub clean : status_of r.state r.refused ≡ 48 → page ≡ page_of (lines_of input)

-- ---- as long as it goes on: of what the reads brought, what it leaves is held, and the lines that it ended are counted
pub record Reached (line page : List ℕ) (refused : ℕ) : Type 0 where
  pub input : List ℕ
  pub passed : Passed [] input empty_page 0 line page refused
