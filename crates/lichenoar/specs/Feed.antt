-- The room that an answer line takes, and a frame that stands whole in a chunk. Definitions only.
use Rattle.std.specs.Prelude.{cond, ◌&&◌, List, ℕ, ◌+◌, eqb, leb, length, take, drop, get_or, Option, None}
use Rattle.frame.specs.declared.asking.Fields.{Fields}
use Rattle.frame.specs.Asking.{framed_of}
use Rattle.splitting.specs.Lines.{newline}

-- the longest answer line and its newline
abbrev pub most_room : ℕ
most_room = 16403

-- room for answer lines
abbrev pub most_written : ℕ
most_written = 65536

-- from an index on: the fields of 56 bytes, where a newline stands behind them
unfoldable pub frame_ahead : List ℕ → ℕ → Option Fields
frame_ahead chunk at = cond (leb (at + 57) (length chunk) && eqb (get_or chunk (at + 56) 0) newline) (framed_of (take 56 (drop at chunk))) None
