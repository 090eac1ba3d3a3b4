-- A line of digits that comes next in a chunk. Definitions only.
use Rattle.std.specs.Prelude.{◌≡◌, true, List, ℕ, ◌+◌, ◌≤◌, ◌<◌, length, take, drop, get_or}
use Rattle.splitting.specs.Lines.{newline}
use Rattle.frame.specs.Layout.{record_length, longest_line}
use Rattle.frame.specs.Digits.{are_digits}

-- a record's digits
pub record StartsWell (chunk : List ℕ) (at : ℕ) : Type 0 where
  pub room : at + record_length ≤ length chunk
  pub digits : are_digits (take record_length (drop at chunk)) ≡ true

-- n digits and a newline, no more of them than an answer line has
pub record LineAhead (chunk : List ℕ) (at n : ℕ) : Type 0 where
  pub long : record_length ≤ n
  pub few : n ≤ longest_line
  pub room : at + n < length chunk
  pub digits : are_digits (take n (drop at chunk)) ≡ true
  pub ended : get_or chunk (at + n) 0 ≡ newline
