-- Where the parts of a page stand, cell by cell, and how many lines it holds (docs/SCOPE.md, The page): the one home of the numbers.
-- Definitions only.
use Rattle.std.specs.Prelude.{ℕ}

-- ---- lines read, by their number from 0 to 31; behind them a cell in reserve
abbrev pub numbers : ℕ
numbers = 32

abbrev pub reserved_at : ℕ
reserved_at = 32

-- ---- answered lines, by their longest sum from 0 to 19
abbrev pub longest_at : ℕ
longest_at = 33

abbrev pub sums : ℕ
sums = 20

-- ---- totals over the answered lines, all lines, and the unreadable ones
abbrev pub rungs_at : ℕ
rungs_at = 53

abbrev pub backward_at : ℕ
backward_at = 54

abbrev pub zeros_at : ℕ
zeros_at = 55

abbrev pub lines_at : ℕ
lines_at = 56

abbrev pub unreadable_at : ℕ
unreadable_at = 57

abbrev pub cells : ℕ
cells = 58

-- ---- 2^32 - 1 lines, and what a cell can hold, 2^64 - 1
abbrev pub most_lines : ℕ
most_lines = 4294967295

abbrev pub most_cell : ℕ
most_cell = 18446744073709551615
