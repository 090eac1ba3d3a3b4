-- Where the fields of a frame and of an answer line stand, counted in hexadecimal digits, two a byte (docs/SCOPE.md, The frame program):
-- the one home of the numbers. Definitions only.
use Rattle.std.specs.Prelude.{ℕ}

-- ---- widths of fields
abbrev pub byte_width : ℕ
byte_width = 2

abbrev pub count_width : ℕ
count_width = 4

abbrev pub float_width : ℕ
float_width = 16

abbrev pub pair_width : ℕ
pair_width = 32

-- ---- an asking frame: kind, scaling, n, and the bits of v, re and im
abbrev pub kind_at : ℕ
kind_at = 0

abbrev pub scaling_at : ℕ
scaling_at = 2

abbrev pub count_at : ℕ
count_at = 4

abbrev pub order_at : ℕ
order_at = 8

abbrev pub re_at : ℕ
re_at = 24

abbrev pub im_at : ℕ
im_at = 40

abbrev pub asking_length : ℕ
asking_length = 56

-- ---- an answer: the record, number, zeros, longest sum, rungs and backward steps, and behind it no more than 512 pairs
abbrev pub number_at : ℕ
number_at = 0

abbrev pub zeros_at : ℕ
zeros_at = 2

abbrev pub longest_sum_at : ℕ
longest_sum_at = 6

abbrev pub rungs_at : ℕ
rungs_at = 10

abbrev pub backward_at : ℕ
backward_at = 14

abbrev pub record_length : ℕ
record_length = 18

abbrev pub longest_cells : ℕ
longest_cells = 1024

abbrev pub longest_pairs : ℕ
longest_pairs = 16384

abbrev pub longest_line : ℕ
longest_line = 16402
