-- An answer line, read by its layout alone: 18 digits of the record, behind the number 0 one to 512 pairs, and behind any other number none
-- (docs/SCOPE.md, The frame program). Which numbers there are, and how large a count can be, is not asked here. Definitions only.
use Rattle.std.specs.Prelude.{◌≡◌, Bool, cond, ◌&&◌, List, [], ◌∷◌, ◌++◌, length, Float, Option, None, Some}
use Rattle.std.specs.Prelude.{ℕ, zero, suc, ◌+◌, ◌*◌, ◌-◌, ◌/◌, ◌%◌, ◌≤◌, ◌<◌, ltb, leb, eqb, ℤ, pos, negsuc}
use Rattle.std.specs.Float.{binary64}
use Rattle.std.specs.Float.Ieee.{of_bits}
use Rattle.call.specs.Answer.{Answer, number_in, zeros_in, longest_in, rungs_in, backward_in}
use Rattle.frame.specs.declared.reading.Record.{Record}
use Rattle.frame.specs.Layout.{byte_width, count_width, float_width, pair_width, number_at, zeros_at, longest_sum_at, rungs_at, backward_at}
use Rattle.frame.specs.Layout.{record_length, longest_pairs}
use Rattle.frame.specs.Digits.{are_digits, field_of}
use Rattle.frame.specs.Writing.{spelled_record, spelled_patterns}

-- what two bytes stand for in two's complement
unfoldable pub signed_word : ℕ → ℤ
signed_word w = cond (ltb w 32768) (pos w) (negsuc (65535 - w))

-- the record's fields, and how many pairs the rest of the line is
unfoldable pub record_at : List ℕ → Record
record_at line = record {
  number = field_of number_at byte_width line;
  zeros = signed_word (field_of zeros_at count_width line);
  longest_sum = field_of longest_sum_at count_width line;
  rungs = field_of rungs_at count_width line;
  backward = field_of backward_at count_width line;
  pairs = (length line - record_length) / pair_width;
}

-- how many digits may follow a number
unfoldable pub rest_inside : ℕ → ℕ → Bool
rest_inside number rest = cond (eqb number 0) (ltb 0 rest && (leb rest longest_pairs && eqb (rest % pair_width) 0)) (eqb rest 0)

unfoldable pub layout_kept : List ℕ → Bool
layout_kept line = leb record_length (length line) && (are_digits line && rest_inside (field_of number_at byte_width line) (length line - record_length))

unfoldable pub reading_of : List ℕ → Option Record
reading_of line = cond (layout_kept line) (Some (record_at line)) None

-- ---- the cells, re before im: the bits of one by its place, and of the first n
unfoldable pub cell_bits_of : ℕ → List ℕ → ℕ
cell_bits_of i line = field_of (record_length + i * float_width) float_width line

unfoldable pub bits_read : ℕ → List ℕ → List ℕ
bits_read zero line = []
bits_read (suc n) line = bits_read n line ++ (cell_bits_of n line ∷ [])

-- and the first n as values: each pattern of a not-a-number is the fixed one
unfoldable pub cells_read : ℕ → List ℕ → List Float
cells_read zero line = []
cells_read (suc n) line = cells_read n line ++ (of_bits binary64 (cell_bits_of n line) ∷ [])

-- ---- what a line can say: a count of zeros from -32,768 to 32,767, and as many pairs as may follow the number
unfoldable pub FitsWord : ℤ → Type 0
FitsWord (pos n) = n < 32768
FitsWord (negsuc n) = n < 32768

pub record RecordFits (r : Record) : Type 0 where
  pub number : r.number < 256
  pub zeros : FitsWord r.zeros
  pub sum : r.longest_sum < 65536
  pub rungs : r.rungs < 65536
  pub backward : r.backward < 65536
  pub answered : r.number ≡ 0 → (1 ≤ r.pairs) × (r.pairs ≤ 512)
  pub refused : (r.number ≡ 0 → ⊥) → r.pairs ≡ 0

-- of an answer and so many pairs
unfoldable pub said_of : Answer → ℕ → Record
said_of a pairs = record {
  number = number_in a;
  zeros = zeros_in a;
  longest_sum = longest_in a;
  rungs = rungs_in a;
  backward = backward_in a;
  pairs = pairs;
}

-- the line that says it, with the bits of the cells
unfoldable pub line_again : Record → List ℕ → List ℕ
line_again r bits = spelled_record r.number r.zeros r.longest_sum r.rungs r.backward ++ spelled_patterns bits
