-- An answer line, written from a call's answer and its cells, or from any five numbers (docs/SCOPE.md, The frame program). Definitions only.
use Rattle.std.specs.Prelude.{cond, List, [], ◌∷◌, ◌++◌, ℕ, ◌-◌, ◌%◌, eqb, Float, ℤ, pos, negsuc}
use Rattle.std.specs.Float.{binary64}
use Rattle.std.specs.Float.Ieee.{to_bits}
use Rattle.call.specs.Answer.{Answer, number_in, zeros_in, longest_in, rungs_in, backward_in}
use Rattle.frame.specs.declared.reading.Record.{Record}
use Rattle.frame.specs.Layout.{byte_width, count_width, float_width}
use Rattle.frame.specs.Digits.{spelled_of}

-- two's complement in two bytes
unfoldable pub twos_complement : ℤ → ℕ
twos_complement (pos n) = n % 65536
twos_complement (negsuc n) = 65535 - n % 65536

-- number, zeros, longest sum, rungs, backward steps
unfoldable pub spelled_record : ℕ → ℤ → ℕ → ℕ → ℕ → List ℕ
spelled_record number zeros longest_sum rungs backward =
    spelled_of byte_width number
    ++ (spelled_of count_width (twos_complement zeros)
    ++ (spelled_of count_width longest_sum
    ++ (spelled_of count_width rungs
    ++ spelled_of count_width backward)))

-- of any five numbers, and of an answer's
unfoldable pub spelled_numbers : Record → List ℕ
spelled_numbers r = spelled_record r.number r.zeros r.longest_sum r.rungs r.backward

unfoldable pub record_of : Answer → List ℕ
record_of a = spelled_record (number_in a) (zeros_in a) (longest_in a) (rungs_in a) (backward_in a)

-- each pattern of bits in sixteen digits
unfoldable pub spelled_patterns : List ℕ → List ℕ
spelled_patterns [] = []
spelled_patterns (b ∷ bs) = spelled_of float_width b ++ spelled_patterns bs

-- each cell by its bits, re before im; a not-a-number's are 7FF8000000000000
unfoldable pub cells_of : List Float → List ℕ
cells_of [] = []
cells_of (x ∷ xs) = spelled_of float_width (to_bits binary64 x) ++ cells_of xs

-- the pairs follow the number 0 alone, whatever the other numbers are
unfoldable pub written_of : Record → List Float → List ℕ
written_of r cells = spelled_numbers r ++ cond (eqb r.number 0) (cells_of cells) []

unfoldable pub line_of : Answer → List Float → List ℕ
line_of a cells = record_of a ++ cond (eqb (number_in a) 0) (cells_of cells) []
