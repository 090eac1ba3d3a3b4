-- The limits of a call's arguments (docs/SCOPE.md, Domain and refusals). Definitions only.
use Rattle.std.specs.Prelude.{Bool, cond, ◌&&◌, ℕ, ◌%◌, ltb, leb, eqb, Float}
use Rattle.std.specs.Float.{binary64}
use Rattle.std.specs.Float.Ieee.{of_bits, neg, eq, le}
use Rattle.std.specs.Float.Ieee.Scale.{finite}
use Rattle.machine.specs.Small.{nothing}

-- 1,000 and 32,768
abbrev pub largest_order : Float
largest_order = of_bits binary64 0x408F400000000000

abbrev pub largest_part : Float
largest_part = of_bits binary64 0x40E0000000000000

-- -0 is made +0, and every other value stays as it is
unfoldable pub normalised_of : Float → Float
normalised_of x = cond (eq x nothing) nothing x

-- n pairs, n from 1 to 512
unfoldable pub length_inside : ℕ → Bool
length_inside length = ltb 0 length && (leb length 1024 && eqb (length % 2) 0)

unfoldable pub are_finite : Float → Float → Float → Bool
are_finite v re im = finite v && (finite re && finite im)

unfoldable pub order_inside : Float → Bool
order_inside v = le nothing v && le v largest_order

unfoldable pub sign_inside : Float → Bool
sign_inside re = le nothing re

-- at most 32,768 in magnitude
unfoldable pub part_inside : Float → Bool
part_inside x = le (neg largest_part) x && le x largest_part

unfoldable pub size_inside : Float → Float → Bool
size_inside re im = part_inside re && part_inside im

-- either zero
unfoldable pub is_zero : Float → Float → Bool
is_zero re im = eq re nothing && eq im nothing
