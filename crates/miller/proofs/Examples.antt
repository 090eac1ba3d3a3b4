-- Raw starts at the edges, by computation: what is cut off behind the point, and where the refusal begins. Assumes nothing.
use mathlib.Core.Path.{◌≡◌, refl}
use mathlib.Core.Bool.{false}
use lib.Ieee.{nan, inf, binary64, of_bits, neg, lt}
use Rattle.std.specs.Prelude.{Some, None}
use Rattle.miller.specs.Whole.{truncated}
use Rattle.miller.specs.Search.{is_start, start_from}

-- 1 - 2^-53 below zero, and -1 itself
pub above_minus_one : start_from (neg (of_bits binary64 0x3FEFFFFFFFFFFFFF)) ≡ Some 0
unfolding start_from is_start truncated of_bits neg lt
above_minus_one = refl

pub minus_one : start_from (neg (of_bits binary64 0x3FF0000000000000)) ≡ None
unfolding start_from is_start truncated of_bits neg lt
minus_one = refl

-- 157.99999999999997
pub cut_off : start_from (of_bits binary64 0x4063BFFFFFFFFFFF) ≡ Some 157
unfolding start_from is_start truncated of_bits neg lt
cut_off = refl

-- the largest number below 257, and 257
pub last : start_from (of_bits binary64 0x40700FFFFFFFFFFF) ≡ Some 256
unfolding start_from is_start truncated of_bits neg lt
last = refl

pub beyond : start_from (of_bits binary64 0x4070100000000000) ≡ None
unfolding start_from is_start truncated of_bits neg lt
beyond = refl

pub no_number : start_from nan ≡ None
unfolding start_from is_start
no_number = refl

pub no_end : start_from (inf false) ≡ None
unfolding start_from is_start
no_end = refl
