-- Twice the root of a number's significand: a seed from a table of quadratics, and one Heron step. Own design. Definitions only.
use Rattle.std.specs.Prelude.{ℕ, ◌+◌, ◌-◌, ◌/◌, ◌%◌, ◌^◌, get_or, Float}
use Rattle.std.specs.Float.{nan, binary64}
use Rattle.std.specs.Float.Ieee.{add, sub, mul, div, of_bits}
use Rattle.roots_tables.specs.Tables.{constants, slopes, bends}

-- A pattern u has the value f * 4 ^ k, f from 1 up to 4, in one way: `folded u` more than the pattern of 1 is that of f.
abbrev pub folded : ℕ → ℕ
folded u = (u + 2 ^ 52) % 2 ^ 53

abbrev pub argument : ℕ → Float
argument w = of_bits binary64 (w + 0x3FF0000000000000)

-- the left end of the piece in which the argument lies: 2 ^ 46 patterns a piece
abbrev pub left_end : ℕ → Float
left_end w = of_bits binary64 (w - w % 2 ^ 46 + 0x3FF0000000000000)

-- (c0 + c1 * d) - (c2 * d) * d, with d the distance from the left end
unfoldable pub quadratic : Float → Float → Float → Float → Float
quadratic c0 c1 c2 d = sub binary64 (add binary64 c0 (mul binary64 c1 d)) (mul binary64 (mul binary64 c2 d) d)

-- the root of the argument to some 27 digits
unfoldable pub seed_of : ℕ → Float
seed_of w =
    quadratic (get_or constants (w / 2 ^ 46) nan) (get_or slopes (w / 2 ^ 46) nan) (get_or bends (w / 2 ^ 46) nan) (sub binary64 (argument w) (left_end w))

-- s + f / s is twice what one Heron step makes of the seed s
unfoldable pub twice_root : ℕ → Float
twice_root u = let s = seed_of (folded u) in add binary64 s (div binary64 (argument (folded u)) s)
