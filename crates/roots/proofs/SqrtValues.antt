-- Worked values of `sqrt_of`, computed: the special values, and roots that are exact, rounded up and rounded down. Assumes nothing.
use mathlib.Core.Path.{◌≡◌, refl}
use mathlib.Core.Bool.{true, false}
use lib.IntN.{pos, negsuc}
use lib.Ieee.{nan, inf, fin, binary64, size, round, of_bits}
use Rattle.roots.specs.Sqrt.{root, nearest_root, sqrt_of}

pub sqrt-of-nan : sqrt_of nan ≡ nan
unfolding sqrt_of
sqrt-of-nan = refl

pub sqrt-of-infinity : sqrt_of (inf false) ≡ inf false
unfolding sqrt_of
sqrt-of-infinity = refl

pub sqrt-of-minus-infinity : sqrt_of (inf true) ≡ nan
unfolding sqrt_of
sqrt-of-minus-infinity = refl

-- +0 and -0
pub sqrt-of-zero : sqrt_of (fin false 0 (pos 0)) ≡ fin false 0 (pos 0)
unfolding sqrt_of
sqrt-of-zero = refl

pub sqrt-of-minus-zero : sqrt_of (fin true 0 (pos 0)) ≡ fin true 0 (pos 0)
unfolding sqrt_of
sqrt-of-minus-zero = refl

-- -1
pub sqrt-of-minus-one : sqrt_of (fin true 1 (pos 0)) ≡ nan
unfolding sqrt_of
sqrt-of-minus-one = refl

-- 4 and 2
pub sqrt-of-four : sqrt_of (fin false 1 (pos 2)) ≡ fin false 1 (pos 1)
unfolding sqrt_of nearest_root root size round
sqrt-of-four = refl

-- 2^-1074, the smallest value, and 2^-537
pub sqrt-of-smallest : sqrt_of (fin false 1 (negsuc 1073)) ≡ fin false 1 (negsuc 536)
unfolding sqrt_of nearest_root root size round
sqrt-of-smallest = refl

-- 2 and 1.4142135623730951, 3 and 1.7320508075688772
pub sqrt-of-two : sqrt_of (of_bits binary64 0x4000000000000000) ≡ of_bits binary64 0x3FF6A09E667F3BCD
unfolding sqrt_of nearest_root root size round of_bits
sqrt-of-two = refl

pub sqrt-of-three : sqrt_of (of_bits binary64 0x4008000000000000) ≡ of_bits binary64 0x3FFBB67AE8584CAA
unfolding sqrt_of nearest_root root size round of_bits
sqrt-of-three = refl

-- the largest value, 1.7976931348623157e308, and 1.3407807929942596e154
pub sqrt-of-largest : sqrt_of (of_bits binary64 0x7FEFFFFFFFFFFFFF) ≡ of_bits binary64 0x5FEFFFFFFFFFFFFF
unfolding sqrt_of nearest_root root size round of_bits
sqrt-of-largest = refl
