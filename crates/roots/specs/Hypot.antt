-- The length of the vector (x, y), Algorithm 644's XZABS, by a root of its own. Own design: the scope leaves the formula open. Definitions
-- only.
use Rattle.std.specs.Prelude.{ℕ, zero, suc, ◌+◌, ◌*◌, ◌/◌, ◌%◌, ◌^◌, Bool, true, false, cond, Float}
use Rattle.std.specs.Float.{nan, inf, fin, binary64}
use Rattle.std.specs.Float.Ieee.{add, mul, le, of_bits, to_bits}
use Rattle.machine.specs.Magnitude.{magnitude_of}
use Rattle.roots.specs.Seed.{twice_root}

-- the root of the value of a pattern: the seed and one Heron step on the significand, times half of the even power of two that was taken
-- off
unfoldable pub root_at : ℕ → Float
root_at u = mul binary64 (twice_root u) (of_bits binary64 ((u % 2 ^ 63 / 2 ^ 52 + 1021) / 2 * 2 ^ 52))

unfoldable pub sum_of_squares : Float → Float → Float
sum_of_squares x y = add binary64 (mul binary64 x x) (mul binary64 y y)

-- 2^-800 and 2^1000: from the one to the other the sum loses no digit and does not overflow
unfoldable pub least_sum : Float
least_sum = of_bits binary64 0x0DF0000000000000

unfoldable pub greatest_sum : Float
greatest_sum = of_bits binary64 0x7E70000000000000

-- 2^600 and 2^-600
unfoldable pub larger : Float
larger = of_bits binary64 0x6570000000000000

unfoldable pub smaller : Float
smaller = of_bits binary64 0x1A70000000000000

-- both parts times a, and the root times b
unfoldable pub scaled_hypot : Float → Float → Float → Float → Float
scaled_hypot a b x y = mul binary64 (root_at (to_bits binary64 (sum_of_squares (mul binary64 x a) (mul binary64 y a)))) b

-- two numbers that are neither zero nor infinite
unfoldable pub full_hypot : Float → Float → Float
full_hypot x y =
    let s = sum_of_squares x y in
    cond (le least_sum s) (cond (le s greatest_sum) (root_at (to_bits binary64 s)) (scaled_hypot smaller larger x y)) (scaled_hypot larger smaller x y)

abbrev pub infinite : Float → Bool
infinite nan = false
infinite (inf s) = true
infinite (fin s m e) = false

-- an infinity counts before a not-a-number, and beside a zero the length is the other part's magnitude
unfoldable pub hypot_of : Float → Float → Float
hypot_of nan nan = nan
hypot_of nan (inf t) = inf false
hypot_of nan (fin t n d) = nan
hypot_of (inf s) y = inf false
hypot_of (fin s m e) nan = nan
hypot_of (fin s m e) (inf t) = inf false
hypot_of (fin s zero e) (fin t n d) = magnitude_of (fin t n d)
hypot_of (fin s (suc m) e) (fin t zero d) = magnitude_of (fin s (suc m) e)
hypot_of (fin s (suc m) e) (fin t (suc n) d) = full_hypot (fin s (suc m) e) (fin t (suc n) d)
