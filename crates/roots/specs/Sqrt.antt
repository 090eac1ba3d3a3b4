-- The square root: the nearest f64, whatever way it is found. Definitions only.
use Rattle.std.specs.Prelude.{ℕ, zero, suc, ◌+◌, ◌*◌, ◌/◌, ◌^◌, ◌<◌, true, false, cond, T, leb, ltb, Float}
use Rattle.std.specs.Float.{nan, inf, fin, binary64}
use Rattle.std.specs.Float.Ieee.{up, down, size, round, lt, fits}
use Rattle.std.specs.Float.Ieee.Positive.{num, den, positive}

-- the largest r with r * r ≤ n, for an n below 4 ^ k: a digit a step
unfoldable pub root : ℕ → ℕ → ℕ
root zero n = 0
root (suc k) n = let r = 2 * root k (n / 4) in cond (leb ((r + 1) * (r + 1)) n) (r + 1) r

-- the whole number nearest to the root of n: (r + 1/2) * (r + 1/2) = r * r + r + 1/4 is not whole, so there is no tie
unfoldable pub nearest_root : ℕ → ℕ → ℕ
nearest_root k n = let r = root k n in cond (ltb (r * r + r) n) (r + 1) r

-- Of a normal number with a folded pattern w the significand, doubled where that makes the exponent even: 53 or 54 digits.
abbrev pub scaled : ℕ → ℕ
scaled w = cond (ltb w (2 ^ 52)) (w + 2 ^ 52) (w * 2)

-- A number above zero is n * 2 ^ -1074. With h half of n's digits, n * 2 ^ 106 / 4 ^ h is a whole number of 105 or 106 digits,
-- whose root has the 53 that the format holds; 2 ^ (h - 590) of it are the root of n * 2 ^ -1074.
unfoldable pub sqrt_of : Float → Float
sqrt_of nan = nan
sqrt_of (inf false) = inf false
sqrt_of (inf true) = nan
sqrt_of (fin s zero e) = fin s zero e
sqrt_of (fin true (suc m) e) = nan
sqrt_of (fin false (suc m) e) =
    let n = suc m * up e * 2 ^ 1074 / down e in
    let h = (size n + 1) / 2 in
    round binary64 false (nearest_root 53 (n * 2 ^ 106 / 4 ^ h) * 2 ^ h) (2 ^ 590)

-- r is nearer to the root of x than any other f64 above zero: the middle of r and a z below r has a square below x, and that of r and a z
-- above r has one above x.
-- With values as fractions, ((r + z) / 2) ^ 2 < x is a comparison of whole numbers. Since both are strict, no tie is left to a rule.
abbrev pub square : ℕ → ℕ
square n = n * n

pub record NearestRoot (x r : Float) : Type 0 where
  pub holds : T (fits binary64 r)
  pub is_positive : T (positive r)
  pub below : (z : Float) → T (fits binary64 z) → T (positive z) → T (lt z r)
      → square (num r * den z + num z * den r) * den x < 4 * num x * square (den r * den z)
  pub above : (z : Float) → T (fits binary64 z) → T (positive z) → T (lt r z)
      → 4 * num x * square (den r * den z) < square (num r * den z + num z * den r) * den x
