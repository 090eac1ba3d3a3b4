-- Facts of `hypot_of` at every value: a zero part leaves the other's magnitude exactly, signs and the parts' order do not matter, and the special values. Assumes nothing.
use mathlib.Core.Path.{◌≡◌, refl, sym, ap, ◌∙◌}
use mathlib.Core.Bool.{Bool, false, cond}
use Prim.Native.Nat.{ℕ, zero, suc, ◌*◌}
use native.Mathlib.Nat.{zero-mul}
use lib.IntN.{ℤ, negsuc}
use lib.Dec.{T}
use lib.Pow.{pow_pos}
use lib.Ieee.{Float, nan, inf, fin, binary64, up, down, size, round, neg, add, sub, mul, div, le, fits, of_bits, to_bits}
use lib.Ieee.Exact.{HasValue}
use Rattle.laws.proofs.Power.{unique}
use Rattle.laws.proofs.Sign.{mul-neg-l, mul-neg-neg, add-comm-float}
use Rattle.roots_tables.specs.Tables.{constants, slopes, bends}
use Rattle.roots.specs.Seed.{quadratic, seed_of, twice_root}
use Rattle.machine.specs.Magnitude.{magnitude_of}
use Rattle.roots.specs.Hypot.{root_at, sum_of_squares, least_sum, greatest_sum, larger, smaller, scaled_hypot, full_hypot, hypot_of}

-- ---- a zero part
pub hypot-zero-left : (s : Bool) (y : Float) (e : ℤ) → hypot_of (fin s 0 e) y ≡ magnitude_of y
unfolding hypot_of magnitude_of
hypot-zero-left s nan e = refl
hypot-zero-left s (inf t) e = refl
hypot-zero-left s (fin t n d) e = refl

-- a zero is written in one way
zero_same : (s t : Bool) (e d : ℤ) → T (fits binary64 (fin s 0 e)) → T (fits binary64 (fin t 0 d)) → fin false 0 e ≡ fin false 0 d
unfolding fits
zero_same s t e d F G =
    unique binary64 (fin false 0 e) (fin false 0 d) false 0 1 0 1 (pow_pos 0) (pow_pos 0) F G (at e) (at d) refl
  where
    at : (k : ℤ) → HasValue (fin false 0 k) false 0 1
    at k = (refl, ap (λ (t : ℕ). t * 1) (zero-mul (up k)) ∙ sym (zero-mul (down k)))

pub hypot-zero-right : (x : Float) (t : Bool) (d : ℤ) → T (fits binary64 x) → T (fits binary64 (fin t 0 d)) → hypot_of x (fin t 0 d) ≡ magnitude_of x
unfolding hypot_of magnitude_of
hypot-zero-right nan t d F G = refl
hypot-zero-right (inf s) t d F G = refl
hypot-zero-right (fin s zero e) t d F G = zero_same t s d e G F
hypot-zero-right (fin s (suc m) e) t d F G = refl

-- ---- the sign of a part
sum-neg : (x y : Float) → sum_of_squares (neg x) y ≡ sum_of_squares x y
unfolding sum_of_squares
sum-neg x y = ap (λ (z : Float). add binary64 z (mul binary64 y y)) (mul-neg-neg binary64 x x)

scaled-neg : (a b x y : Float) → scaled_hypot a b (neg x) y ≡ scaled_hypot a b x y
unfolding scaled_hypot
scaled-neg a b x y =
    ap (λ (z : Float). mul binary64 (root_at (to_bits binary64 z)) b) (ap (λ (w : Float). sum_of_squares w (mul binary64 y a)) (mul-neg-l binary64 x a) ∙ sum-neg (mul binary64 x a) (mul binary64 y a))

full-neg : (x y : Float) → full_hypot (neg x) y ≡ full_hypot x y
unfolding full_hypot
full-neg x y =
    ap (λ (s : Float). cond (le least_sum s) (cond (le s greatest_sum) (root_at (to_bits binary64 s)) (scaled_hypot smaller larger (neg x) y)) (scaled_hypot larger smaller (neg x) y)) (sum-neg x y)
    ∙ ap (λ (z : Float). cond (le least_sum (sum_of_squares x y)) (cond (le (sum_of_squares x y) greatest_sum) (root_at (to_bits binary64 (sum_of_squares x y))) z) (scaled_hypot larger smaller (neg x) y)) (scaled-neg smaller larger x y)
    ∙ ap (λ (z : Float). cond (le least_sum (sum_of_squares x y)) (cond (le (sum_of_squares x y) greatest_sum) (root_at (to_bits binary64 (sum_of_squares x y))) (scaled_hypot smaller larger x y)) z) (scaled-neg larger smaller x y)

pub hypot-even : (x y : Float) → hypot_of (neg x) y ≡ hypot_of x y
unfolding hypot_of magnitude_of neg
hypot-even nan y = refl
hypot-even (inf s) y = refl
hypot-even (fin s m e) nan = refl
hypot-even (fin s m e) (inf t) = refl
hypot-even (fin s zero e) (fin t n d) = refl
hypot-even (fin s (suc m) e) (fin t zero d) = refl
hypot-even (fin s (suc m) e) (fin t (suc n) d) = full-neg (fin s (suc m) e) (fin t (suc n) d)

-- ---- the parts exchanged
sum-swap : (x y : Float) → sum_of_squares x y ≡ sum_of_squares y x
unfolding sum_of_squares
sum-swap x y = add-comm-float binary64 (mul binary64 x x) (mul binary64 y y)

scaled-swap : (a b x y : Float) → scaled_hypot a b x y ≡ scaled_hypot a b y x
unfolding scaled_hypot
scaled-swap a b x y = ap (λ (z : Float). mul binary64 (root_at (to_bits binary64 z)) b) (sum-swap (mul binary64 x a) (mul binary64 y a))

full-swap : (x y : Float) → full_hypot x y ≡ full_hypot y x
unfolding full_hypot
full-swap x y =
    ap (λ (s : Float). cond (le least_sum s) (cond (le s greatest_sum) (root_at (to_bits binary64 s)) (scaled_hypot smaller larger x y)) (scaled_hypot larger smaller x y)) (sum-swap x y)
    ∙ ap (λ (z : Float). cond (le least_sum (sum_of_squares y x)) (cond (le (sum_of_squares y x) greatest_sum) (root_at (to_bits binary64 (sum_of_squares y x))) z) (scaled_hypot larger smaller x y)) (scaled-swap smaller larger x y)
    ∙ ap (λ (z : Float). cond (le least_sum (sum_of_squares y x)) (cond (le (sum_of_squares y x) greatest_sum) (root_at (to_bits binary64 (sum_of_squares y x))) (scaled_hypot smaller larger y x)) z) (scaled-swap larger smaller x y)

pub hypot-symmetric : (x y : Float) → T (fits binary64 x) → T (fits binary64 y) → hypot_of x y ≡ hypot_of y x
unfolding hypot_of magnitude_of
hypot-symmetric nan nan F G = refl
hypot-symmetric nan (inf t) F G = refl
hypot-symmetric nan (fin t n d) F G = refl
hypot-symmetric (inf s) nan F G = refl
hypot-symmetric (inf s) (inf t) F G = refl
hypot-symmetric (inf s) (fin t n d) F G = refl
hypot-symmetric (fin s m e) nan F G = refl
hypot-symmetric (fin s m e) (inf t) F G = refl
hypot-symmetric (fin s zero e) (fin t zero d) F G = zero_same t s d e G F
hypot-symmetric (fin s zero e) (fin t (suc n) d) F G = refl
hypot-symmetric (fin s (suc m) e) (fin t zero d) F G = refl
hypot-symmetric (fin s (suc m) e) (fin t (suc n) d) F G = full-swap (fin s (suc m) e) (fin t (suc n) d)

-- ---- the special values
pub hypot-infinite : (s : Bool) (y : Float) → hypot_of (inf s) y ≡ inf false
unfolding hypot_of
hypot-infinite s y = refl

pub hypot-nan : (s : Bool) (m : ℕ) (e : ℤ) → hypot_of (fin s m e) nan ≡ nan
unfolding hypot_of
hypot-nan s m e = refl

pub hypot-nan-infinite : (t : Bool) → hypot_of nan (inf t) ≡ inf false
unfolding hypot_of
hypot-nan-infinite t = refl

-- 3 and 4 have 5; two parts of the largest value overflow, and two of the smallest have the smallest
pub hypot-of-three-four : hypot_of (of_bits binary64 0x4008000000000000) (of_bits binary64 0x4010000000000000) ≡ of_bits binary64 0x4014000000000000
unfolding hypot_of full_hypot sum_of_squares least_sum greatest_sum root_at twice_root seed_of quadratic constants slopes bends add sub mul div round size le of_bits to_bits
hypot-of-three-four = refl

pub hypot-of-largest : hypot_of (of_bits binary64 0x7FEFFFFFFFFFFFFF) (of_bits binary64 0x7FEFFFFFFFFFFFFF) ≡ inf false
unfolding hypot_of full_hypot scaled_hypot sum_of_squares least_sum greatest_sum smaller larger root_at twice_root seed_of quadratic constants slopes bends add sub mul div round size le of_bits to_bits
hypot-of-largest = refl

pub hypot-of-smallest : hypot_of (fin false 1 (negsuc 1073)) (fin false 1 (negsuc 1073)) ≡ fin false 1 (negsuc 1073)
unfolding hypot_of full_hypot scaled_hypot sum_of_squares least_sum greatest_sum smaller larger root_at twice_root seed_of quadratic constants slopes bends add sub mul div round size le of_bits to_bits
hypot-of-smallest = refl
