-- What the remainder rests on: a doubling under a rest, the rest of two values as that of two numbers of units, and the rest of the patterns' digits
-- as the value that the code gives. Assumes nothing.
use mathlib.Core.Path.{◌≡◌, refl, sym, ap, ◌∙◌, subst}
use mathlib.Core.Bool.{Bool, true, false}
use Prim.Native.Nat.{ℕ, zero, suc, ◌+◌, ◌-◌, ◌*◌, ◌/◌, ◌%◌, ◌^◌, ◌≤◌, ◌<◌}
use native.Mathlib.Nat.{le_trans, le_of_eq, lt_of_lt_of_le, mul-lt-mul_of_pos_right, mul-pos, mul-one, one-mul, zero-mul, add-zero, mul-div_cancel, mul-mod_left, pow-succ', zero-lt-suc, mul_assoc, mul_comm, mod-lt, lt_irrefl, not-le_of_lt, le_of_mul-le-mul_right}
use native.Mathlib.Numerals.{add-one}
use native.Mathlib.Omega.{arith}
use lib.Arith.{mod-mul}
use lib.Pow.{pow_pos, pow-add, pow_mono}
use lib.Dec.{T, lit<, lit≤}
use lib.IntN.{pos}
use lib.Ieee.{Float, nan, inf, fin, binary64, up, down, of_bits, to_bits, of_int, round, fits, rem, mul, le}
use lib.Ieee.Bits.{of_bits-to_bits}
use lib.Ieee.Exact.{HasValue, round_exact}
use lib.Ieee.Fits.{up_pos, down_pos}
use lib.Ieee.Positive.{above_of_le}
use lib.Ieee.Scale.{round_same}
use Rattle.std.proofs.lemmas.Nat.{mul-mod_second}
use Rattle.laws.proofs.Value.{le-values}
use Rattle.laws.proofs.Bits.{inf_bits, field_units, units_of, bits-value, pattern-value, units-le-back, to_bits-finite, bits_positive}
use Rattle.laws.proofs.Power.{mul-value}
use Rattle.circular.proofs.Rest.{rem_is}

-- ---- the loop
pub rest-doubled : (m i n r : ℕ) → r ≡ (m * 2 ^ i) % n → 2 * r % n ≡ (m * 2 ^ (i + 1)) % n
rest-doubled m i n r e =
    ap (λ (k : ℕ). 2 * k % n) e
    ∙ mul-mod_second 2 (m * 2 ^ i) n
    ∙ ap (λ (k : ℕ). k % n) (twice m (2 ^ i) ∙ ap (λ (k : ℕ). m * k) (sym (ap (λ (k : ℕ). 2 ^ k) (add-one i) ∙ pow-succ' 2 i)))
  where
    twice : (m p : ℕ) → 2 * (m * p) ≡ m * (2 * p)
    twice m p = omega arith

-- ---- the rest of two values that are so many units
rest-scaled : (a b c : ℕ) → 0 < b → 0 < c → (a * c) % (b * c) ≡ (a % b) * c
rest-scaled a b c B C = mod-mul (a * c) {m = b} {c = c} B C ∙ ap (λ (k : ℕ). k % b * c + (a * c) % c) (mul-div_cancel a C) ∙ ap (λ (k : ℕ). a % b * c + k) (mul-mod_left a c) ∙ add-zero (a % b * c)

some-digits : (n u c w : ℕ) → n * u * c ≡ w → 0 < w → 0 < n
some-digits zero u c w e h = absurd (none w (sym e ∙ ap (λ (k : ℕ). k * c) (zero-mul u) ∙ zero-mul c) h)
  where
    none : (w : ℕ) → w ≡ 0 → 0 < w → ⊥
    none w e h = omega arith
some-digits (suc n) u c w e h = zero-lt-suc n

pub rem-units : (x y : Float) (U V C : ℕ) → 0 < C → 0 < V → HasValue x false U C → HasValue y false V C → rem binary64 x y ≡ round binary64 false (U % V) C
rem-units nan y U V C P Q v w = elim v [ ]
rem-units (inf _) y U V C P Q v w = elim v [ ]
rem-units (fin s m e) nan U V C P Q v w = elim w [ ]
rem-units (fin s m e) (inf _) U V C P Q v w = elim w [ ]
rem-units (fin s m e) (fin t n d) U V C P Q v w =
    ap (λ (z : Bool). rem binary64 (fin z m e) (fin t n d)) v.0
    ∙ ap (λ (z : Bool). rem binary64 (fin false m e) (fin z n d)) w.0
    ∙ rem_is binary64 m e n d N
    ∙ round_same binary64 false (A % B) (down e * down d) (U % V) C (mul-pos (down_pos e) (down_pos d)) P (sym (rest-scaled A B C B' P) ∙ ap (λ (k : ℕ). k % (B * C)) left ∙ ap (λ (k : ℕ). (U * (down e * down d)) % k) right ∙ rest-scaled U V (down e * down d) Q (mul-pos (down_pos e) (down_pos d)))
  where
    A : ℕ
    A = m * up e * down d

    B : ℕ
    B = n * up d * down e

    N : 0 < n
    N = some-digits n (up d) C (V * down d) w.1 (mul-pos Q (down_pos d))

    B' : 0 < B
    B' = mul-pos (mul-pos N (up_pos d)) (down_pos e)

    over : (p q r u : ℕ) → p * r ≡ u → p * q * r ≡ u * q
    over p q r u e = sym (swap p q r) ∙ ap (λ (k : ℕ). k * q) e
      where
        swap : (p q r : ℕ) → p * r * q ≡ p * q * r
        swap p q r = grind arith

    left : A * C ≡ U * (down e * down d)
    left = over (m * up e) (down d) C (U * down e) v.1 ∙ mul_assoc U (down e) (down d)

    right : B * C ≡ V * (down e * down d)
    right = over (n * up d) (down e) C (V * down d) w.1 ∙ mul_assoc V (down d) (down e) ∙ ap (λ (k : ℕ). V * k) (mul_comm (down d) (down e))

-- ---- a pattern below infinity's, as what it stands for
pub by-bits : (x : Float) (b : ℕ) → T (fits binary64 x) → b ≡ to_bits binary64 x → b < inf_bits → HasValue x false (units_of b) (2 ^ 1074)
by-bits x b F e h = subst (λ (z : Float). HasValue z false (units_of b) (2 ^ 1074)) (ap (of_bits binary64) e ∙ of_bits-to_bits binary64 x F) (bits-value b h)

-- from 65536 on the exponent's field is 1039 or more
pub field-above : (x : Float) (b : ℕ) → T (fits binary64 x) → b ≡ to_bits binary64 x → b < inf_bits → T (le (of_bits binary64 0x40F0000000000000) x) → 1039 ≤ b / 2 ^ 52
field-above x b F e h l = over b (units-le-back 0x40F0000000000000 b (le_of_mul-le-mul_right (le-values limit x (units_of 0x40F0000000000000) (2 ^ 1074) (units_of b) (2 ^ 1074) (bits-value 0x40F0000000000000 (lit< tt)) (by-bits x b F e h) l) (pow_pos 1074)))
  where
    limit : Float
    limit = of_bits binary64 0x40F0000000000000

    over : (b : ℕ) → 0x40F0000000000000 ≤ b → 1039 ≤ b / 2 ^ 52
    over b h = omega arith

-- ---- so many units, from a field above 0
units-at-field : (b : ℕ) → 0 < b / 2 ^ 52 → units_of b ≡ (2 ^ 52 + b % 2 ^ 52) * 2 ^ (b / 2 ^ 52 - 1)
units-at-field b h = at-field' (b / 2 ^ 52) (b % 2 ^ 52) h
  where
    at-field' : (x t : ℕ) → 0 < x → field_units x t ≡ (2 ^ 52 + t) * 2 ^ (x - 1)
    at-field' zero t h = absurd (lt_irrefl 0 h)
    at-field' (suc x) t h = ap (λ (k : ℕ). (2 ^ 52 + t) * 2 ^ k) (back x)
      where
        back : (x : ℕ) → x ≡ suc x - 1
        back x = omega arith

-- a whole number below 2 ^ 53 as a value
pub whole-value : (r : ℕ) → r < 2 ^ 53 → HasValue (of_int binary64 (pos r)) false r 1
unfolding of_int
whole-value r h = round_exact binary64 false r 1 r 1074 (zero-lt-suc 0) h (lt_of_lt_of_le (mul-lt-mul_of_pos_right h (pow_pos 1074)) (le_trans (le_of_eq (sym (pow-add 2 53 1074))) (pow_mono {i = 53 + 1074} {j = 1074 + 1024} (lit≤ tt)))) (sym (mul-one (r * 2 ^ 1074)))

-- the rest of the digits, and the value that the code gives
pub remainder-is : (x y : Float) (b d r : ℕ) → T (fits binary64 x) → T (fits binary64 y) → b ≡ to_bits binary64 x → d ≡ to_bits binary64 y → b < inf_bits →
    1039 ≤ b / 2 ^ 52 → 53 ≤ d / 2 ^ 52 → d / 2 ^ 52 ≤ 1039 → r ≡ ((2 ^ 52 + b % 2 ^ 52) * 2 ^ (b / 2 ^ 52 - d / 2 ^ 52)) % (2 ^ 52 + d % 2 ^ 52) →
    mul binary64 (of_int binary64 (pos r)) (of_bits binary64 ((d / 2 ^ 52 - 52) * 2 ^ 52)) ≡ rem binary64 x y
remainder-is x y b d r F G eb ed hb X low high er =
    mul-value binary64 (of_int binary64 (pos r)) unit false false r 1 W (2 ^ 1074) (zero-lt-suc 0) (pow_pos 1074) (whole-value r small) unit-value
    ∙ ap (λ (k : ℕ). round binary64 false k (1 * 2 ^ 1074)) (sym same)
    ∙ ap (λ (k : ℕ). round binary64 false (units_of b % units_of d) k) (one-mul (2 ^ 1074))
    ∙ sym (rem-units x y (units_of b) (units_of d) (2 ^ 1074) (pow_pos 1074) some (by-bits x b F eb hb) (by-bits y d G ed hd))
  where
    f : ℕ
    f = d / 2 ^ 52

    m : ℕ
    m = 2 ^ 52 + b % 2 ^ 52

    n : ℕ
    n = 2 ^ 52 + d % 2 ^ 52

    unit : Float
    unit = of_bits binary64 ((f - 52) * 2 ^ 52)

    W : ℕ
    W = field_units (f - 52) 0

    N : 0 < n
    N = omega arith

    small : r < 2 ^ 53
    small = let k : d % 2 ^ 52 < 2 ^ 52 = mod-lt d (lit< tt) in let l : r < n = subst (λ (z : ℕ). z < n) (sym er) (mod-lt (m * 2 ^ (b / 2 ^ 52 - f)) N) in omega arith

    hd : d < inf_bits
    hd = below d high
      where
        below : (d : ℕ) → d / 2 ^ 52 ≤ 1039 → d < inf_bits
        below d h = omega arith

    unit-value : HasValue unit false W (2 ^ 1074)
    unit-value = subst (λ (k : ℕ). HasValue (of_bits binary64 k) false W (2 ^ 1074)) (add-zero ((f - 52) * 2 ^ 52)) (pattern-value (f - 52) 0 (few f high) (lit< tt))
      where
        few : (f : ℕ) → f ≤ 1039 → f - 52 < 2047
        few f h = omega arith

    W-is : W ≡ 2 ^ (f - 1)
    W-is = go f low
      where
        one-place : (x : ℕ) → field_units (suc x) 0 ≡ 2 ^ (52 + x)
        one-place x = sym (pow-add 2 52 x)

        go : (f : ℕ) → 53 ≤ f → field_units (f - 52) 0 ≡ 2 ^ (f - 1)
        go f h =
            let e : f - 52 ≡ suc (f - 53) = omega arith in
            let k : 52 + (f - 53) ≡ f - 1 = omega arith in
            ap (λ (z : ℕ). field_units z 0) e ∙ one-place (f - 53) ∙ ap (λ (z : ℕ). 2 ^ z) k

    some : 0 < units_of d
    some = subst (λ (k : ℕ). 0 < k) (sym (units-at-field d (omega arith))) (mul-pos N (pow_pos (f - 1)))

    up-to : (X f : ℕ) → 1039 ≤ X → 53 ≤ f → f ≤ 1039 → (X - f) + (f - 1) ≡ X - 1
    up-to X f h k l = omega arith

    same : units_of b % units_of d ≡ r * W
    same =
        ap (λ (k : ℕ). k % units_of d) (units-at-field b (omega arith) ∙ ap (λ (k : ℕ). m * 2 ^ k) (sym (up-to (b / 2 ^ 52) f X low high)) ∙ ap (λ (k : ℕ). m * k) (pow-add 2 (b / 2 ^ 52 - f) (f - 1)) ∙ sym (mul_assoc m (2 ^ (b / 2 ^ 52 - f)) (2 ^ (f - 1))))
        ∙ ap (λ (k : ℕ). (m * 2 ^ (b / 2 ^ 52 - f) * 2 ^ (f - 1)) % k) (units-at-field d (omega arith))
        ∙ rest-scaled (m * 2 ^ (b / 2 ^ 52 - f)) n (2 ^ (f - 1)) N (pow_pos (f - 1))
        ∙ ap (λ (k : ℕ). k * 2 ^ (f - 1)) (sym er)
        ∙ ap (λ (k : ℕ). r * k) (sym W-is)

-- an infinity has no rest
pub infinite-rest : (x y : Float) (b : ℕ) → T (fits binary64 x) → b ≡ to_bits binary64 x → inf_bits ≤ b → T (le (of_bits binary64 0x40F0000000000000) x) → rem binary64 x y ≡ nan
unfolding rem of_bits le
infinite-rest nan y b F e h l = absurd l
infinite-rest (inf s) y b F e h l = refl
infinite-rest (fin true m x) y b F e h l = absurd (above_of_le limit (fin true m x) (bits_positive 0x40F0000000000000 (lit< tt) (lit< tt)) l)
  where
    limit : Float
    limit = of_bits binary64 0x40F0000000000000
infinite-rest (fin false m x) y b F e h l = absurd (not-le_of_lt (subst (λ (k : ℕ). k < inf_bits) (sym e) (to_bits-finite (fin false m x) F tt refl)) h)
