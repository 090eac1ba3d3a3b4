-- `ln_of` is finite at each number above zero, subnormal or not: its parts lie in intervals that antt computes. And ln 1 is +0. Assumes nothing.
use mathlib.Core.Path.{◌≡◌, refl, sym, ap, ◌∙◌, subst}
use mathlib.Core.Logic.{inl, inr}
use mathlib.Core.Bool.{Bool, true, false, cond}
use mathlib.Core.List.{[], ◌∷◌}
use Prim.Native.Nat.{ℕ, ◌+◌, ◌-◌, ◌*◌, ◌/◌, ◌%◌, ◌^◌, ◌≤◌, ◌<◌, zero-le}
use native.Mathlib.Nat.{le_trans, lt_of_lt_of_le, eq-zero-or-pos, mul-le-mul_right, mod-lt}
use native.Mathlib.Omega.{arith}
use lib.IntN.{pos}
use lib.Dec.{T, ltb, ltb→lt, lit<, lit≤}
use lib.ListN.{get_or}
use lib.Count.{count_leading_zeros}
use lib.Ieee.{Float, nan, inf, fin, binary64, fits, of_bits, to_bits, of_int, round, size, neg, add, sub, mul, le}
use lib.Ieee.Bits.{of_bits-to_bits}
use lib.Ieee.Exact.{HasValue}
use lib.Ieee.Back.{round_whole}
use lib.Ieee.Order.{le_of_values}
use lib.Ieee.Scale.{finite}
use lib.Ieee.Positive.{positive, positive-finite}
use Rattle.laws.proofs.Value.{sign, value-finite}
use Rattle.laws.proofs.Bits.{inf_bits, bits-le, to_bits-finite}
use Rattle.laws.proofs.Interval.{iv, In, Expr, var, lit, sum, difference, product, share, opposite, eval, passes, Between, bounded, in-literals}
use Rattle.logarithm_tables.specs.Tables.{reciprocals, excesses, logarithms_high, logarithms_low}
use Rattle.logarithm.specs.Ln.{ln_of, ln_bits, ln_narrow, ln_wide, joined, tail_of}
use Rattle.logarithm.proofs.Width.{shifted, mantissa-low, mantissa-high, middle-low, middle-high, field-high}
use Rattle.logarithm.proofs.Cases.{of_positive}
use Rattle.logarithm.proofs.Column.{column, column-at}

-- ---- the columns of the tables: [1/2, 1], [-1/256, 1/256], [0, 1] and [-2^-42, 2^-42]
reciprocals-in : T (column (of_bits binary64 0x3FE0000000000000) (of_bits binary64 0x3FF0000000000000) reciprocals)
unfolding column reciprocals of_bits le
reciprocals-in = tt

excesses-in : T (column (neg (of_bits binary64 0x3F70000000000000)) (of_bits binary64 0x3F70000000000000) excesses)
unfolding column excesses of_bits neg le
excesses-in = tt

high-in : T (column (of_bits binary64 0) (of_bits binary64 0x3FF0000000000000) logarithms_high)
unfolding column logarithms_high of_bits le
high-in = tt

low-in : T (column (neg (of_bits binary64 0x3D50000000000000)) (of_bits binary64 0x3D50000000000000) logarithms_low)
unfolding column logarithms_low of_bits neg le
low-in = tt

reciprocal : (j : ℕ) → j < 128 → In (iv (of_bits binary64 0x3FE0000000000000) (of_bits binary64 0x3FF0000000000000)) (get_or reciprocals j nan)
reciprocal j h =
    let p = column-at (of_bits binary64 0x3FE0000000000000) (of_bits binary64 0x3FF0000000000000) reciprocals reciprocals-in j (unfold reciprocals in h) in
    in-literals (of_bits binary64 0x3FE0000000000000) (of_bits binary64 0x3FF0000000000000) (get_or reciprocals j nan) (unfold of_bits in tt) p.0 p.1

excess : (j : ℕ) → j < 128 → In (iv (neg (of_bits binary64 0x3F70000000000000)) (of_bits binary64 0x3F70000000000000)) (get_or excesses j nan)
excess j h =
    let p = column-at (neg (of_bits binary64 0x3F70000000000000)) (of_bits binary64 0x3F70000000000000) excesses excesses-in j (unfold excesses in h) in
    in-literals (neg (of_bits binary64 0x3F70000000000000)) (of_bits binary64 0x3F70000000000000) (get_or excesses j nan) (unfold of_bits neg in tt) p.0 p.1

high_part : (j : ℕ) → j < 128 → In (iv (of_bits binary64 0) (of_bits binary64 0x3FF0000000000000)) (get_or logarithms_high j nan)
high_part j h =
    let p = column-at (of_bits binary64 0) (of_bits binary64 0x3FF0000000000000) logarithms_high high-in j (unfold logarithms_high in h) in
    in-literals (of_bits binary64 0) (of_bits binary64 0x3FF0000000000000) (get_or logarithms_high j nan) (unfold of_bits in tt) p.0 p.1

low_part : (j : ℕ) → j < 128 → In (iv (neg (of_bits binary64 0x3D50000000000000)) (of_bits binary64 0x3D50000000000000)) (get_or logarithms_low j nan)
low_part j h =
    let p = column-at (neg (of_bits binary64 0x3D50000000000000)) (of_bits binary64 0x3D50000000000000) logarithms_low low-in j (unfold logarithms_low in h) in
    in-literals (neg (of_bits binary64 0x3D50000000000000)) (of_bits binary64 0x3D50000000000000) (get_or logarithms_low j nan) (unfold of_bits neg in tt) p.0 p.1

-- ---- a whole number up to `top` as a float
whole_in : (n top : ℕ) (t : Float) → n ≤ top → top ≤ 2 ^ 53 → HasValue t false top 1 → In (iv (of_bits binary64 0) t) (of_int binary64 (pos n))
unfolding of_int of_bits
whole_in n top t h k w =
    let v : HasValue (round binary64 false n 1) false n 1 = round_whole binary64 false n (le_trans h k) in
    in-literals (of_bits binary64 0) t (round binary64 false n 1) (value-finite t false top 1 w)
    (le_of_values (of_bits binary64 0) (round binary64 false n 1) 0 1 n 1 (lit< tt) (lit< tt) (refl, refl) v (mul-le-mul_right 1 zero-le))
    (le_of_values (round binary64 false n 1) t n 1 top 1 (lit< tt) (lit< tt) v w (mul-le-mul_right 1 h))

field_in : (n : ℕ) → n ≤ 2047 → In (iv (of_bits binary64 0) (of_bits binary64 0x409FFC0000000000)) (of_int binary64 (pos n))
field_in n h = whole_in n 2047 (of_bits binary64 0x409FFC0000000000) h (lit≤ tt) (unfold of_bits in (refl, refl))

shift_in : (n : ℕ) → n ≤ 52 → In (iv (of_bits binary64 0) (of_bits binary64 0x404A000000000000)) (of_int binary64 (pos n))
shift_in n h = whole_in n 52 (of_bits binary64 0x404A000000000000) h (lit≤ tt) (unfold of_bits in (refl, refl))

-- ---- the mantissa and the middle of its piece, between 1/2 and 2
pattern-in : (b : ℕ) → 0x3FE0000000000000 ≤ b → b ≤ 0x4000000000000000 → In (iv (of_bits binary64 0x3FE0000000000000) (of_bits binary64 0x4000000000000000)) (of_bits binary64 b)
pattern-in b l h =
    in-literals (of_bits binary64 0x3FE0000000000000) (of_bits binary64 0x4000000000000000) (of_bits binary64 b) (unfold of_bits in tt)
    (bits-le 0x3FE0000000000000 b l (under b h)) (bits-le b 0x4000000000000000 h (lit< tt))
  where
    under : (b : ℕ) → b ≤ 0x4000000000000000 → b < inf_bits
    under b h = omega arith

-- ---- the exponent e = field - bias, from -1075 to 1024, for a field up to 2047 and a bias from 1023 to 1075
exponent-expr : Expr
exponent-expr = difference (var 0) (var 1)

exponent-test : T (passes binary64 (iv (of_bits binary64 0) (of_bits binary64 0x409FFC0000000000) ∷ iv (of_bits binary64 0x408FF80000000000) (of_bits binary64 0x4090CC0000000000) ∷ []) exponent-expr (neg (of_bits binary64 0x4090CC0000000000)) (of_bits binary64 0x4090000000000000))
unfolding passes exponent-expr
exponent-test = tt

-- ---- r = k + (mantissa - middle) * c, between -2 and 2
reduced-expr : Expr
reduced-expr = sum (var 0) (product (difference (var 1) (var 2)) (var 3))

reduced-test : T (passes binary64
    (iv (neg (of_bits binary64 0x3F70000000000000)) (of_bits binary64 0x3F70000000000000)
    ∷ iv (of_bits binary64 0x3FE0000000000000) (of_bits binary64 0x4000000000000000)
    ∷ iv (of_bits binary64 0x3FE0000000000000) (of_bits binary64 0x4000000000000000)
    ∷ iv (of_bits binary64 0x3FE0000000000000) (of_bits binary64 0x3FF0000000000000)
    ∷ [])
    reduced-expr (neg (of_bits binary64 0x4000000000000000)) (of_bits binary64 0x4000000000000000))
unfolding passes reduced-expr
reduced-test = tt

-- ---- the whole, between -4096 and 4096
-- variables: whole + r, whole, r, e, high, low
tail-expr : Expr
tail-expr =
    share (product (var 2) (var 2))
    (product (var 0)
    (sum (sum (opposite (lit (of_bits binary64 0x3FE0000000000001))) (product (var 3) (lit (of_bits binary64 0x3FD5555555555564))))
    (product (var 0)
    (sum (sum (opposite (lit (of_bits binary64 0x3FCFFFFFFFD5C2EC))) (product (var 3) (lit (of_bits binary64 0x3FC999999945B3CC))))
    (product (var 0) (sum (opposite (lit (of_bits binary64 0x3FC5558A0A8ED5B1))) (product (var 3) (lit (of_bits binary64 0x3FC2496407DE2F42)))))))))

-- variables: r, e, high, low
joined-expr : Expr
joined-expr =
    share (sum (product (var 1) (lit (of_bits binary64 0x3FE62E42FEFA3800))) (var 2))
    (share (sum (var 0) (var 1))
    (sum (var 0) (sum (sum (sum (difference (var 1) (var 0)) (var 2)) (sum (product (var 3) (lit (of_bits binary64 0x3D2EF35793C76730))) (var 5))) tail-expr)))

joined-test : T (passes binary64
    (iv (neg (of_bits binary64 0x4000000000000000)) (of_bits binary64 0x4000000000000000)
    ∷ iv (neg (of_bits binary64 0x4090CC0000000000)) (of_bits binary64 0x4090000000000000)
    ∷ iv (of_bits binary64 0) (of_bits binary64 0x3FF0000000000000)
    ∷ iv (neg (of_bits binary64 0x3D50000000000000)) (of_bits binary64 0x3D50000000000000)
    ∷ [])
    joined-expr (neg (of_bits binary64 0x40B0000000000000)) (of_bits binary64 0x40B0000000000000))
unfolding passes joined-expr tail-expr
joined-test = tt

joined-between : (e r high low : Float)
    → In (iv (neg (of_bits binary64 0x4000000000000000)) (of_bits binary64 0x4000000000000000)) r
    → In (iv (neg (of_bits binary64 0x4090CC0000000000)) (of_bits binary64 0x4090000000000000)) e
    → In (iv (of_bits binary64 0) (of_bits binary64 0x3FF0000000000000)) high
    → In (iv (neg (of_bits binary64 0x3D50000000000000)) (of_bits binary64 0x3D50000000000000)) low
    → Between (neg (of_bits binary64 0x40B0000000000000)) (of_bits binary64 0x40B0000000000000) (joined e r high low)
unfolding eval joined-expr tail-expr joined tail_of
joined-between e r high low p q s t =
    bounded binary64
    (iv (neg (of_bits binary64 0x4000000000000000)) (of_bits binary64 0x4000000000000000)
    ∷ iv (neg (of_bits binary64 0x4090CC0000000000)) (of_bits binary64 0x4090000000000000)
    ∷ iv (of_bits binary64 0) (of_bits binary64 0x3FF0000000000000)
    ∷ iv (neg (of_bits binary64 0x3D50000000000000)) (of_bits binary64 0x3D50000000000000)
    ∷ [])
    (r ∷ e ∷ high ∷ low ∷ []) joined-expr (neg (of_bits binary64 0x40B0000000000000)) (of_bits binary64 0x40B0000000000000) (p, (q, (s, (t, tt)))) joined-test

exponent-in : (field bias : Float) → In (iv (of_bits binary64 0) (of_bits binary64 0x409FFC0000000000)) field → In (iv (of_bits binary64 0x408FF80000000000) (of_bits binary64 0x4090CC0000000000)) bias
    → In (iv (neg (of_bits binary64 0x4090CC0000000000)) (of_bits binary64 0x4090000000000000)) (sub binary64 field bias)
unfolding eval exponent-expr
exponent-in field bias p q =
    let b : Between (neg (of_bits binary64 0x4090CC0000000000)) (of_bits binary64 0x4090000000000000) (sub binary64 field bias) =
    bounded binary64 (iv (of_bits binary64 0) (of_bits binary64 0x409FFC0000000000) ∷ iv (of_bits binary64 0x408FF80000000000) (of_bits binary64 0x4090CC0000000000) ∷ [])
    (field ∷ bias ∷ []) exponent-expr (neg (of_bits binary64 0x4090CC0000000000)) (of_bits binary64 0x4090000000000000) (p, (q, tt)) exponent-test in
    in-literals (neg (of_bits binary64 0x4090CC0000000000)) (of_bits binary64 0x4090000000000000) (sub binary64 field bias) (unfold of_bits neg in tt) b.1 b.2

reduced-in : (k mantissa middle c : Float)
    → In (iv (neg (of_bits binary64 0x3F70000000000000)) (of_bits binary64 0x3F70000000000000)) k
    → In (iv (of_bits binary64 0x3FE0000000000000) (of_bits binary64 0x4000000000000000)) mantissa
    → In (iv (of_bits binary64 0x3FE0000000000000) (of_bits binary64 0x4000000000000000)) middle
    → In (iv (of_bits binary64 0x3FE0000000000000) (of_bits binary64 0x3FF0000000000000)) c
    → In (iv (neg (of_bits binary64 0x4000000000000000)) (of_bits binary64 0x4000000000000000)) (add binary64 k (mul binary64 (sub binary64 mantissa middle) c))
unfolding eval reduced-expr
reduced-in k mantissa middle c p q s t =
    let b : Between (neg (of_bits binary64 0x4000000000000000)) (of_bits binary64 0x4000000000000000) (add binary64 k (mul binary64 (sub binary64 mantissa middle) c)) =
    bounded binary64
    (iv (neg (of_bits binary64 0x3F70000000000000)) (of_bits binary64 0x3F70000000000000)
    ∷ iv (of_bits binary64 0x3FE0000000000000) (of_bits binary64 0x4000000000000000)
    ∷ iv (of_bits binary64 0x3FE0000000000000) (of_bits binary64 0x4000000000000000)
    ∷ iv (of_bits binary64 0x3FE0000000000000) (of_bits binary64 0x3FF0000000000000)
    ∷ [])
    (k ∷ mantissa ∷ middle ∷ c ∷ []) reduced-expr (neg (of_bits binary64 0x4000000000000000)) (of_bits binary64 0x4000000000000000) (p, (q, (s, (t, tt)))) reduced-test in
    in-literals (neg (of_bits binary64 0x4000000000000000)) (of_bits binary64 0x4000000000000000) (add binary64 k (mul binary64 (sub binary64 mantissa middle) c)) (unfold of_bits neg in tt) b.1 b.2

wide-between : (bits : ℕ) (bias : Float) → bits < inf_bits → In (iv (of_bits binary64 0x408FF80000000000) (of_bits binary64 0x4090CC0000000000)) bias
    → Between (neg (of_bits binary64 0x40B0000000000000)) (of_bits binary64 0x40B0000000000000) (ln_wide bits bias)
unfolding ln_wide
wide-between bits bias h b =
    let moved = bits + 2 ^ 44 in
    let j = moved / 2 ^ 45 % 128 in
    let l : j < 128 = mod-lt (moved / 2 ^ 45) (lit< tt) in
    let mantissa = bits + 0x3FF0000000000000 - moved / 2 ^ 52 * 2 ^ 52 in
    let middle = 0x3FF0000000000000 + j * 2 ^ 45 in
    joined-between (sub binary64 (of_int binary64 (pos (moved / 2 ^ 52))) bias)
    (add binary64 (get_or excesses j nan) (mul binary64 (sub binary64 (of_bits binary64 mantissa) (of_bits binary64 middle)) (get_or reciprocals j nan)))
    (get_or logarithms_high j nan)
    (get_or logarithms_low j nan)
    (reduced-in (get_or excesses j nan) (of_bits binary64 mantissa) (of_bits binary64 middle) (get_or reciprocals j nan)
    (excess j l)
    (pattern-in mantissa (le_trans (lit≤ tt) (mantissa-low bits)) (mantissa-high bits))
    (pattern-in middle (le_trans (lit≤ tt) (middle-low bits)) (middle-high bits))
    (reciprocal j l))
    (exponent-in (of_int binary64 (pos (moved / 2 ^ 52))) bias (field_in (moved / 2 ^ 52) (field-high bits h)) b)
    (high_part j l)
    (low_part j l)

-- ---- a subnormal's bias, 1023 and the shift
bias-expr : Expr
bias-expr = sum (lit (of_bits binary64 0x408FF80000000000)) (var 0)

bias-test : T (passes binary64 (iv (of_bits binary64 0) (of_bits binary64 0x404A000000000000) ∷ []) bias-expr (of_bits binary64 0x408FF80000000000) (of_bits binary64 0x4090CC0000000000))
unfolding passes bias-expr
bias-test = tt

bias-in : (shift : Float) → In (iv (of_bits binary64 0) (of_bits binary64 0x404A000000000000)) shift
    → In (iv (of_bits binary64 0x408FF80000000000) (of_bits binary64 0x4090CC0000000000)) (add binary64 (of_bits binary64 0x408FF80000000000) shift)
unfolding eval bias-expr
bias-in shift p =
    let b : Between (of_bits binary64 0x408FF80000000000) (of_bits binary64 0x4090CC0000000000) (add binary64 (of_bits binary64 0x408FF80000000000) shift) =
    bounded binary64 (iv (of_bits binary64 0) (of_bits binary64 0x404A000000000000) ∷ []) (shift ∷ []) bias-expr (of_bits binary64 0x408FF80000000000) (of_bits binary64 0x4090CC0000000000) (p, tt) bias-test in
    in-literals (of_bits binary64 0x408FF80000000000) (of_bits binary64 0x4090CC0000000000) (add binary64 (of_bits binary64 0x408FF80000000000) shift) (unfold of_bits in tt) b.1 b.2

narrow-between : (bits : ℕ) → 0 < bits → bits < 2 ^ 52 → Between (neg (of_bits binary64 0x40B0000000000000)) (of_bits binary64 0x40B0000000000000) (ln_narrow bits)
unfolding ln_narrow
narrow-between bits p h =
    let s = shifted bits p h in
    wide-between (bits * 2 ^ (count_leading_zeros 64 bits - 11)) (add binary64 (of_bits binary64 0x408FF80000000000) (of_int binary64 (pos (count_leading_zeros 64 bits - 11))))
    (lt_of_lt_of_le s.high (lit≤ tt))
    (bias-in (of_int binary64 (pos (count_leading_zeros 64 bits - 11))) (shift_in (count_leading_zeros 64 bits - 11) (fewer (count_leading_zeros 64 bits) s.few)))
  where
    fewer : (z : ℕ) → z ≤ 63 → z - 11 ≤ 52
    fewer z h = omega arith

bits-between : (bits : ℕ) → 0 < bits → bits < inf_bits → Between (neg (of_bits binary64 0x40B0000000000000)) (of_bits binary64 0x40B0000000000000) (ln_bits bits)
unfolding ln_bits
bits-between bits p h = go (ltb bits (2 ^ 52)) (ltb→lt bits (2 ^ 52))
  where
    go : (b : Bool) → (T b → bits < 2 ^ 52)
        → Between (neg (of_bits binary64 0x40B0000000000000)) (of_bits binary64 0x40B0000000000000) (cond b (ln_narrow bits) (ln_wide bits (of_bits binary64 0x408FF80000000000)))
    go true k = narrow-between bits p (k tt)
    go false k = wide-between bits (of_bits binary64 0x408FF80000000000) h (unfold of_bits le in (tt, tt, tt, tt))

-- the pattern 0 is that of +0, which is not above zero
above_zero : (x : Float) → T (fits binary64 x) → T (positive x) → 0 < to_bits binary64 x
unfolding of_bits
above_zero x F p = elim (eq-zero-or-pos (to_bits binary64 x)) [
  | inl z ↦ absurd (subst (λ (y : Float). T (positive y)) (sym (of_bits-to_bits binary64 x F) ∙ ap (of_bits binary64) z) p)
  | inr h ↦ h
]

-- ---- every finite number above zero: ln x is finite, and between -4096 and 4096
pub ln-between : (x : Float) → T (fits binary64 x) → T (positive x) → Between (neg (of_bits binary64 0x40B0000000000000)) (of_bits binary64 0x40B0000000000000) (ln_of x)
ln-between x F p =
    subst (Between (neg (of_bits binary64 0x40B0000000000000)) (of_bits binary64 0x40B0000000000000)) (sym (of_positive x p))
    (bits-between (to_bits binary64 x) (above_zero x F p) (to_bits-finite x F (positive-finite x p) (no_sign x p)))
  where
    no_sign : (x : Float) → T (positive x) → sign x ≡ false
    no_sign nan p = refl
    no_sign (inf s) p = absurd p
    no_sign (fin true m e) p = absurd p
    no_sign (fin false m e) p = refl

pub ln-finite : (x : Float) → T (fits binary64 x) → T (positive x) → T (finite (ln_of x))
ln-finite x F p = (ln-between x F p).0

-- ---- ln 1 is +0, by computation
pub ln-one : ln_of (of_bits binary64 0x3FF0000000000000) ≡ of_bits binary64 0
unfolding ln_of ln_bits ln_wide joined tail_of reciprocals excesses logarithms_high logarithms_low of_bits to_bits size of_int round add sub mul neg
ln-one = refl
