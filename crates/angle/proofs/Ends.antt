-- The ends of the floats without a minus sign: a value above zero is no smaller than the smallest, a finite one no larger than the largest;
-- the order's tests at zero and at infinity; a value over itself is 1. Assumes nothing.
use mathlib.Core.Path.{◌≡◌, refl, sym, ap, ◌∙◌, subst}
use Prim.Native.Nat.{ℕ, zero, suc, ◌+◌, ◌*◌, ◌≤◌, ◌<◌}
use native.Mathlib.Nat.{mul-pos, mul-one, zero-mul, mul-zero, lt_irrefl, zero-lt-suc}
use native.Mathlib.Omega.{arith}
use mathlib.Core.Bool.{Bool, true, false, not, ◌&&◌, ◌||◌, beq, true≢false}
use lib.Dec.{T, eqb, ltb→lt, lt→ltb, lit<}
use lib.Ieee.{Float, nan, inf, fin, binary64, up, down, of_bits, to_bits, round, mul, div, fits, is_nan, lt, le, eq}
use lib.Ieee.Bits.{of_bits-to_bits}
use lib.Ieee.Fits.{up_pos, down_pos}
use lib.Ieee.Scale.{finite}
use lib.Ieee.Positive.{num, den, positive, above_of_le, positive-finite, den_pos}
use lib.Ieee.Order.{le_of_values}
use Rattle.laws.proofs.Value.{sign, bare}
use Rattle.laws.proofs.Relative.{positive-num}
use Rattle.laws.proofs.Order.{nought, pos_part, neg_part, nonneg, not-lt→le, le→Le, round-zero, Rounds, plus, rounds-mono, mul-rounds, div-rounds}
use Rattle.laws.proofs.Bits.{bits-le, to_bits-finite, lt→to_bits}

-- ---- no minus sign
pub bare-above : (x : Float) → T (not (is_nan x)) → T (le nought (bare x))
unfolding is_nan le
bare-above nan n = absurd n
bare-above (inf s) n = tt
bare-above (fin s m e) n = unfold le in le_of_values nought (fin false m e) 0 1 (m * up e) (down e) (lit< tt) (down_pos e) (refl, refl) (refl, refl) (omega arith)

pub not-below : (x y : Float) → T (le nought x) → T (le nought y) → lt x y ≡ false → T (le y x)
unfolding le lt
not-below nan y p q h = absurd p
not-below (inf true) y p q h = absurd p
not-below (inf false) nan p q h = absurd q
not-below (inf false) (inf true) p q h = absurd q
not-below (inf false) (inf false) p q h = tt
not-below (inf false) (fin t n d) p q h = tt
not-below (fin s m e) nan p q h = absurd q
not-below (fin s m e) (inf true) p q h = absurd q
not-below (fin s m e) (inf false) p q h = absurd (true≢false h)
not-below (fin s m e) (fin t n d) p q h = not-lt→le (fin s m e) (fin t n d) tt tt h

pub finite-of : (x : Float) → T (le nought x) → eq x (inf false) ≡ false → T (finite x)
unfolding le eq
finite-of nan p h = absurd p
finite-of (inf true) p h = absurd p
finite-of (inf false) p h = absurd (true≢false h)
finite-of (fin s m e) p h = tt

pub positive_of : (x : Float) → T (finite x) → T (le nought x) → eq x nought ≡ false → T (positive x)
unfolding le eq
positive_of nan f p h = absurd f
positive_of (inf s) f p h = absurd f
positive_of (fin s zero e) f p h = absurd (true≢false (sym (level-zero s (up e) (down e)) ∙ h))
  where
    level-zero : (s : Bool) (u v : ℕ) → (eqb (0 * u * 1) (0 * v) && (beq s false || eqb (0 * u * 1) 0)) ≡ true
    level-zero true u v = rw (zero-mul u, zero-mul v) refl
    level-zero false u v = rw (zero-mul u, zero-mul v) refl
positive_of (fin false (suc m) e) f p h = lt→ltb 0 (suc m) (zero-lt-suc m)
positive_of (fin true (suc m) e) f p h =
    let k = nonneg (fin true (suc m) e) tt p in absurd (lt_irrefl 0 (subst (λ (n : ℕ). 0 < n) k (mul-pos (zero-lt-suc m) (up_pos e))))

pub positive-above : (l x : Float) → T (positive l) → T (finite x) → T (le l x) → T (positive x)
positive-above l nan p f h = absurd f
positive-above l (inf s) p f h = absurd f
positive-above l (fin true m e) p f h = absurd (above_of_le l (fin true m e) p h)
positive-above l (fin false m e) p f h = above_of_le l (fin false m e) p h

-- ---- the smallest and the largest
positive-sign : (x : Float) → T (positive x) → sign x ≡ false
positive-sign nan p = absurd p
positive-sign (inf s) p = absurd p
positive-sign (fin true m e) p = absurd p
positive-sign (fin false m e) p = refl

pub at-most-largest : (x : Float) → T (fits binary64 x) → T (positive x) → T (le x (of_bits binary64 0x7FEFFFFFFFFFFFFF))
at-most-largest x F p =
    let h = to_bits-finite x F (positive-finite x p) (positive-sign x p) in
    subst (λ (v : Float). T (le v (of_bits binary64 0x7FEFFFFFFFFFFFFF))) (of_bits-to_bits binary64 x F) (bits-le (to_bits binary64 x) 0x7FEFFFFFFFFFFFFF (omega arith) (lit< tt))

above-nought : (x : Float) → T (positive x) → T (lt nought x)
unfolding lt
above-nought nan p = absurd p
above-nought (inf s) p = absurd p
above-nought (fin true m e) p = absurd p
above-nought (fin false m e) p = lt→ltb (0 * down e) (m * up e * 1) (rw (zero-mul, mul-one) (mul-pos (ltb→lt 0 m p) (up_pos e)))

pub at-least-smallest : (x : Float) → T (fits binary64 x) → T (positive x) → T (le (of_bits binary64 1) x)
unfolding fits to_bits
at-least-smallest x F p =
    let s = positive-sign x p in
    let f = positive-finite x p in
    let h : 0 < to_bits binary64 x = lt→to_bits nought x tt F tt f refl s (above-nought x p) in
    subst (λ (v : Float). T (le (of_bits binary64 1) v)) (of_bits-to_bits binary64 x F) (bits-le 1 (to_bits binary64 x) h (to_bits-finite x F f s))

-- ---- a quotient of two sides
one-rounds : Rounds binary64 1 0 1 (of_bits binary64 0x3FF0000000000000)
unfolding round of_bits
one-rounds = plus 1 refl refl

positive-part : (y : Float) → T (positive y) → pos_part y ≡ num y
positive-part nan p = absurd p
positive-part (inf s) p = absurd p
positive-part (fin true m e) p = absurd p
positive-part (fin false m e) p = refl

pub quotient-at-most-one : (x y : Float) → T (finite x) → T (positive y) → T (le x y) → T (le (div binary64 x y) (of_bits binary64 0x3FF0000000000000))
quotient-at-most-one x y p q h =
    rounds-mono binary64 (pos_part x * den y) (neg_part x * den y) (num y * den x) 1 0 1 (div binary64 x y) (of_bits binary64 0x3FF0000000000000)
    (mul-pos (positive-num y q) (den_pos x)) (lit< tt) (div-rounds binary64 x y p q) one-rounds
    (at_one (pos_part x * den y) (neg_part y * den x) (num y * den x) (neg_part x * den y)
    (subst (λ (n : ℕ). pos_part x * den y + neg_part y * den x ≤ n * den x + neg_part x * den y) (positive-part y q) (le→Le x y p (positive-finite y q) h)))
  where
    at_one : (a k c b : ℕ) → a + k ≤ c + b → a * 1 + 0 * c ≤ 1 * c + b * 1
    at_one a k c b h = omega arith

zero-rounds : Rounds binary64 0 0 1 nought
zero-rounds = plus 0 refl (sym (round-zero binary64 false 1 (lit< tt)))

-- (a - b) / c with b = 0, beside 0 / 1
at_zero : (a b c : ℕ) → b ≡ 0 → 0 * c + b * 1 ≤ a * 1 + 0 * c
at_zero a b c h = omega arith

pub quotient-at-least-zero : (x y : Float) → T (finite x) → T (positive y) → T (le nought x) → T (le nought (div binary64 x y))
quotient-at-least-zero x y p q h =
    rounds-mono binary64 0 0 1 (pos_part x * den y) (neg_part x * den y) (num y * den x) nought (div binary64 x y)
    (lit< tt) (mul-pos (positive-num y q) (den_pos x)) zero-rounds (div-rounds binary64 x y p q)
    (at_zero (pos_part x * den y) (neg_part x * den y) (num y * den x) (ap (λ (n : ℕ). n * den y) (nonneg x p h) ∙ zero-mul (den y)))

pub product-at-least-zero : (x y : Float) → T (finite x) → T (finite y) → T (le nought x) → T (le nought y) → T (le nought (mul binary64 x y))
product-at-least-zero x y p q h k =
    rounds-mono binary64 0 0 1 (pos_part x * pos_part y + neg_part x * neg_part y) (pos_part x * neg_part y + neg_part x * pos_part y) (den x * den y) nought (mul binary64 x y)
    (lit< tt) (mul-pos (den_pos x) (den_pos y)) zero-rounds (mul-rounds binary64 x y p q)
    (at_zero (pos_part x * pos_part y + neg_part x * neg_part y) (pos_part x * neg_part y + neg_part x * pos_part y) (den x * den y) (rw (nonneg x p h, nonneg y q k, mul-zero (pos_part x), zero-mul (pos_part y)) refl))
