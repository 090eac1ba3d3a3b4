-- What `round_of` is for a finite value: a whole number, within a half of it, a half away from zero, and the only such number. Assumes nothing.
use mathlib.Core.Path.{◌≡◌, refl, sym, ap, ◌∙◌, subst}
use Prim.Native.Nat.{ℕ, zero, suc, ◌+◌, ◌-◌, ◌*◌, ◌/◌, ◌%◌, ◌^◌, ◌≤◌, ◌<◌}
use native.Mathlib.Nat.{add-mul, mul_assoc, mul-one, mod-eq_of_lt, lt_of_lt_of_le}
use native.Mathlib.Omega.{arith}
use mathlib.Core.Bool.{Bool, true, false, not}
use lib.IntN.{ℤ}
use lib.Dec.{T, leb, ltb, leb→le, nleb→lt, ltb→lt, nltb→le, lit<, lit≤}
use lib.Pow.{pow-add, pow_pos, pow_mono, shl_lt}
use lib.Ieee.{Float, nan, inf, fin, binary64, up, down, fits, is_nan, to_bits, of_bits, round}
use lib.Ieee.Bits.{of_bits-to_bits, to_bits-lt}
use lib.Ieee.Fits.{down_pos, round-fits}
use lib.Ieee.Exact.{HasValue, round_exact}
use lib.Ieee.Back.{whole_unique, round_whole}
use lib.Ieee.Scale.{finite}
use lib.Ieee.Positive.{num, den, den_pos}
use Rattle.laws.proofs.Value.{sign, value_same}
use Rattle.laws.proofs.Bits.{inf_bits, field_units, units_of, bits-value, bits-value-neg, bare-fits, to_bits-bare, to_bits-finite}
use Rattle.rounding.specs.Round.{nearest_whole, round_of, Nearest}
use Rattle.rounding.proofs.Halves.{nearest-same, nearest-exact, within, within-unique}
use Rattle.rounding.proofs.Fields.{low_field, upper-field, upper-bound}

-- ---- `round_of` sees only the value
pub round-value : (x : Float) (s : Bool) (a c : ℕ) → 0 < c → HasValue x s a c → round_of x ≡ round binary64 s (nearest_whole a c) 1
unfolding round_of
round-value nan s a c C v = absurd v
round-value (inf t) s a c C v = absurd v
round-value (fin t m e) s a c C v =
    ap (λ (b : Bool). round binary64 b (nearest_whole (m * up e) (down e)) 1) v.0
    ∙ ap (λ (n : ℕ). round binary64 s n 1) (nearest-same (m * up e) (down e) a c (down_pos e) C v.1)

-- ---- the value of a finite pattern, of either sign
pub signed-value : (u : ℕ) → u < 2 ^ 64 → u % 2 ^ 63 < inf_bits → HasValue (of_bits binary64 u) (leb (2 ^ 63) u) (units_of (u % 2 ^ 63)) (2 ^ 1074)
signed-value u h k = go (leb (2 ^ 63) u) (leb→le (2 ^ 63) u) (nleb→lt (2 ^ 63) u)
  where
    rest : (u : ℕ) → u < 2 ^ 64 → 2 ^ 63 ≤ u → 2 ^ 63 + u % 2 ^ 63 ≡ u
    rest u h l = omega arith

    go : (b : Bool) → (T b → 2 ^ 63 ≤ u) → (T (not b) → u < 2 ^ 63) → HasValue (of_bits binary64 u) b (units_of (u % 2 ^ 63)) (2 ^ 1074)
    go true p q = subst (λ (n : ℕ). HasValue (of_bits binary64 n) true (units_of (u % 2 ^ 63)) (2 ^ 1074)) (rest u h (p tt)) (bits-value-neg (u % 2 ^ 63) k)
    go false p q =
        subst (λ (n : ℕ). HasValue (of_bits binary64 n) false (units_of (u % 2 ^ 63)) (2 ^ 1074)) (mod-eq_of_lt (q tt)) (bits-value (u % 2 ^ 63) k)

pub value_of : (x : Float) → T (fits binary64 x) → to_bits binary64 x % 2 ^ 63 < inf_bits → HasValue x (leb (2 ^ 63) (to_bits binary64 x)) (units_of (to_bits binary64 x % 2 ^ 63)) (2 ^ 1074)
value_of x F k =
    subst (λ (y : Float). HasValue y (leb (2 ^ 63) (to_bits binary64 x)) (units_of (to_bits binary64 x % 2 ^ 63)) (2 ^ 1074)) (of_bits-to_bits binary64 x F)
    (signed-value (to_bits binary64 x) (to_bits-lt binary64 x F) k)

pub round-bits : (x : Float) → T (fits binary64 x) → to_bits binary64 x % 2 ^ 63 < inf_bits
    → round_of x ≡ round binary64 (leb (2 ^ 63) (to_bits binary64 x)) (nearest_whole (units_of (to_bits binary64 x % 2 ^ 63)) (2 ^ 1074)) 1
round-bits x F k = round-value x (leb (2 ^ 63) (to_bits binary64 x)) (units_of (to_bits binary64 x % 2 ^ 63)) (2 ^ 1074) (pow_pos 1074) (value_of x F k)

-- ---- from 2 ^ 52 on: the field x of a value is 1075 or more, and the value is (2 ^ 52 + t) * 2 ^ (x - 1075)
abbrev whole_units : ℕ → ℕ → ℕ
whole_units x t = (2 ^ 52 + t) * 2 ^ (x - 1075)

whole-units : (x t : ℕ) → 1074 < x → field_units x t ≡ whole_units x t * 2 ^ 1074
whole-units zero t h = absurd (none h)
  where
    none : 1074 < 0 → ⊥
    none h = omega arith
whole-units (suc x) t h = ap (λ (n : ℕ). (2 ^ 52 + t) * 2 ^ n) (split x h) ∙ ap (λ (n : ℕ). (2 ^ 52 + t) * n) (pow-add 2 (suc x - 1075) 1074) ∙ sym (mul_assoc (2 ^ 52 + t) (2 ^ (suc x - 1075)) (2 ^ 1074))
  where
    split : (x : ℕ) → 1074 < suc x → x ≡ suc x - 1075 + 1074
    split x h = omega arith

large-exact : (s : Bool) (x t : ℕ) → 1074 < x → x < 2047 → t < 2 ^ 52 → HasValue (round binary64 s (whole_units x t) 1) s (whole_units x t) 1
large-exact s x t h k l =
    round_exact binary64 s (whole_units x t) 1 (2 ^ 52 + t) (x - 1075 + 1074) (lit< tt) (lead t l)
    (lt_of_lt_of_le (shl_lt 53 (x - 1075 + 1074) (lead t l)) (pow_mono (top x h k)))
    (mul_assoc (2 ^ 52 + t) (2 ^ (x - 1075)) (2 ^ 1074) ∙ ap (λ (n : ℕ). (2 ^ 52 + t) * n) (sym (pow-add 2 (x - 1075) 1074)) ∙ sym (mul-one ((2 ^ 52 + t) * 2 ^ (x - 1075 + 1074))))
  where
    lead : (t : ℕ) → t < 2 ^ 52 → 2 ^ 52 + t < 2 ^ 53
    lead t l = omega arith

    top : (x : ℕ) → 1074 < x → x < 2047 → 53 + (x - 1075 + 1074) ≤ 2098
    top x h k = omega arith

large-value : (x : Float) (s : Bool) (f t : ℕ) → 1074 < f → HasValue x s (field_units f t) (2 ^ 1074) → HasValue x s (whole_units f t) 1
large-value x s f t h v = value_same x s (field_units f t) (2 ^ 1074) (whole_units f t) 1 (pow_pos 1074) (mul-one (field_units f t) ∙ whole-units f t h) v

pub round-large : (x : Float) → T (fits binary64 x) → to_bits binary64 x % 2 ^ 63 < inf_bits → 1074 < to_bits binary64 x % 2 ^ 63 / 2 ^ 52 → round_of x ≡ x
round-large x F k h =
    let u = to_bits binary64 x in
    let s = leb (2 ^ 63) u in
    let f = u % 2 ^ 63 / 2 ^ 52 in
    let t = u % 2 ^ 63 % 2 ^ 52 in
    let v : HasValue x s (whole_units f t) 1 = large-value x s f t h (value_of x F k) in
    round-value x s (whole_units f t) 1 (lit< tt) v
    ∙ ap (λ (n : ℕ). round binary64 s n 1) (ap (λ (n : ℕ). nearest_whole n 1) (sym (mul-one (whole_units f t))) ∙ nearest-exact (whole_units f t) 1 (lit< tt))
    ∙ whole_unique binary64 (round binary64 s (whole_units f t) 1) x s (whole_units f t) (round-fits binary64 s (whole_units f t) 1) F (large-exact s f t h (field u k) (digits u)) v
  where
    field : (u : ℕ) → u % 2 ^ 63 < inf_bits → u % 2 ^ 63 / 2 ^ 52 < 2047
    field u k = omega arith

    digits : (u : ℕ) → u % 2 ^ 63 % 2 ^ 52 < 2 ^ 52
    digits u = omega arith

-- ---- the three ways that the code goes: there is no fraction, or the number has no minus sign, or it has one
finite-pattern : (s : Bool) (m : ℕ) (e : ℤ) → T (fits binary64 (fin s m e)) → to_bits binary64 (fin s m e) % 2 ^ 63 < inf_bits
unfolding is_nan
finite-pattern s m e F = subst (λ (n : ℕ). n < inf_bits) (sym (to_bits-bare (fin s m e) F tt)) (to_bits-finite (fin false m e) (bare-fits (fin s m e) F) tt refl)

pub no_fraction : (x : Float) → T (fits binary64 x) → 1074 < to_bits binary64 x % 2 ^ 63 / 2 ^ 52 → round_of x ≡ x
unfolding round_of
no_fraction nan F h = refl
no_fraction (inf s) F h = refl
no_fraction (fin s m e) F h = round-large (fin s m e) F (finite-pattern s m e F) h

pub with-fraction : (x : Float) → T (fits binary64 x) → (k : ℕ) → to_bits binary64 x % 2 ^ 63 / 2 ^ 52 ≤ 1074
    → k ≡ nearest_whole (units_of (to_bits binary64 x % 2 ^ 63)) (2 ^ 1074) → round_of x ≡ round binary64 (leb (2 ^ 63) (to_bits binary64 x)) k 1
with-fraction x F k h e = round-bits x F (under (to_bits binary64 x) h) ∙ ap (λ (n : ℕ). round binary64 (leb (2 ^ 63) (to_bits binary64 x)) n 1) (sym e)
  where
    under : (u : ℕ) → u % 2 ^ 63 / 2 ^ 52 ≤ 1074 → u % 2 ^ 63 < inf_bits
    under u h = omega arith

-- ---- what is not finite
pub of_nan : round_of nan ≡ nan
unfolding round_of
of_nan = refl

pub of-infinity : (s : Bool) → round_of (inf s) ≡ inf s
unfolding round_of
of-infinity s = refl

-- ---- the nearest whole number is a value of the format, so rounding it changes nothing
field-exact : (s : Bool) (f t : ℕ) → f < 2047 → t < 2 ^ 52 → HasValue (round binary64 s (nearest_whole (field_units f t) (2 ^ 1074)) 1) s (nearest_whole (field_units f t) (2 ^ 1074)) 1
field-exact s f t h l = go (ltb f 1022) (ltb f 1075) (ltb→lt f 1022) (nltb→le f 1022) (ltb→lt f 1075) (nltb→le f 1075)
  where
    shown : (n : ℕ) → nearest_whole (field_units f t) (2 ^ 1074) ≡ n → HasValue (round binary64 s n 1) s n 1
        → HasValue (round binary64 s (nearest_whole (field_units f t) (2 ^ 1074)) 1) s (nearest_whole (field_units f t) (2 ^ 1074)) 1
    shown n e v = subst (λ (k : ℕ). HasValue (round binary64 s k 1) s k 1) (sym e) v

    halved : (q : ℕ) → q < 2 ^ 53 → (q + 1) / 2 ≤ 2 ^ 53
    halved q b = omega arith

    up_to : (f : ℕ) → f < 1075 → f ≤ 1074
    up_to f b = omega arith

    go : (a b : Bool) → (T a → f < 1022) → (T (not a) → 1022 ≤ f) → (T b → f < 1075) → (T (not b) → 1074 < f)
        → HasValue (round binary64 s (nearest_whole (field_units f t) (2 ^ 1074)) 1) s (nearest_whole (field_units f t) (2 ^ 1074)) 1
    go true b p q p' q' = shown 0 (low_field f t (p tt) l) (round_whole binary64 s 0 (lit≤ tt))
    go false true p q p' q' =
        shown (((2 ^ 52 + t) / 2 ^ (1074 - f) + 1) / 2) (upper-field f t (q tt) (up_to f (p' tt)))
        (round_whole binary64 s (((2 ^ 52 + t) / 2 ^ (1074 - f) + 1) / 2) (halved ((2 ^ 52 + t) / 2 ^ (1074 - f)) (upper-bound t (1074 - f) l)))
    go false false p q p' q' =
        shown (whole_units f t) (ap (λ (n : ℕ). nearest_whole n (2 ^ 1074)) (whole-units f t (q' tt)) ∙ nearest-exact (whole_units f t) (2 ^ 1074) (pow_pos 1074))
        (large-exact s f t (q' tt) h l)

-- ---- a finite x: `round_of x` is a whole number k with the sign of x, the nearest to |x|, and no other number is
pub whole-value : (x : Float) → T (fits binary64 x) → T (finite x) → HasValue (round_of x) (sign x) (nearest_whole (num x) (den x)) 1
whole-value nan F p = absurd p
whole-value (inf s) F p = absurd p
whole-value (fin s m e) F p =
    let x = fin s m e in
    let u = to_bits binary64 x in
    let f = u % 2 ^ 63 / 2 ^ 52 in
    let t = u % 2 ^ 63 % 2 ^ 52 in
    let b = leb (2 ^ 63) u in
    let k : nearest_whole (m * up e) (down e) ≡ nearest_whole (field_units f t) (2 ^ 1074) =
    nearest-same (m * up e) (down e) (field_units f t) (2 ^ 1074) (down_pos e) (pow_pos 1074) (value_of x F (finite-pattern s m e F)).1 in
    subst (λ (y : Float). HasValue y s (nearest_whole (m * up e) (down e)) 1) (sym (round-value x s (m * up e) (down e) (down_pos e) (refl, refl)))
    (subst (λ (n : ℕ). HasValue (round binary64 s n 1) s n 1) (sym k) (field-exact s f t (field u (finite-pattern s m e F)) (digits u)))
  where
    field : (u : ℕ) → u % 2 ^ 63 < inf_bits → u % 2 ^ 63 / 2 ^ 52 < 2047
    field u k = omega arith

    digits : (u : ℕ) → u % 2 ^ 63 % 2 ^ 52 < 2 ^ 52
    digits u = omega arith

pub nearest : (x : Float) → Nearest x (nearest_whole (num x) (den x))
nearest x = let w = within (num x) (den x) (den_pos x) in record { low = w.0; high = w.1 }

pub nearest-unique : (x : Float) (k l : ℕ) → Nearest x k → Nearest x l → k ≡ l
nearest-unique x k l p q =
    sym (within-unique (num x) (den x) k (den_pos x) p.low p.high) ∙ within-unique (num x) (den x) l (den_pos x) q.low q.high

pub round-nearest : (x : Float) → T (fits binary64 x) → T (finite x) → (k : ℕ) × HasValue (round_of x) (sign x) k 1 × Nearest x k
round-nearest x F p = (nearest_whole (num x) (den x), whole-value x F p, nearest x)

-- so a whole number that is near enough is the result, and a tie goes up in size: where 2 |x| = 2 k + 1 it is k + 1
pub round-is-nearest : (x : Float) (k : ℕ) → T (fits binary64 x) → T (finite x) → Nearest x k → HasValue (round_of x) (sign x) k 1
round-is-nearest x k F p n = subst (λ (j : ℕ). HasValue (round_of x) (sign x) j 1) (nearest-unique x (nearest_whole (num x) (den x)) k (nearest x) n) (whole-value x F p)

pub tie-away : (x : Float) (k : ℕ) → T (fits binary64 x) → T (finite x) → 2 * num x ≡ (2 * k + 1) * den x → HasValue (round_of x) (sign x) (k + 1) 1
tie-away x k F p e =
    let a : (2 * k + 1) * den x ≡ 2 * k * den x + 1 * den x = add-mul (2 * k) 1 (den x) in
    let b : (k + 1) * den x ≡ k * den x + 1 * den x = add-mul k 1 (den x) in
    let c : 2 * k * den x ≡ 2 * (k * den x) = mul_assoc 2 k (den x) in
    let d : 0 < den x = den_pos x in
    round-is-nearest x (k + 1) F p (record { low = omega arith; high = omega arith })

-- 0.25, 0.5 and 1.5 give 0, 1 and 2, the largest number below 0.5 gives 0, and -0.3 gives -0, by computation
pub quarter : round_of (of_bits binary64 0x3FD0000000000000) ≡ of_bits binary64 0x0000000000000000
unfolding round_of of_bits round nearest_whole
quarter = refl

pub half : round_of (of_bits binary64 0x3FE0000000000000) ≡ of_bits binary64 0x3FF0000000000000
unfolding round_of of_bits round nearest_whole
half = refl

pub three_halves : round_of (of_bits binary64 0x3FF8000000000000) ≡ of_bits binary64 0x4000000000000000
unfolding round_of of_bits round nearest_whole
three_halves = refl

pub below_half : round_of (of_bits binary64 0x3FDFFFFFFFFFFFFF) ≡ of_bits binary64 0x0000000000000000
unfolding round_of of_bits round nearest_whole
below_half = refl

pub small-negative : round_of (of_bits binary64 0xBFD3333333333333) ≡ of_bits binary64 0x8000000000000000
unfolding round_of of_bits round nearest_whole
small-negative = refl
