-- The bit patterns of binary64 as numbers: what value each stands for, that their order is that of the values, what the sign's bit does,
-- and what a change of the exponent's field or a cut of low digits does. Assumes nothing.
use mathlib.Core.Path.{◌≡◌, refl, sym, ap, ◌∙◌, subst}
use mathlib.Core.Logic.{inl, inr}
use Prim.Native.Nat.{ℕ, zero, suc, ◌+◌, ◌-◌, ◌*◌, ◌/◌, ◌%◌, ◌^◌, ◌≤◌, ◌<◌}
use native.Mathlib.Nat.{le_trans, le_of_eq, le_of_lt, lt_of_lt_of_le, not-le_of_lt, lt_of_not-le, eq-or-lt_of_le, mod-eq_of_lt, mul-one, mul_assoc, mul-le-mul_right, mul-le-mul_left, mul-lt-mul_of_pos_right, pow-succ', add_assoc, add-mul, le_of_mul-le-mul_right, lt_of_mul-lt-mul_right}
use native.Mathlib.Omega.{arith}
use mathlib.Core.Bool.{Bool, true, false, not, cond, true≢false}
use lib.Dec.{T, leb, ltb, eqb, leb→le, le→leb, ltb→lt, nltb→le, eqb→eq, not_T, lit<}
use lib.Pow.{pow-add, pow_pos, pow_mono}
use lib.Ieee.{Float, nan, inf, fin, binary64, odd, of_fields, of_bits, to_bits, nan_bits, is_nan, fits, neg, le, lt}
use lib.Ieee.Bits.{is_true, is_false, cond_no, of_bits-to_bits, to_bits-of_bits, nan_bits_is, nan_bits_above}
use lib.Ieee.Exact.{HasValue, odd_sign}
use lib.Ieee.Order.{le_of_values}
use lib.Ieee.Scale.{finite}
use lib.Ieee.Positive.{positive, positive-finite, positive_of_value, above, above_of_le}
use Rattle.laws.proofs.Value.{sign, bare, sign_of_odd, value-finite, finite-no-nan, value_same, le-values, lt-values}

-- the pattern of the infinity: each smaller one is that of a finite value without a minus sign
abbrev pub inf_bits : ℕ
inf_bits = 2047 * 2 ^ 52

-- ---- what the fields are read as
of_bits_is : (b : ℕ) → of_bits binary64 b ≡ of_fields binary64 (leb (2 ^ 63) b) (b % 2 ^ 63 / 2 ^ 52) (b % 2 ^ 52)
unfolding of_bits
of_bits_is b = refl

low-fields : (s : Bool) (t : ℕ) → of_fields binary64 s 0 t ≡ odd 53 s t 0 1074
unfolding of_fields
low-fields s t = refl

differ : (x : ℕ) → suc x < 2047 → suc x ≡ 2047 → ⊥
differ x h e = omega arith

mid-fields : (s : Bool) (x t : ℕ) → suc x < 2047 → of_fields binary64 s (suc x) t ≡ odd 53 s (2 ^ 52 + t) x 1074
unfolding of_fields
mid-fields s x t h = cond_no (eqb (suc x) 2047) (cond (eqb t 0) (inf s) nan) (odd 53 s (2 ^ 52 + t) x 1074) (not_T (eqb (suc x) 2047) (λ (u : T (eqb (suc x) 2047)). differ x h (eqb→eq (suc x) 2047 u)))

-- the exponent's field x and the digits t, in units of the smallest value 2 ^ -1074
abbrev pub field_units : ℕ → ℕ → ℕ
field_units zero t = t
field_units (suc x) t = (2 ^ 52 + t) * 2 ^ x

-- a pattern without the sign's bit, in units of the smallest value
abbrev pub units_of : ℕ → ℕ
units_of b = field_units (b / 2 ^ 52) (b % 2 ^ 52)

fields_value : (s : Bool) (x t : ℕ) → x < 2047 → HasValue (of_fields binary64 s x t) s (field_units x t) (2 ^ 1074)
fields_value s zero t h = subst (λ (v : Float). HasValue v s t (2 ^ 1074)) (sym (low-fields s t)) (subst (λ (n : ℕ). HasValue (odd 53 s t 0 1074) s n (2 ^ 1074)) (mul-one t) (odd_sign 53 s t 0 1074))
fields_value s (suc x) t h = subst (λ (v : Float). HasValue v s ((2 ^ 52 + t) * 2 ^ x) (2 ^ 1074)) (sym (mid-fields s x t h)) (odd_sign 53 s (2 ^ 52 + t) x 1074)

clear : (b : ℕ) → b < 2 ^ 63 → leb (2 ^ 63) b ≡ false
clear b h = is_false (leb (2 ^ 63) b) (not_T (leb (2 ^ 63) b) (λ (u : T (leb (2 ^ 63) b)). not-le_of_lt h (leb→le (2 ^ 63) b u)))

of_bits-clear : (b : ℕ) → b < 2 ^ 63 → of_bits binary64 b ≡ of_fields binary64 false (b / 2 ^ 52) (b % 2 ^ 52)
of_bits-clear b h =
    of_bits_is b ∙ ap (λ (s : Bool). of_fields binary64 s (b % 2 ^ 63 / 2 ^ 52) (b % 2 ^ 52)) (clear b h) ∙ ap (λ (x : ℕ). of_fields binary64 false (x / 2 ^ 52) (b % 2 ^ 52)) (mod-eq_of_lt h)

of_bits-set : (b : ℕ) → b < 2 ^ 63 → of_bits binary64 (2 ^ 63 + b) ≡ of_fields binary64 true (b / 2 ^ 52) (b % 2 ^ 52)
of_bits-set b h =
    of_bits_is (2 ^ 63 + b)
    ∙ ap (λ (s : Bool). of_fields binary64 s ((2 ^ 63 + b) % 2 ^ 63 / 2 ^ 52) ((2 ^ 63 + b) % 2 ^ 52)) (is_true (leb (2 ^ 63) (2 ^ 63 + b)) (le→leb (2 ^ 63) (2 ^ 63 + b) (more b)))
    ∙ ap (λ (x : ℕ). of_fields binary64 true x ((2 ^ 63 + b) % 2 ^ 52)) (field b h)
    ∙ ap (λ (t : ℕ). of_fields binary64 true (b / 2 ^ 52) t) (digits b)
  where
    more : (b : ℕ) → 2 ^ 63 ≤ 2 ^ 63 + b
    more b = omega arith

    field : (b : ℕ) → b < 2 ^ 63 → (2 ^ 63 + b) % 2 ^ 63 / 2 ^ 52 ≡ b / 2 ^ 52
    field b h = omega arith

    digits : (b : ℕ) → (2 ^ 63 + b) % 2 ^ 52 ≡ b % 2 ^ 52
    digits b = omega arith

digits_in : (b : ℕ) → b % 2 ^ 52 < 2 ^ 52
digits_in b = omega arith

field_lt : (b : ℕ) → b < inf_bits → b / 2 ^ 52 < 2047
field_lt b h = omega arith

inf-lt : (b : ℕ) → b < inf_bits → b < 2 ^ 63
inf-lt b h = omega arith

-- ---- the value of a pattern
pub bits-value : (b : ℕ) → b < inf_bits → HasValue (of_bits binary64 b) false (units_of b) (2 ^ 1074)
bits-value b h = subst (λ (v : Float). HasValue v false (units_of b) (2 ^ 1074)) (sym (of_bits-clear b (inf-lt b h))) (fields_value false (b / 2 ^ 52) (b % 2 ^ 52) (field_lt b h))

pub bits-value-neg : (b : ℕ) → b < inf_bits → HasValue (of_bits binary64 (2 ^ 63 + b)) true (units_of b) (2 ^ 1074)
bits-value-neg b h = subst (λ (v : Float). HasValue v true (units_of b) (2 ^ 1074)) (sym (of_bits-set b (inf-lt b h))) (fields_value true (b / 2 ^ 52) (b % 2 ^ 52) (field_lt b h))

at_field : (x t : ℕ) → t < 2 ^ 52 → (x * 2 ^ 52 + t) / 2 ^ 52 ≡ x
at_field x t h = omega arith

at-digits : (x t : ℕ) → t < 2 ^ 52 → (x * 2 ^ 52 + t) % 2 ^ 52 ≡ t
at-digits x t h = omega arith

in-range : (x t : ℕ) → x < 2047 → t < 2 ^ 52 → x * 2 ^ 52 + t < inf_bits
in-range x t h k = omega arith

pub units-at : (x t : ℕ) → t < 2 ^ 52 → units_of (x * 2 ^ 52 + t) ≡ field_units x t
units-at x t h = ap (λ (y : ℕ). field_units y ((x * 2 ^ 52 + t) % 2 ^ 52)) (at_field x t h) ∙ ap (field_units x) (at-digits x t h)

-- with the field x and the digits t: t units at x = 0, and (2 ^ 52 + t) * 2 ^ (x - 1) units from x = 1 on
pub pattern-value : (x t : ℕ) → x < 2047 → t < 2 ^ 52 → HasValue (of_bits binary64 (x * 2 ^ 52 + t)) false (field_units x t) (2 ^ 1074)
pattern-value x t h k = subst (λ (n : ℕ). HasValue (of_bits binary64 (x * 2 ^ 52 + t)) false n (2 ^ 1074)) (units-at x t k) (bits-value (x * 2 ^ 52 + t) (in-range x t h k))

-- ---- the order of the patterns is that of the values
digits-grow : (x t u : ℕ) → t < u → field_units x t < field_units x u
digits-grow zero t u h = h
digits-grow (suc x) t u h = mul-lt-mul_of_pos_right (lead t u h) (pow_pos x)
  where
    lead : (t u : ℕ) → t < u → 2 ^ 52 + t < 2 ^ 52 + u
    lead t u h = omega arith

-- the field x has values below 2 ^ (52 + x) units, and those of the next field start there
pub field_top : (x t : ℕ) → t < 2 ^ 52 → field_units x t < 2 ^ 52 * 2 ^ x
field_top zero t h = h
field_top (suc x) t h = lt_of_lt_of_le (mul-lt-mul_of_pos_right (lead t h) (pow_pos x)) (le_of_eq (mul_assoc (2 ^ 52) 2 (2 ^ x) ∙ ap (λ (y : ℕ). 2 ^ 52 * y) (sym (pow-succ' 2 x))))
  where
    lead : (t : ℕ) → t < 2 ^ 52 → 2 ^ 52 + t < 2 ^ 52 * 2
    lead t h = omega arith

pub field-bottom : (x t : ℕ) → 2 ^ 52 * 2 ^ x ≤ field_units (suc x) t
field-bottom x t = mul-le-mul_right (2 ^ x) (lead t)
  where
    lead : (t : ℕ) → 2 ^ 52 ≤ 2 ^ 52 + t
    lead t = omega arith

field-grows : (x y t u : ℕ) → x < y → t < 2 ^ 52 → field_units x t < field_units y u
field-grows x zero t u h k = absurd (none x h)
  where
    none : (x : ℕ) → x < 0 → ⊥
    none x h = omega arith
field-grows x (suc y) t u h k = lt_of_lt_of_le (field_top x t k) (le_trans (mul-le-mul_left (2 ^ 52) (pow_mono (below x y h))) (field-bottom y u))
  where
    below : (x y : ℕ) → x < suc y → x ≤ y
    below x y h = omega arith

units_lt : (b c : ℕ) → b < c → units_of b < units_of c
units_lt b c h = elim (eq-or-lt_of_le (fields_le b c h)) [
  | inl e ↦ subst (λ (x : ℕ). units_of b < field_units x (c % 2 ^ 52)) e (digits-grow (b / 2 ^ 52) (b % 2 ^ 52) (c % 2 ^ 52) (digits_lt b c h e))
  | inr l ↦ field-grows (b / 2 ^ 52) (c / 2 ^ 52) (b % 2 ^ 52) (c % 2 ^ 52) l (digits_in b)
]
  where
    fields_le : (b c : ℕ) → b < c → b / 2 ^ 52 ≤ c / 2 ^ 52
    fields_le b c h = omega arith

    digits_lt : (b c : ℕ) → b < c → b / 2 ^ 52 ≡ c / 2 ^ 52 → b % 2 ^ 52 < c % 2 ^ 52
    digits_lt b c h e = omega arith

pub units-le : (b c : ℕ) → b ≤ c → units_of b ≤ units_of c
units-le b c h = elim (eq-or-lt_of_le h) [ inl e ↦ le_of_eq (ap (λ (x : ℕ). units_of x) e) | inr l ↦ le_of_lt (units_lt b c l) ]

pub units-le-back : (b c : ℕ) → units_of b ≤ units_of c → b ≤ c
units-le-back b c h = le-of-not-lt' (λ (g : c < b). not-le_of_lt (units_lt c b g) h)
  where
    le-of-not-lt' : {m n : ℕ} → (n < m → ⊥) → m ≤ n
    le-of-not-lt' {m} {n} k = go (ltb n m) (ltb→lt n m) (nltb→le n m)
      where
        go : (t : Bool) → (T t → n < m) → (T (not t) → m ≤ n) → m ≤ n
        go true p q = absurd (k (p tt))
        go false p q = q tt

pub units-lt-back : (b c : ℕ) → units_of b < units_of c → b < c
units-lt-back b c h = lt_of_not-le (λ (g : c ≤ b). not-le_of_lt h (units-le c b g))

pub bits-le : (b c : ℕ) → b ≤ c → c < inf_bits → T (le (of_bits binary64 b) (of_bits binary64 c))
bits-le b c h k =
    le_of_values (of_bits binary64 b) (of_bits binary64 c) (units_of b) (2 ^ 1074) (units_of c) (2 ^ 1074) (pow_pos 1074) (pow_pos 1074)
    (bits-value b (under b c h k)) (bits-value c k) (mul-le-mul_right (2 ^ 1074) (units-le b c h))
  where
    under : (b c : ℕ) → b ≤ c → c < inf_bits → b < inf_bits
    under b c h k = omega arith

bits-le-back : (b c : ℕ) → b < inf_bits → c < inf_bits → T (le (of_bits binary64 b) (of_bits binary64 c)) → b ≤ c
bits-le-back b c h k t =
    units-le-back b c (le_of_mul-le-mul_right (le-values (of_bits binary64 b) (of_bits binary64 c) (units_of b) (2 ^ 1074) (units_of c) (2 ^ 1074) (bits-value b h) (bits-value c k) t) (pow_pos 1074))

bits-lt-back : (b c : ℕ) → b < inf_bits → c < inf_bits → T (lt (of_bits binary64 b) (of_bits binary64 c)) → b < c
bits-lt-back b c h k t =
    units-lt-back b c (lt_of_mul-lt-mul_right (2 ^ 1074) (lt-values (of_bits binary64 b) (of_bits binary64 c) (units_of b) (2 ^ 1074) (units_of c) (2 ^ 1074) (pow_pos 1074) (pow_pos 1074) (bits-value b h) (bits-value c k) t))

-- ---- which patterns are finite, and which are a NaN's
pub bits-finite : (b : ℕ) → b < inf_bits → T (finite (of_bits binary64 b))
bits-finite b h = value-finite (of_bits binary64 b) false (units_of b) (2 ^ 1074) (bits-value b h)

-- what `f64::from_bits` asks; the infinity's pattern is included
pub bits-no-nan : (b : ℕ) → b ≤ inf_bits → T (not (nan_bits binary64 b))
bits-no-nan b h = subst (λ (t : Bool). T (not t)) (sym (nan_bits_above binary64 b)) (not_T (ltb inf_bits (b % 2 ^ 63)) (λ (u : T (ltb inf_bits (b % 2 ^ 63))). over b h (ltb→lt inf_bits (b % 2 ^ 63) u)))
  where
    over : (b : ℕ) → b ≤ inf_bits → inf_bits < b % 2 ^ 63 → ⊥
    over b h k = omega arith

-- with either sign
bits-no-nan-sign : (b : ℕ) → b % 2 ^ 63 ≤ inf_bits → T (not (nan_bits binary64 b))
bits-no-nan-sign b h = subst (λ (t : Bool). T (not t)) (sym (nan_bits_above binary64 b)) (not_T (ltb inf_bits (b % 2 ^ 63)) (λ (u : T (ltb inf_bits (b % 2 ^ 63))). not-le_of_lt (ltb→lt inf_bits (b % 2 ^ 63) u) h))

no-nan-is : (b : ℕ) → T (not (nan_bits binary64 b)) → T (not (is_nan (of_bits binary64 b)))
no-nan-is b h = subst (λ (t : Bool). T (not t)) (nan_bits_is binary64 b) h

pub to_bits-back : (b : ℕ) → b ≤ inf_bits → to_bits binary64 (of_bits binary64 b) ≡ b
to_bits-back b h = to_bits-of_bits binary64 b (wide b h) (no-nan-is b (bits-no-nan b h))
  where
    wide : (b : ℕ) → b ≤ inf_bits → b < 2 * 2 ^ 63
    wide b h = omega arith

-- ---- the sign's bit
-- for a pattern, NaN or not
neg-odd : (s : Bool) (q k : ℕ) → odd 53 (not s) q k 1074 ≡ neg (odd 53 s q k 1074)
unfolding odd neg
neg-odd s zero k = refl
neg-odd s (suc q) k = refl

neg-fields : (s : Bool) (x t : ℕ) → of_fields binary64 (not s) x t ≡ neg (of_fields binary64 s x t)
unfolding of_fields neg
neg-fields s zero t = neg-odd s t 0
neg-fields s (suc x) t = go (eqb (suc x) 2047) (eqb t 0)
  where
    go : (a b : Bool) → cond a (cond b (inf (not s)) nan) (odd 53 (not s) (2 ^ 52 + t) x 1074) ≡ neg (cond a (cond b (inf s) nan) (odd 53 s (2 ^ 52 + t) x 1074))
    go true true = refl
    go true false = refl
    go false b = neg-odd s (2 ^ 52 + t) x

pub of_bits-neg : (b : ℕ) → b < 2 ^ 63 → of_bits binary64 (2 ^ 63 + b) ≡ neg (of_bits binary64 b)
of_bits-neg b h = of_bits-set b h ∙ neg-fields false (b / 2 ^ 52) (b % 2 ^ 52) ∙ ap neg (sym (of_bits-clear b h))

bare-odd : (s : Bool) (q k : ℕ) → odd 53 false q k 1074 ≡ bare (odd 53 s q k 1074)
unfolding odd
bare-odd s zero k = refl
bare-odd s (suc q) k = refl

bare-fields : (s : Bool) (x t : ℕ) → of_fields binary64 false x t ≡ bare (of_fields binary64 s x t)
unfolding of_fields
bare-fields s zero t = bare-odd s t 0
bare-fields s (suc x) t = go (eqb (suc x) 2047) (eqb t 0)
  where
    go : (a b : Bool) → cond a (cond b (inf false) nan) (odd 53 false (2 ^ 52 + t) x 1074) ≡ bare (cond a (cond b (inf s) nan) (odd 53 s (2 ^ 52 + t) x 1074))
    go true true = refl
    go true false = refl
    go false b = bare-odd s (2 ^ 52 + t) x

-- with the sign's bit taken off
pub of_bits-bare : (b : ℕ) → of_bits binary64 (b % 2 ^ 63) ≡ bare (of_bits binary64 b)
of_bits-bare b =
    of_bits-clear (b % 2 ^ 63) (rest b)
    ∙ ap (λ (t : ℕ). of_fields binary64 false (b % 2 ^ 63 / 2 ^ 52) t) (digits b)
    ∙ bare-fields (leb (2 ^ 63) b) (b % 2 ^ 63 / 2 ^ 52) (b % 2 ^ 52)
    ∙ ap bare (sym (of_bits_is b))
  where
    rest : (b : ℕ) → b % 2 ^ 63 < 2 ^ 63
    rest b = omega arith

    digits : (b : ℕ) → b % 2 ^ 63 % 2 ^ 52 ≡ b % 2 ^ 52
    digits b = omega arith

sign-fields : (s : Bool) (x t : ℕ) → T (not (is_nan (of_fields binary64 s x t))) → sign (of_fields binary64 s x t) ≡ s
unfolding of_fields is_nan
sign-fields s zero t n = sign_of_odd 53 s t 0 1074
sign-fields s (suc x) t n = go (eqb (suc x) 2047) (eqb t 0) n
  where
    go : (a b : Bool) → T (not (is_nan (cond a (cond b (inf s) nan) (odd 53 s (2 ^ 52 + t) x 1074)))) → sign (cond a (cond b (inf s) nan) (odd 53 s (2 ^ 52 + t) x 1074)) ≡ s
    go true true m = refl
    go true false m = absurd m
    go false b m = sign_of_odd 53 s (2 ^ 52 + t) x 1074

of_bits-sign : (b : ℕ) → T (not (nan_bits binary64 b)) → sign (of_bits binary64 b) ≡ leb (2 ^ 63) b
of_bits-sign b n =
    ap sign (of_bits_is b) ∙ sign-fields (leb (2 ^ 63) b) (b % 2 ^ 63 / 2 ^ 52) (b % 2 ^ 52) (subst (λ (v : Float). T (not (is_nan v))) (of_bits_is b) (no-nan-is b n))

-- for a value: its pattern is that of the value without the sign, and the sign's bit
regroup : (c k q : ℕ) → c + k + q ≡ c + (0 + k + q)
regroup c k q = omega arith

no_more : (c q : ℕ) → c + q ≡ c + (0 + q)
no_more c q = omega arith

pub to_bits-sign : (x : Float) → T (not (is_nan x)) → to_bits binary64 x ≡ cond (sign x) (2 ^ 63) 0 + to_bits binary64 (bare x)
unfolding to_bits is_nan
to_bits-sign nan n = absurd n
to_bits-sign (inf s) n = no_more (cond s (2 ^ 63) 0) inf_bits
to_bits-sign (fin s m e) n = regroup (cond s (2 ^ 63) 0) _ _

pub bare-fits : (x : Float) → T (fits binary64 x) → T (fits binary64 (bare x))
unfolding fits
bare-fits nan h = tt
bare-fits (inf s) h = tt
bare-fits (fin s zero e) h = h
bare-fits (fin s (suc m) e) h = h

pub bare-no-nan : (x : Float) → T (not (is_nan x)) → T (not (is_nan (bare x)))
unfolding is_nan
bare-no-nan nan h = h
bare-no-nan (inf s) h = tt
bare-no-nan (fin s m e) h = tt

pub bare-sign : (x : Float) → sign (bare x) ≡ false
bare-sign nan = refl
bare-sign (inf s) = refl
bare-sign (fin s m e) = refl

pub bare-finite : (x : Float) → T (finite x) → T (finite (bare x))
bare-finite nan h = h
bare-finite (inf s) h = h
bare-finite (fin s m e) h = h

-- ---- the pattern of a value without a minus sign
value-no-nan : (x : Float) → T (fits binary64 x) → T (not (is_nan x)) → T (not (nan_bits binary64 (to_bits binary64 x)))
value-no-nan x F n = subst (λ (t : Bool). T (not t)) (sym (nan_bits_is binary64 (to_bits binary64 x))) (subst (λ (v : Float). T (not (is_nan v))) (sym (of_bits-to_bits binary64 x F)) n)

-- the sign's bit of the pattern is the sign
pub to_bits-sign-bit : (x : Float) → T (fits binary64 x) → T (not (is_nan x)) → sign x ≡ leb (2 ^ 63) (to_bits binary64 x)
to_bits-sign-bit x F n = ap sign (sym (of_bits-to_bits binary64 x F)) ∙ of_bits-sign (to_bits binary64 x) (value-no-nan x F n)

at-most-inf : (b : ℕ) → leb (2 ^ 63) b ≡ false → T (not (nan_bits binary64 b)) → b ≤ inf_bits
at-most-inf b e n =
    go b (lt_of_not-le (λ (g : 2 ^ 63 ≤ b). true≢false (sym (is_true (leb (2 ^ 63) b) (le→leb (2 ^ 63) b g)) ∙ e))) (nltb→le inf_bits (b % 2 ^ 63) (subst (λ (t : Bool). T (not t)) (nan_bits_above binary64 b) n))
  where
    go : (b : ℕ) → b < 2 ^ 63 → b % 2 ^ 63 ≤ inf_bits → b ≤ inf_bits
    go b h k = omega arith

pub to_bits-at-most : (x : Float) → T (fits binary64 x) → T (not (is_nan x)) → sign x ≡ false → to_bits binary64 x ≤ inf_bits
to_bits-at-most x F n s = at-most-inf (to_bits binary64 x) (sym (to_bits-sign-bit x F n) ∙ s) (value-no-nan x F n)

of_bits-inf : of_bits binary64 inf_bits ≡ inf false
unfolding of_bits
of_bits-inf = refl

pub to_bits-finite : (x : Float) → T (fits binary64 x) → T (finite x) → sign x ≡ false → to_bits binary64 x < inf_bits
to_bits-finite x F f s = elim (eq-or-lt_of_le (to_bits-at-most x F (finite-no-nan x f) s)) [
  | inl e ↦ absurd (subst (λ (v : Float). T (finite v)) (sym (of_bits-to_bits binary64 x F) ∙ ap (of_bits binary64) e ∙ of_bits-inf) f)
  | inr l ↦ l
]

-- the value in units
pub to_bits-value : (x : Float) → T (fits binary64 x) → T (finite x) → sign x ≡ false → HasValue x false (units_of (to_bits binary64 x)) (2 ^ 1074)
to_bits-value x F f s =
    subst (λ (v : Float). HasValue v false (units_of (to_bits binary64 x)) (2 ^ 1074)) (of_bits-to_bits binary64 x F) (bits-value (to_bits binary64 x) (to_bits-finite x F f s))

-- taking the sign's bit off
pub to_bits-bare : (x : Float) → T (fits binary64 x) → T (not (is_nan x)) → to_bits binary64 x % 2 ^ 63 ≡ to_bits binary64 (bare x)
to_bits-bare x F n =
    ap (λ (b : ℕ). b % 2 ^ 63) (to_bits-sign x n) ∙ go (sign x) (to_bits binary64 (bare x)) (to_bits-at-most (bare x) (bare-fits x F) (bare-no-nan x n) (bare-sign x))
  where
    go : (s : Bool) (b : ℕ) → b ≤ inf_bits → (cond s (2 ^ 63) 0 + b) % 2 ^ 63 ≡ b
    go true b h = set b h
      where
        set : (b : ℕ) → b ≤ inf_bits → (2 ^ 63 + b) % 2 ^ 63 ≡ b
        set b h = omega arith
    go false b h = unset b h
      where
        unset : (b : ℕ) → b ≤ inf_bits → (0 + b) % 2 ^ 63 ≡ b
        unset b h = omega arith

pub to_bits-neg : (x : Float) → T (not (is_nan x)) → sign x ≡ false → to_bits binary64 (neg x) ≡ 2 ^ 63 + to_bits binary64 x
unfolding to_bits neg is_nan
to_bits-neg nan n s = absurd n
to_bits-neg (inf true) n s = absurd (true≢false s)
to_bits-neg (inf false) n s = no_more (2 ^ 63) inf_bits
to_bits-neg (fin true m e) n s = absurd (true≢false s)
to_bits-neg (fin false m e) n s = regroup (2 ^ 63) _ _

pub neg-bare : (x : Float) → sign x ≡ true → x ≡ neg (bare x)
unfolding neg
neg-bare nan s = refl
neg-bare (inf true) s = refl
neg-bare (inf false) s = absurd (true≢false (sym s))
neg-bare (fin true m e) s = refl
neg-bare (fin false m e) s = absurd (true≢false (sym s))

pub same-bare : (x : Float) → sign x ≡ false → x ≡ bare x
same-bare nan s = refl
same-bare (inf true) s = absurd (true≢false s)
same-bare (inf false) s = refl
same-bare (fin true m e) s = absurd (true≢false s)
same-bare (fin false m e) s = refl

-- ---- the order, on the values' side
module _ (x y : Float) (F : T (fits binary64 x)) (G : T (fits binary64 y)) (f : T (finite x)) (g : T (finite y)) (s : sign x ≡ false) (t : sign y ≡ false) where
  pub lt→to_bits : T (lt x y) → to_bits binary64 x < to_bits binary64 y
  lt→to_bits h =
      bits-lt-back (to_bits binary64 x) (to_bits binary64 y) (to_bits-finite x F f s) (to_bits-finite y G g t)
      (subst (λ (v : Float). T (lt v (of_bits binary64 (to_bits binary64 y)))) (sym (of_bits-to_bits binary64 x F)) (subst (λ (v : Float). T (lt x v)) (sym (of_bits-to_bits binary64 y G)) h))

-- what lies between two patterns' values has a pattern between them
positive-sign : (x : Float) → T (positive x) → sign x ≡ false
positive-sign nan p = absurd p
positive-sign (inf s) p = absurd p
positive-sign (fin true m e) p = absurd p
positive-sign (fin false m e) p = refl

pub bits_positive : (b : ℕ) → 0 < b → b < inf_bits → T (positive (of_bits binary64 b))
bits_positive b h k = positive_of_value (of_bits binary64 b) (units_of b) (2 ^ 1074) (bits-value b k) (units_lt 0 b h)

under : (x y : Float) → T (finite y) → T (above x) → T (le x y) → T (positive x)
unfolding le
under nan y f a h = absurd a
under (inf true) y f a h = absurd a
under (inf false) nan f a h = absurd f
under (inf false) (inf t) f a h = absurd f
under (inf false) (fin t n d) f a h = absurd h
under (fin true m e) y f a h = absurd a
under (fin false m e) y f a h = a

pub bits-between : (b c : ℕ) (x : Float) → 0 < b → b < inf_bits → c < inf_bits → T (fits binary64 x) → T (le (of_bits binary64 b) x) → T (le x (of_bits binary64 c))
    → (b ≤ to_bits binary64 x) × (to_bits binary64 x ≤ c)
bits-between b c x B h k F l u =
    let b-pos = bits_positive b B h in
    let c-fin = bits-finite c k in
    let p : T (positive x) = under x (of_bits binary64 c) c-fin (above_of_le (of_bits binary64 b) x b-pos l) u in
    let s = positive-sign x p in
    let f = positive-finite x p in
    let v = to_bits-finite x F f s in
    let e = of_bits-to_bits binary64 x F in (
      bits-le-back b (to_bits binary64 x) h v (subst (λ (y : Float). T (le (of_bits binary64 b) y)) (sym e) l),
      bits-le-back (to_bits binary64 x) c v k (subst (λ (y : Float). T (le y (of_bits binary64 c))) (sym e) u),
    )

-- ---- k more in the exponent's field is 2 ^ k times the number
-- ---- a binade: with k more than the pattern of 2 ^ E, k steps of 2 ^ (E - 52) more
pub binade-down : (j k : ℕ) → j < 1075 → k < 2 ^ 52 → HasValue (of_bits binary64 ((1075 - j) * 2 ^ 52 + k)) false (2 ^ 52 + k) (2 ^ j)
binade-down j k h u =
    value_same (of_bits binary64 ((1075 - j) * 2 ^ 52 + k)) false (field_units (1075 - j) k) (2 ^ 1074) (2 ^ 52 + k) (2 ^ j) (pow_pos 1074)
    (ap (λ (x : ℕ). field_units x k * 2 ^ j) (pred j h) ∙ mul_assoc (2 ^ 52 + k) (2 ^ (1074 - j)) (2 ^ j) ∙ ap (λ (z : ℕ). (2 ^ 52 + k) * z) (sym (pow-add 2 (1074 - j) j) ∙ ap (λ (z : ℕ). 2 ^ z) (whole j h)))
    (pattern-value (1075 - j) k (in_field j) u)
  where
    pred : (j : ℕ) → j < 1075 → 1075 - j ≡ suc (1074 - j)
    pred j h = omega arith

    whole : (j : ℕ) → j < 1075 → 1074 - j + j ≡ 1074
    whole j h = omega arith

    in_field : (j : ℕ) → 1075 - j < 2047
    in_field j = omega arith

-- q steps of 2 ^ j units, where q has the leading digit; at q = 2 ^ 53 the next binade starts
pub units-steps : (j q : ℕ) → 2 ^ 52 ≤ q → q ≤ 2 ^ 53 → units_of (j * 2 ^ 52 + q) ≡ q * 2 ^ j
units-steps j q l u = elim (eq-or-lt_of_le u) [
  | inl e ↦
      ap (λ (b : ℕ). units_of b) (next j q e)
      ∙ units-at (suc (suc j)) 0 (pow_pos 52)
      ∙ ap (λ (z : ℕ). (2 ^ 52 + 0) * z) (pow-succ' 2 j)
      ∙ sym (mul_assoc (2 ^ 52 + 0) 2 (2 ^ j))
      ∙ ap (λ (z : ℕ). z * 2 ^ j) (sym e)
  | inr h ↦ ap (λ (b : ℕ). units_of b) (here j q l) ∙ units-at (suc j) (q - 2 ^ 52) (rest q h) ∙ ap (λ (z : ℕ). z * 2 ^ j) (whole q l)
]
  where
    next : (j q : ℕ) → q ≡ 2 ^ 53 → j * 2 ^ 52 + q ≡ suc (suc j) * 2 ^ 52 + 0
    next j q e = omega arith

    here : (j q : ℕ) → 2 ^ 52 ≤ q → j * 2 ^ 52 + q ≡ suc j * 2 ^ 52 + (q - 2 ^ 52)
    here j q l = omega arith

    rest : (q : ℕ) → q < 2 ^ 53 → q - 2 ^ 52 < 2 ^ 52
    rest q h = omega arith

    whole : (q : ℕ) → 2 ^ 52 ≤ q → 2 ^ 52 + (q - 2 ^ 52) ≡ q
    whole q l = omega arith

-- the whole numbers from 2 ^ 52 to 2 ^ 53: 0x4330000000000000 is the pattern of 2 ^ 52
pub whole-pattern : (k : ℕ) → k < 2 ^ 52 → HasValue (of_bits binary64 (0x4330000000000000 + k)) false (2 ^ 52 + k) 1
whole-pattern k h = binade-down 0 k (lit< tt) h

-- ---- the 27 low digits cut off: 26 leading digits stay
abbrev pub cut : ℕ → ℕ
cut b = b - b % 2 ^ 27

pub cut-le : (b : ℕ) → cut b ≤ b
cut-le b = omega arith

pub cut-neg : (b : ℕ) → cut (2 ^ 63 + b) ≡ 2 ^ 63 + cut b
cut-neg b = omega arith

pub cut-no-nan : (b : ℕ) → b % 2 ^ 63 ≤ inf_bits → T (not (nan_bits binary64 (cut b)))
cut-no-nan b h = bits-no-nan-sign (cut b) (less b h)
  where
    less : (b : ℕ) → b % 2 ^ 63 ≤ inf_bits → (b - b % 2 ^ 27) % 2 ^ 63 ≤ inf_bits
    less b h = omega arith

back : (x : ℕ) → suc x - 1 ≡ x
back x = omega arith

more : (x t r : ℕ) → field_units x (t + r) ≡ field_units x t + r * 2 ^ (x - 1)
more zero t r = ap (λ (n : ℕ). t + n) (sym (mul-one r))
more (suc x) t r = ap (λ (n : ℕ). n * 2 ^ x) (sym (add_assoc (2 ^ 52) t r)) ∙ add-mul (2 ^ 52 + t) r (2 ^ x) ∙ ap (λ (y : ℕ). (2 ^ 52 + t) * 2 ^ x + r * 2 ^ y) (sym (back x))
