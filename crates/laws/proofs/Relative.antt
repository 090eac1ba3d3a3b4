-- Relative error, in fractions of natural numbers: `Rat L U D a c b d` says that a / c lies between L / D and U / D times b / d, and `Near t s a c b d` that the two differ by t / s at most.
-- One rounding to nearest in the normal range is within one part in 2 ^ prec of its fraction, and everywhere within half a unit of the last digit; products, quotients, sums and chains follow.
-- A chain of operations ends in `rat-weaken`, whose two conditions are tests on literals. Assumes nothing.
use mathlib.Core.Path.{◌≡◌, refl, sym, ap, ◌∙◌, subst}
use mathlib.Core.Logic.{◌⊎◌, inl, inr}
use mathlib.Core.Bool.{Bool, true, false, not, cond, true≢false}
use Prim.Native.Nat.{ℕ, zero, suc, ◌+◌, ◌-◌, ◌*◌, ◌/◌, ◌%◌, ◌^◌, ◌≤◌, ◌<◌, compare, Ordering}
use native.Mathlib.Nat.{le_refl, le_trans, le_of_eq, lt_of_lt_of_le, lt_irrefl, not-le_of_lt, mul-one, mul_comm, mul_assoc, mul_left_comm, mul_right_comm, mul-pos, mul-le-mul, mul-le-mul_left, mul-le-mul_right, le_of_mul-le-mul_right, div-add-mod', mod-lt, le-div_iff_mul-le, div-lt_iff_lt-mul, eq-or-lt_of_le, add-suc, sub-add_cancel, mul-lt-mul_of_pos_right, pow-succ'}
use native.Mathlib.Omega.{arith}
use lib.Dec.{T, is_le, compare_is_eq, ltb, eqb, leb→le, nleb→lt, eqb→eq, eqb_refl, ltb→lt, lit<}
use lib.Arith.{lt_of_le-ne}
use lib.Pow.{pow-add, pow_pos, pow_mono, pow-lt, suc_ones}
use lib.Ieee.{Float, nan, inf, fin, Format, binary32, binary64, prec, emax, low, up, down, size, nearest, odd, units, round, sum, add, sub, mul, div, le}
use lib.Ieee.Digits.{size-le, size_reaches}
use lib.Ieee.Fits.{round_is, two, two-le_pos}
use lib.Ieee.Exact.{HasValue}
use lib.Ieee.Nearest.{closest}
use lib.Ieee.Order.{drop, kept, round_mono}
use lib.Ieee.Scale.{grid, finite, round_val, round_under, normal_of_fraction}
use lib.Ieee.Positive.{num, den, positive, den_pos, own_value, value→cross, value_pos, positive_of_value, first_pos}

pub record Rat (L U D a c b d : ℕ) : Type 0 where
  pub lower : L * (b * c) ≤ D * (a * d)
  pub upper : D * (a * d) ≤ U * (b * c)

pub record Near (t s a c b d : ℕ) : Type 0 where
  pub above : a * d * s ≤ b * c * s + t * (c * d)
  pub below : b * c * s ≤ a * d * s + t * (c * d)

-- ---- the algebra of Rat
pub rat-refl : (a c : ℕ) → Rat 1 1 1 a c a c
rat-refl a c = record { lower = le_refl (1 * (a * c)); upper = le_refl (1 * (a * c)) }

pub rat-of-eq : (a c b d : ℕ) → a * d ≡ b * c → Rat 1 1 1 a c b d
rat-of-eq a c b d e = record { lower = omega arith; upper = omega arith }

pub rat-mul : {L U D a c b d L' U' D' a' c' b' d' : ℕ} → Rat L U D a c b d → Rat L' U' D' a' c' b' d' → Rat (L * L') (U * U') (D * D') (a * a') (c * c') (b * b') (d * d')
rat-mul r s = record { lower = omega (arith, mul-le-mul r.lower s.lower); upper = omega (arith, mul-le-mul r.upper s.upper) }

-- a / c against b / d, and b / d against g / h
pub rat-trans : {L U D a c b d L' U' D' g h : ℕ} → 0 < d → Rat L U D a c b d → Rat L' U' D' b d g h → Rat (L * L') (U * U') (D * D') a c g h
rat-trans {L} {U} {D} {a} {c} {b} {d} {L'} {U'} {D'} {g} {h} p r s = record {
  lower =
      let lo : L * L' * (g * c) * d ≤ D * D' * (a * h) * d = omega (arith, mul-le-mul_right (D' * h) r.lower, mul-le-mul_right (L * c) s.lower) in
      le_of_mul-le-mul_right lo p;
  upper =
      let hi : D * D' * (a * h) * d ≤ U * U' * (g * c) * d = omega (arith, mul-le-mul_right (D' * h) r.upper, mul-le-mul_right (U * c) s.upper) in
      le_of_mul-le-mul_right hi p;
}

-- the conditions are tests where L, U, D and L', U', D' are literals: `rat-weaken (lit< tt) (lit≤ tt) (lit≤ tt) r`
pub rat-weaken : {L U D L' U' D' a c b d : ℕ} → 0 < D → L' * D ≤ L * D' → U * D' ≤ U' * D → Rat L U D a c b d → Rat L' U' D' a c b d
rat-weaken {L} {U} {D} {L'} {U'} {D'} {a} {c} {b} {d} p l u r = record {
  lower =
      let lo : L' * (b * c) * D ≤ D' * (a * d) * D = omega (arith, mul-le-mul_right (b * c) l, mul-le-mul_right D' r.lower) in
      le_of_mul-le-mul_right lo p;
  upper =
      let hi : D' * (a * d) * D ≤ U' * (b * c) * D = omega (arith, mul-le-mul_right (b * c) u, mul-le-mul_right D' r.upper) in
      le_of_mul-le-mul_right hi p;
}

-- the sums of two pairs with the same bounds
pub rat-add : {L U D a c b d a' c' b' d' : ℕ} → Rat L U D a c b d → Rat L U D a' c' b' d' → Rat L U D (a * c' + a' * c) (c * c') (b * d' + b' * d) (d * d')
rat-add {L} {U} {D} {a} {c} {b} {d} {a'} {c'} {b'} {d'} r s = record {
  lower = omega (arith, mul-le-mul_right (c' * d') r.lower, mul-le-mul_right (c * d) s.lower);
  upper = omega (arith, mul-le-mul_right (c' * d') r.upper, mul-le-mul_right (c * d) s.upper);
}

-- other fractions of the same values
pub rat-left : {L U D a c b d : ℕ} (a' c' : ℕ) → 0 < c → a' * c ≡ a * c' → Rat L U D a c b d → Rat L U D a' c' b d
rat-left {L} {U} {D} {a} {c} {b} {d} a' c' p e r = record {
  lower =
      let lo : L * (b * c') * c ≤ D * (a' * d) * c = omega (arith, mul-le-mul_right c' r.lower, ap (λ (z : ℕ). z * (D * d)) e) in
      le_of_mul-le-mul_right lo p;
  upper =
      let hi : D * (a' * d) * c ≤ U * (b * c') * c = omega (arith, mul-le-mul_right c' r.upper, ap (λ (z : ℕ). z * (D * d)) e) in
      le_of_mul-le-mul_right hi p;
}

pub rat-right : {L U D a c b d : ℕ} (b' d' : ℕ) → 0 < d → b' * d ≡ b * d' → Rat L U D a c b d → Rat L U D a c b' d'
rat-right {L} {U} {D} {a} {c} {b} {d} b' d' p e r = record {
  lower =
      let lo : L * (b' * c) * d ≤ D * (a * d') * d = omega (arith, mul-le-mul_right d' r.lower, ap (λ (z : ℕ). z * (L * c)) e) in
      le_of_mul-le-mul_right lo p;
  upper =
      let hi : D * (a * d') * d ≤ U * (b' * c) * d = omega (arith, mul-le-mul_right d' r.upper, ap (λ (z : ℕ). z * (U * c)) e) in
      le_of_mul-le-mul_right hi p;
}

-- ---- what Rat says of an order: from b / d ≤ p / q, or p / q ≤ b / d
pub rat-le : {L U D a c b d : ℕ} (p q : ℕ) → 0 < d → Rat L U D a c b d → b * q ≤ p * d → a * (D * q) ≤ U * p * c
rat-le {L} {U} {D} {a} {c} {b} {d} p q P r h =
    let k : a * (D * q) * d ≤ U * p * c * d = omega (arith, mul-le-mul_right q r.upper, mul-le-mul_right (U * c) h) in
    le_of_mul-le-mul_right k P

pub rat-ge : {L U D a c b d : ℕ} (p q : ℕ) → 0 < d → Rat L U D a c b d → p * d ≤ b * q → L * p * c ≤ a * (D * q)
rat-ge {L} {U} {D} {a} {c} {b} {d} p q P r h =
    let k : L * p * c * d ≤ a * (D * q) * d = omega (arith, mul-le-mul_right q r.lower, mul-le-mul_right (L * c) h) in
    le_of_mul-le-mul_right k P

-- ---- a fraction n / u to the nearest whole number is within a half of it
abbrev Cmp : Ordering → ℕ → ℕ → Type 0
Cmp Ordering.lt a b = a < b
Cmp Ordering.eq a b = a ≡ b
Cmp Ordering.gt a b = b < a

cmp : (a b : ℕ) → Cmp (compare a b) a b
cmp a b = go (compare a b) (leb→le a b) (nleb→lt a b) (eqb→eq a b) (λ (e : a ≡ b). subst (λ (x : ℕ). T (eqb a x)) e (eqb_refl a))
  where
    go : (o : Ordering) → (T (is_le o) → a ≤ b) → (T (not (is_le o)) → b < a) → (T (compare_is_eq o) → a ≡ b) → (a ≡ b → T (compare_is_eq o)) → Cmp o a b
    go Ordering.lt h k e n = lt_of_le-ne (h tt) n
    go Ordering.eq h k e n = e tt
    go Ordering.gt h k e n = k tt

abbrev pub Half : ℕ → ℕ → ℕ → Type 0
Half q n u = (2 * (q * u) ≤ 2 * n + u) × (2 * n ≤ 2 * (q * u) + u)

at-tie : (w t r u : ℕ) → t ≤ 1 → r * 2 ≡ u → Half (w + t) (w * u + r) u
at-tie w t r u h e = omega (arith, mul-le-mul_right u h)

bit : (w : ℕ) → w % 2 ≤ 1
bit w = omega arith

nearest-half : (o : Ordering) (w r u : ℕ) → Cmp o (r * 2) u → r < u → Half (nearest w o) (w * u + r) u
nearest-half Ordering.lt w r u c h = omega arith
nearest-half Ordering.eq w r u c h = at-tie w (w % 2) r u (bit w) c
nearest-half Ordering.gt w r u c h = omega arith

pub closest-half : (n u : ℕ) → 0 < u → Half (closest n u) n u
closest-half n u p = subst (λ (x : ℕ). Half (closest n u) x u) (div-add-mod' n u) (nearest-half (compare (n % u * 2) u) (n / u) (n % u) u (cmp (n % u * 2) u) (mod-lt n p))

-- ---- the normal range: from the smallest normal value, 2 ^ (1 - emax), up to the largest finite one
abbrev pub Normal : Format → ℕ → ℕ → Type 0
Normal f a c = c ≤ a * 2 ^ (emax f - 1)

abbrev pub largest : Format → ℕ
largest f = (2 ^ prec f - 1) * 2 ^ (suc (emax f) - prec f)

low-is : (f : Format) → prec f - 1 + (emax f - 1) ≡ low f
low-is binary32 = refl
low-is binary64 = refl

normal-digits : (f : Format) (a c : ℕ) → 0 < c → Normal f a c → prec f ≤ size (a * 2 ^ low f / c)
normal-digits f a c C h =
    normal_of_fraction f a c C
    (le_trans (mul-le-mul_left (2 ^ (prec f - 1)) h)
    (le_of_eq (mul_left_comm (2 ^ (prec f - 1)) a (2 ^ (emax f - 1)) ∙ ap (λ (z : ℕ). a * z) (sym (pow-add 2 (prec f - 1) (emax f - 1)) ∙ ap (λ (z : ℕ). 2 ^ z) (low-is f)))))

-- ---- the values that are finite with no minus sign: zero, and those that are `positive`
abbrev pub nonnegative : Float → Bool
nonnegative nan = false
nonnegative (inf s) = false
nonnegative (fin true m e) = false
nonnegative (fin false m e) = true

pub positive-nonnegative : (x : Float) → T (positive x) → T (nonnegative x)
positive-nonnegative nan p = p
positive-nonnegative (inf s) p = p
positive-nonnegative (fin true m e) p = p
positive-nonnegative (fin false m e) p = tt

pub nonnegative-finite : (x : Float) → T (nonnegative x) → T (finite x)
nonnegative-finite nan p = p
nonnegative-finite (inf s) p = p
nonnegative-finite (fin s m e) p = tt

pub nonnegative-value : (x : Float) → T (nonnegative x) → HasValue x false (num x) (den x)
nonnegative-value nan p = p
nonnegative-value (inf s) p = p
nonnegative-value (fin true m e) p = absurd p
nonnegative-value (fin false m e) p = (refl, refl)

pub nonnegative-of-value : (x : Float) (a c : ℕ) → HasValue x false a c → T (nonnegative x)
nonnegative-of-value nan a c h = h
nonnegative-of-value (inf s) a c h = h
nonnegative-of-value (fin true m e) a c h = true≢false h.0
nonnegative-of-value (fin false m e) a c h = tt

pub positive-num : (x : Float) → T (positive x) → 0 < num x
positive-num x p = value_pos x (num x) (den x) p (den_pos x) (own_value x p)

pub positive-of-num : (x : Float) → T (nonnegative x) → 0 < num x → T (positive x)
positive-of-num x p h = positive_of_value x (num x) (den x) (nonnegative-value x p) h

-- ---- what a rounded fraction is, if it is finite
odd-finite : (d q k l : ℕ) → T (finite (odd d false q k l))
unfolding odd
odd-finite d zero k l = tt
odd-finite d (suc q) k l = tt

top : (f : Format) → T (finite (round f false (largest f) 1))
unfolding round
top binary32 = tt
top binary64 = tt

round-value : (f : Format) (a c : ℕ) (z : Float) → z ≡ round f false a c → T (finite z) → HasValue z false (grid f a c) (2 ^ low f)
round-value f a c z e t = subst (λ (x : Float). HasValue x false (grid f a c) (2 ^ low f)) (sym e) (round_val f a c (round_under f a c (subst (λ (x : Float). T (finite x)) e t)))

pub round-nonnegative : (f : Format) (a c : ℕ) (z : Float) → z ≡ round f false a c → T (finite z) → T (nonnegative z)
round-nonnegative f a c z e t = nonnegative-of-value z (grid f a c) (2 ^ low f) (round-value f a c z e t)

units-shape : (f : Format) (q k : ℕ) → (units f false q k ≡ inf false) ⊎ T (finite (units f false q k))
unfolding units
units-shape f q k = go (ltb (q * 2 ^ k) (2 ^ (low f + suc (emax f))))
  where
    go : (b : Bool) → (cond b (odd (suc (prec f)) false q k (low f)) (inf false) ≡ inf false) ⊎ T (finite (cond b (odd (suc (prec f)) false q k (low f)) (inf false)))
    go true = inr (odd-finite (suc (prec f)) q k (low f))
    go false = inl refl

pub round-shape : (f : Format) (a c : ℕ) → (round f false a c ≡ inf false) ⊎ T (finite (round f false a c))
round-shape f a c = rw (round_is f false a c) (units-shape f (kept (prec f) (a * 2 ^ low f) c) (drop (prec f) (a * 2 ^ low f) c))

not-infinity : (y : Float) → T (finite y) → T (le (inf false) y) → ⊥
unfolding le
not-infinity nan t h = h
not-infinity (inf s) t h = t
not-infinity (fin s m e) t h = h

pub round-below : (f : Format) (a c : ℕ) (y : Float) → T (finite y) → T (le (round f false a c) y) → T (finite (round f false a c))
round-below f a c y t h = elim (round-shape f a c) [ inl e ↦ absurd (not-infinity y t (subst (λ (x : Float). T (le x y)) e h)) | inr u ↦ u ]

pub round-finite : (f : Format) (a c : ℕ) → 0 < c → a ≤ largest f * c → T (finite (round f false a c))
round-finite f a c C h = round-below f a c (round f false (largest f) 1) (top f) (round_mono f a c (largest f) 1 C (lit< tt) (le_trans (le_of_eq (mul-one a)) h))

-- ---- one rounding in the normal range: one part in 2 ^ prec
-- P is 2 ^ prec, Q one less, and u the unit of the last digit kept: n is P / 2 units at least
units-near : (P Q n u q : ℕ) → suc Q ≡ P → P * u ≤ 2 * n → Half q n u → (Q * n ≤ P * (q * u)) × (P * (q * u) ≤ (P + 1) * n)
units-near P Q n u q e h g = omega (arith, mul-le-mul_left P g.0, mul-le-mul_left P g.1, ap (λ (z : ℕ). z * n) e)

-- the size of a number in the normal range, in units of its last digit
enough : (z p : ℕ) → 0 < p → p ≤ z → p - 1 + (z - p) < z
enough z p P h = omega arith

unit-small : (p n c : ℕ) → 0 < p → 0 < c → p ≤ size (n / c) → 2 ^ p * (c * 2 ^ drop p n c) ≤ 2 * n
unit-small p n c P C N =
    let k = drop p n c in
    let lo : 2 ^ (p - 1 + k) * c ≤ n = (le-div_iff_mul-le C).0 (size_reaches (n / c) (p - 1 + k) (enough (size (n / c)) p P N)) in
    let e : 2 ^ (p - 1 + k) ≡ 2 ^ (p - 1) * 2 ^ k = pow-add 2 (p - 1) k in
    let two_is : 2 ^ p ≡ 2 * 2 ^ (p - 1) = ap (λ (z : ℕ). 2 ^ z) (sym (split p P)) ∙ pow-add 2 1 (p - 1) in
    le_trans (le_of_eq (ap (λ (z : ℕ). z * (c * 2 ^ k)) two_is ∙ regroup (2 ^ (p - 1)) c (2 ^ k) ∙ ap (λ (z : ℕ). 2 * (z * c)) (sym e))) (mul-le-mul_left 2 lo)
  where
    split : (p : ℕ) → 0 < p → 1 + (p - 1) ≡ p
    split p h = omega arith

    regroup : (x c y : ℕ) → 2 * x * (c * y) ≡ 2 * (x * y * c)
    regroup x c y = omega arith

-- from n = a * l units, of which z is q * k, to the fractions
rat-of-units : (P Q a c l q k x d : ℕ) → 0 < l → x * l ≡ q * k * d → (Q * (a * l) ≤ P * (q * (c * k))) × (P * (q * (c * k)) ≤ (P + 1) * (a * l)) → Rat Q (P + 1) P x d a c
rat-of-units P Q a c l q k x d p e h = record {
  lower =
      let lo : Q * (a * d) * l ≤ P * (x * c) * l = omega (arith, mul-le-mul_right d h.0, ap (λ (z : ℕ). z * (P * c)) e) in
      le_of_mul-le-mul_right lo p;
  upper =
      let hi : P * (x * c) * l ≤ (P + 1) * (a * d) * l = omega (arith, mul-le-mul_right d h.1, ap (λ (z : ℕ). z * (P * c)) e) in
      le_of_mul-le-mul_right hi p;
}

-- one part in 2 ^ prec: 2 ^ 53 for binary64
abbrev pub Close : Format → ℕ → ℕ → ℕ → ℕ → Type 0
Close f a c b d = Rat (2 ^ prec f - 1) (2 ^ prec f + 1) (2 ^ prec f) a c b d

round-near : (f : Format) (a c : ℕ) (z : Float) → 0 < c → prec f ≤ size (a * 2 ^ low f / c) → z ≡ round f false a c → T (finite z) → Close f (num z) (den z) a c
round-near f a c z C N e t =
    let n = a * 2 ^ low f in
    let k = drop (prec f) n c in
    let u = c * 2 ^ k in
    let q = kept (prec f) n c in
    rat-of-units (2 ^ prec f) (2 ^ prec f - 1) a c (2 ^ low f) q (2 ^ k) (num z) (den z) (pow_pos (low f)) (value→cross z (grid f a c) (2 ^ low f) (round-value f a c z e t))
    (units-near (2 ^ prec f) (2 ^ prec f - 1) n u q (suc_ones (prec f)) (unit-small (prec f) n c (two-le_pos (prec f) (two f)) C N) (closest-half n u (mul-pos C (pow_pos k))))

pub round-close : (f : Format) (a c : ℕ) (z : Float) → 0 < c → Normal f a c → z ≡ round f false a c → T (finite z) → Close f (num z) (den z) a c
round-close f a c z C N e t = round-near f a c z C (normal-digits f a c C N) e t

-- a fraction in the normal range does not round to zero
num-above : (Q P a c x d : ℕ) → 0 < Q → 0 < a → 0 < d → Q * (a * d) ≤ P * (x * c) → 0 < x
num-above Q P a c x d q A D h = first_pos x c (second-pos P (x * c) (lt_of_lt_of_le (mul-pos q (mul-pos A D)) h))
  where
    second-pos : (n u : ℕ) → 0 < n * u → 0 < u
    second-pos n u g = first_pos u n (subst (λ (k : ℕ). 0 < k) (mul_comm n u) g)

pub ones_pos : (f : Format) → 0 < 2 ^ prec f - 1
ones_pos binary32 = lit< tt
ones_pos binary64 = lit< tt

pub round-positive : (f : Format) (a c : ℕ) (z : Float) → 0 < c → Normal f a c → z ≡ round f false a c → T (finite z) → T (positive z)
round-positive f a c z C N e t =
    positive-of-num z (round-nonnegative f a c z e t)
    (num-above (2 ^ prec f - 1) (2 ^ prec f) a c (num z) (den z) (ones_pos f) (first_pos a (2 ^ (emax f - 1)) (lt_of_lt_of_le C N)) (den_pos z) (round-close f a c z C N e t).lower)

-- ---- the operations on values with no minus sign, as rounded fractions
pub mul-round : (f : Format) (x y : Float) → T (nonnegative x) → T (nonnegative y) → mul f x y ≡ round f false (num x * num y) (den x * den y)
unfolding mul
mul-round f nan y p q = absurd p
mul-round f (inf s) y p q = absurd p
mul-round f (fin true m e) y p q = absurd p
mul-round f (fin false m e) nan p q = absurd q
mul-round f (fin false m e) (inf t) p q = absurd q
mul-round f (fin false m e) (fin true n d) p q = absurd q
mul-round f (fin false m e) (fin false n d) p q = refl

pub add-round : (f : Format) (x y : Float) → T (nonnegative x) → T (nonnegative y) → add f x y ≡ round f false (num x * den y + num y * den x) (den x * den y)
unfolding add sum
add-round f nan y p q = absurd p
add-round f (inf s) y p q = absurd p
add-round f (fin true m e) y p q = absurd p
add-round f (fin false m e) nan p q = absurd q
add-round f (fin false m e) (inf t) p q = absurd q
add-round f (fin false m e) (fin true n d) p q = absurd q
add-round f (fin false m e) (fin false n d) p q = refl

-- the divisor is above zero
pub div-round : (f : Format) (x y : Float) → T (nonnegative x) → T (positive y) → div f x y ≡ round f false (num x * den y) (num y * den x)
unfolding div
div-round f nan y p q = absurd p
div-round f (inf s) y p q = absurd p
div-round f (fin true m e) y p q = absurd p
div-round f (fin false m e) nan p q = absurd q
div-round f (fin false m e) (inf t) p q = absurd q
div-round f (fin false m e) (fin true n d) p q = absurd q
div-round f (fin false m e) (fin false n d) p q = go (eqb n 0) (eqb→eq n 0)
  where
    go : (b : Bool) → (T b → n ≡ 0) → cond b (cond (eqb m 0) nan (inf false)) (round f false (m * up e * down d) (n * up d * down e)) ≡ round f false (m * up e * down d) (n * up d * down e)
    go true h = absurd (lt_irrefl 0 (subst (λ (k : ℕ). 0 < k) (h tt) (ltb→lt 0 n q)))
    go false h = refl

-- the difference of a value and one no larger
pick : (f : Format) (a b c : ℕ) → b ≤ a → sum f false a true b c ≡ round f false (a - b) c
unfolding sum
pick f a b c h = go (ltb a b) (ltb→lt a b)
  where
    go : (t : Bool) → (T t → a < b) → cond t (round f true (b - a) c) (round f false (a - b) c) ≡ round f false (a - b) c
    go true k = absurd (not-le_of_lt (k tt) h)
    go false k = refl

pub sub-round : (f : Format) (x y : Float) → T (nonnegative x) → T (nonnegative y) → num y * den x ≤ num x * den y → sub f x y ≡ round f false (num x * den y - num y * den x) (den x * den y)
unfolding sub
sub-round f nan y p q h = absurd p
sub-round f (inf s) y p q h = absurd p
sub-round f (fin true m e) y p q h = absurd p
sub-round f (fin false m e) nan p q h = absurd q
sub-round f (fin false m e) (inf t) p q h = absurd q
sub-round f (fin false m e) (fin true n d) p q h = absurd q
sub-round f (fin false m e) (fin false n d) p q h = pick f (m * up e * down d) (n * up d * down e) (down e * down d) h

-- ---- one operation in the normal range
abbrev Rounded : Format → Float → ℕ → ℕ → Type 0
Rounded f z a c = T (positive z) × Close f (num z) (den z) a c

rounded : (f : Format) (a c : ℕ) (z : Float) → 0 < c → z ≡ round f false a c → Normal f a c → T (finite z) → Rounded f z a c
rounded f a c z C e N t = (round-positive f a c z C N e t, round-close f a c z C N e t)

under : (f : Format) (a c : ℕ) (z : Float) → 0 < c → z ≡ round f false a c → a ≤ largest f * c → T (finite z)
under f a c z C e h = subst (λ (x : Float). T (finite x)) (sym e) (round-finite f a c C h)

module _ (f : Format) (x y : Float) (p : T (positive x)) (q : T (positive y)) where
  dens : 0 < den x * den y
  dens = mul-pos (den_pos x) (den_pos y)

  cross : 0 < num y * den x
  cross = mul-pos (positive-num y q) (den_pos x)

  mul-eq : mul f x y ≡ round f false (num x * num y) (den x * den y)
  mul-eq = mul-round f x y (positive-nonnegative x p) (positive-nonnegative y q)

  add-eq : add f x y ≡ round f false (num x * den y + num y * den x) (den x * den y)
  add-eq = add-round f x y (positive-nonnegative x p) (positive-nonnegative y q)

  div-eq : div f x y ≡ round f false (num x * den y) (num y * den x)
  div-eq = div-round f x y (positive-nonnegative x p) q

  pub mul-finite : num x * num y ≤ largest f * (den x * den y) → T (finite (mul f x y))
  mul-finite h = under f (num x * num y) (den x * den y) (mul f x y) dens mul-eq h

  pub add-finite : num x * den y + num y * den x ≤ largest f * (den x * den y) → T (finite (add f x y))
  add-finite h = under f (num x * den y + num y * den x) (den x * den y) (add f x y) dens add-eq h

  pub div-finite : num x * den y ≤ largest f * (num y * den x) → T (finite (div f x y))
  div-finite h = under f (num x * den y) (num y * den x) (div f x y) cross div-eq h

  pub mul-close : Normal f (num x * num y) (den x * den y) → T (finite (mul f x y)) → T (positive (mul f x y)) × Close f (num (mul f x y)) (den (mul f x y)) (num x * num y) (den x * den y)
  mul-close N t = rounded f (num x * num y) (den x * den y) (mul f x y) dens mul-eq N t

  pub add-close : Normal f (num x * den y + num y * den x) (den x * den y) → T (finite (add f x y)) → T (positive (add f x y)) × Close f (num (add f x y)) (den (add f x y)) (num x * den y + num y * den x) (den x * den y)
  add-close N t = rounded f (num x * den y + num y * den x) (den x * den y) (add f x y) dens add-eq N t

  pub div-close : Normal f (num x * den y) (num y * den x) → T (finite (div f x y)) → T (positive (div f x y)) × Close f (num (div f x y)) (den (div f x y)) (num x * den y) (num y * den x)
  div-close N t = rounded f (num x * den y) (num y * den x) (div f x y) cross div-eq N t

-- ---- the range, from a fraction b / d that a / c is close to
pub normal-of-rat : (f : Format) {L U D a c b d : ℕ} → 0 < D → 0 < d → Rat L U D a c b d → D * d ≤ L * b * 2 ^ (emax f - 1) → Normal f a c
normal-of-rat f {L} {U} {D} {a} {c} {b} {d} P Q r h =
    let E = 2 ^ (emax f - 1) in
    let k : c * (D * d) ≤ a * E * (D * d) = omega (arith, mul-le-mul_right c h, mul-le-mul_right E r.lower) in
    le_of_mul-le-mul_right k (mul-pos P Q)

-- ---- the absolute error: half a unit of the last digit
-- a whole number of units that the fraction is: nothing is rounded
pub closest-exact : (q u : ℕ) → 0 < u → closest (q * u) u ≡ q
closest-exact q u p =
    let h = closest-half (q * u) u p in
    let m = closest (q * u) u in
    let x : 2 * m * u ≤ (2 * q + 1) * u = omega (arith, h.0) in
    let y : 2 * q * u ≤ (2 * m + 1) * u = omega (arith, h.1) in
    whole m q (le_of_mul-le-mul_right x p) (le_of_mul-le-mul_right y p)
  where
    whole : (m q : ℕ) → 2 * m ≤ 2 * q + 1 → 2 * q ≤ 2 * m + 1 → m ≡ q
    whole m q x y = omega arith

-- from units to the fractions: q * k units against a * l / c, with an error of w units at most
near-of-units : (a c l q k w x d t s : ℕ) → 0 < l → x * l ≡ q * k * d → 2 * (q * (c * k)) ≤ 2 * (a * l) + c * w → 2 * (a * l) ≤ 2 * (q * (c * k)) + c * w → w * s ≤ 2 * (t * l) → Near t s x d a c
near-of-units a c l q k w x d t s p e h g b = record {
  above =
      let j : x * c * s * (2 * l) ≤ (a * d * s + t * (d * c)) * (2 * l) = omega (arith, mul-le-mul_right (d * s) h, mul-le-mul_right (c * d) b, ap (λ (z : ℕ). z * (c * s)) e) in
      le_of_mul-le-mul_right j (mul-pos (lit< tt) p);
  below =
      let j : a * d * s * (2 * l) ≤ (x * c * s + t * (d * c)) * (2 * l) = omega (arith, mul-le-mul_right (d * s) g, mul-le-mul_right (c * d) b, ap (λ (z : ℕ). z * (c * s)) e) in
      le_of_mul-le-mul_right j (mul-pos (lit< tt) p);
}

drop_le : (p n c j : ℕ) → 0 < c → n < 2 ^ (p + j) * c → drop p n c ≤ j
drop_le p n c j C h = fewer (size (n / c)) p j (size-le (n / c) (p + j) ((div-lt_iff_lt-mul C).1 h))
  where
    fewer : (z p j : ℕ) → z ≤ p + j → z - p ≤ j
    fewer z p j h = omega arith

-- up to 2 ^ (p + j) units, the power itself included, the rounded number is within half of 2 ^ j units
half-units : (p n c j : ℕ) → 0 < p → 0 < c → n ≤ 2 ^ (p + j) * c
    → (2 * (kept p n c * (c * 2 ^ drop p n c)) ≤ 2 * n + c * 2 ^ j) × (2 * n ≤ 2 * (kept p n c * (c * 2 ^ drop p n c)) + c * 2 ^ j)
half-units p n c j P C h =
    elim (eq-or-lt_of_le h) [
      | inl e ↦ exact e
      | inr l ↦ smaller (kept p n c) n (c * 2 ^ drop p n c) (c * 2 ^ j) (closest-half n (c * 2 ^ drop p n c) (mul-pos C (pow_pos (drop p n c)))) (mul-le-mul_left c (pow_mono (drop_le p n c j C l)))
    ]
  where
    smaller : (q n u w : ℕ) → Half q n u → u ≤ w → (2 * (q * u) ≤ 2 * n + w) × (2 * n ≤ 2 * (q * u) + w)
    smaller q n u w g l = omega arith

    same : (x n w : ℕ) → x ≡ n → (2 * x ≤ 2 * n + w) × (2 * n ≤ 2 * x + w)
    same x n w e = omega arith

    back : (p j k : ℕ) → 0 < p → k ≤ suc j → p + j - k + k ≡ p + j
    back p j k P h = omega arith

    exact : n ≡ 2 ^ (p + j) * c → (2 * (kept p n c * (c * 2 ^ drop p n c)) ≤ 2 * n + c * 2 ^ j) × (2 * n ≤ 2 * (kept p n c * (c * 2 ^ drop p n c)) + c * 2 ^ j)
    exact e =
        let k = drop p n c in
        let k-le : k ≤ suc j = drop_le p n c (suc j) C (subst (λ (z : ℕ). z < 2 ^ (p + suc j) * c) (sym e) (mul-lt-mul_of_pos_right (pow-lt (le_of_eq (sym (add-suc p j)))) C)) in
        let m = 2 ^ (p + j - k) in
        let n-is : n ≡ m * (c * 2 ^ k) = e ∙ ap (λ (z : ℕ). z * c) (ap (λ (z : ℕ). 2 ^ z) (sym (back p j k P k-le)) ∙ pow-add 2 (p + j - k) k) ∙ mul_right_comm m (2 ^ k) c ∙ mul_assoc m c (2 ^ k) in
        same (kept p n c * (c * 2 ^ k)) n (c * 2 ^ j) (ap (λ (z : ℕ). closest z (c * 2 ^ k) * (c * 2 ^ k)) n-is ∙ ap (λ (z : ℕ). z * (c * 2 ^ k)) (closest-exact m (c * 2 ^ k) (mul-pos C (pow_pos k))) ∙ sym n-is)

-- a / c ≤ 2 ^ (e + 1 - s): the rounded value is within 2 ^ (e - s - prec). The first condition says that this is half of the format's smallest value at least
pub round-half : (f : Format) (a c e s : ℕ) (z : Float) → 0 < c → prec f + s ≤ low f + suc e → a * 2 ^ s ≤ 2 ^ suc e * c → z ≡ round f false a c → T (finite z) → Near (2 ^ e) (2 ^ (prec f + s)) (num z) (den z) a c
round-half f a c e s z C B h eq t =
    let p = prec f in
    let l = 2 ^ low f in
    let n = a * l in
    let j = low f + suc e - (p + s) in
    let k = drop p n c in
    let j-is : j + (p + s) ≡ low f + suc e = sub-add_cancel B in
    let pow-is : 2 ^ j * 2 ^ (p + s) ≡ 2 * (2 ^ e * l) = sym (pow-add 2 j (p + s)) ∙ ap (λ (x : ℕ). 2 ^ x) j-is ∙ pow-add 2 (low f) (suc e) ∙ ap (λ (x : ℕ). l * x) (pow-succ' 2 e) ∙ turn l (2 ^ e) in
    let n-le : n ≤ 2 ^ (p + j) * c =
    le_of_mul-le-mul_right
    (le_trans (le_of_eq (mul_right_comm a l (2 ^ s)))
    (le_trans (mul-le-mul_right l h)
    (le_of_eq (mul_right_comm (2 ^ suc e) c l ∙ ap (λ (x : ℕ). x * c) (mul_comm (2 ^ suc e) l ∙ sym (pow-add 2 (low f) (suc e)) ∙ ap (λ (x : ℕ). 2 ^ x) (sym j-is ∙ shift j p s) ∙ pow-add 2 (p + j) s) ∙ mul_right_comm (2 ^ (p + j)) (2 ^ s) c))))
    (pow_pos s) in
    let g = half-units p n c j (two-le_pos p (two f)) C n-le in
    near-of-units a c l (kept p n c) (2 ^ k) (2 ^ j) (num z) (den z) (2 ^ e) (2 ^ (p + s)) (pow_pos (low f)) (value→cross z (grid f a c) l (round-value f a c z eq t)) g.0 g.1 (le_of_eq pow-is)
  where
    turn : (l x : ℕ) → l * (2 * x) ≡ 2 * (x * l)
    turn l x = omega arith

    shift : (j p s : ℕ) → j + (p + s) ≡ p + j + s
    shift j p s = omega arith
