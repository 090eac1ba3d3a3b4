-- Sizes between powers of two, further: what is smaller is bounded by the same power, a sum of what is not negative is bounded from below by each part,
-- the leading 26 digits are no larger than the number, and each number has its binade. Assumes nothing.
use mathlib.Core.Path.{◌≡◌, refl, sym, ap, ◌∙◌, subst}
use Prim.Native.Nat.{ℕ, zero, suc, ◌+◌, ◌*◌, ◌/◌, ◌^◌, ◌≤◌, ◌<◌, zero-le}
use native.Mathlib.Nat.{le_trans, le_of_eq, le_of_lt, lt_of_le_of_lt, lt_of_lt_of_le, lt_irrefl, mul-pos, mul_assoc, mul_right_comm, zero-mul, le-add_right, mul-le-mul_right, le_of_mul-le-mul_right, lt_of_not-le, lt-suc_self, le-div_iff_mul-le, div-lt_iff_lt-mul, div-mul-le_self}
use native.Mathlib.Omega.{arith}
use mathlib.Core.Bool.{Bool, true, false, cond}
use lib.Dec.{T, lit<}
use lib.Pow.{pow_mono, pow-lt}
use lib.Ieee.{Float, nan, inf, fin, binary64, size, neg, add, of_bits, to_bits, fits, le}
use lib.Ieee.Digits.{size-lt, size_reaches}
use lib.Ieee.Exact.{HasValue}
use lib.Ieee.Scale.{finite}
use lib.Ieee.Positive.{num, den, den_pos, positive, positive-finite, value→cross}
use Rattle.laws.proofs.Value.{sign, bare, value-finite, finite-no-nan}
use Rattle.laws.proofs.Relative.{positive-num}
use Rattle.laws.proofs.Order.{nought, pos_part, neg_part, nonneg, Rounds, plus, less, add_rounds}
use Rattle.laws.proofs.Bits.{inf_bits, units_of, bits-value, to_bits-finite, to_bits-value, to_bits-sign, bare-fits, bare-finite, bare-sign, units-le, cut, cut-le, cut-neg, of_bits-neg}
use Rattle.laws.proofs.Mag.{Mag, AtLeast, Under, Over, mag-neg, mag-value, mag-between, at-least-round}

-- ---- by the order
nought-size : (n : ℕ) → Mag binary64 n nought
nought-size n = mag-value false 0 1 (lit< tt) (refl, refl) (le_trans (le_of_eq (zero-mul (2 ^ 1074))) zero-le)

pub mag-below : {n : ℕ} {y : Float} (x : Float) → Mag binary64 n y → T (le nought x) → T (le x y) → Mag binary64 n x
mag-below {n} x m p h = mag-between p h (nought-size n) m

-- ---- a sum of what is not negative
num_of : (x : Float) → neg_part x ≡ 0 → num x ≡ pos_part x
num_of nan h = refl
num_of (inf s) h = refl
num_of (fin false m e) h = refl
num_of (fin true m e) h = h

no_minus : (x : Float) → T (positive x) → neg_part x ≡ 0
no_minus nan p = absurd p
no_minus (inf s) p = absurd p
no_minus (fin true m e) p = absurd p
no_minus (fin false m e) p = refl

pub at-least-add : {n : ℕ} {x : Float} (y : Float) → AtLeast binary64 n x → T (positive x) → T (finite y) → T (le nought y) → n ≤ 2097 → T (finite (add binary64 x y)) → AtLeast binary64 n (add binary64 x y)
unfolding Over
at-least-add {n} {x} y m p f h N g = go (add_rounds binary64 x y (positive-finite x p) f)
  where
    c : ℕ
    c = den x * den y

    none : neg_part x * den y + neg_part y * den x ≡ 0
    none = rw (no_minus x p, nonneg y f h, zero-mul (den y), zero-mul (den x)) refl

    part : num x * den y ≤ pos_part x * den y + pos_part y * den x
    part = rw (num_of x (no_minus x p)) (le-add_right (pos_part x * den y) (pos_part y * den x))

    big : (a : ℕ) → num x * den y ≤ a → 2 ^ n * c ≤ a * 2 ^ 1074
    big a k =
        le_trans (le_of_eq (sym (mul_assoc (2 ^ n) (den x) (den y))))
        (le_trans (mul-le-mul_right (den y) m.over) (le_trans (le_of_eq (mul_right_comm (num x) (2 ^ 1074) (den y))) (mul-le-mul_right (2 ^ 1074) k)))

    zeros : (a b z : ℕ) → z ≡ 0 → a + b ≡ z → b ≤ 0
    zeros a b z e k = omega arith

    whole : (a b z : ℕ) → z ≡ 0 → a + z ≡ b → b ≤ a
    whole a b z e k = omega arith

    go : Rounds binary64 (pos_part x * den y + pos_part y * den x) (neg_part x * den y + neg_part y * den x) c (add binary64 x y) → AtLeast binary64 n (add binary64 x y)
    go (plus a e z) =
        subst (λ (v : Float). AtLeast binary64 n v) (sym z)
        (at-least-round false a c (mul-pos (den_pos x) (den_pos y)) (big a (le_trans part (whole a (pos_part x * den y + pos_part y * den x) (neg_part x * den y + neg_part y * den x) none e))) N (subst (λ (v : Float). T (finite v)) z g))
    go (less a e z) =
        absurd (lt_irrefl 0 (lt_of_lt_of_le (mul-pos (positive-num x p) (den_pos y)) (le_trans part (zeros a (pos_part x * den y + pos_part y * den x) (neg_part x * den y + neg_part y * den x) none e))))

-- ---- the leading digits
cut_float : Float → Float
cut_float x = of_bits binary64 (cut (to_bits binary64 x))

units_under : {n : ℕ} (x : Float) (u : ℕ) → HasValue x false u (2 ^ 1074) → Mag binary64 n x → u ≤ 2 ^ n
unfolding Under
units_under {n} x u v m = le_of_mul-le-mul_right (le_trans (le_of_eq (sym (value→cross x u (2 ^ 1074) v))) m.under) (den_pos x)

under-units : (n : ℕ) (x : Float) (u : ℕ) → HasValue x false u (2 ^ 1074) → u ≤ 2 ^ n → Mag binary64 n x
unfolding Under
under-units n x u v h = record {
  fine = value-finite x false u (2 ^ 1074) v;
  under = le_trans (le_of_eq (value→cross x u (2 ^ 1074) v)) (mul-le-mul_right (den x) h);
}

cut-plus : {n : ℕ} (x : Float) → T (fits binary64 x) → sign x ≡ false → Mag binary64 n x → Mag binary64 n (cut_float x)
unfolding cut_float
cut-plus {n} x F s m =
    let b = to_bits binary64 x in
    let h = to_bits-finite x F m.fine s in
    under-units n (of_bits binary64 (cut b)) (units_of (cut b)) (bits-value (cut b) (lt_of_le_of_lt (cut-le b) h))
    (le_trans (units-le (cut b) b (cut-le b)) (units_under x (units_of b) (to_bits-value x F m.fine s) m))

mag-bare : {n : ℕ} (x : Float) → Mag binary64 n x → Mag binary64 n (bare x)
unfolding Under
mag-bare nan m = m
mag-bare (inf s) m = absurd m.fine
mag-bare (fin s k e) m = record { fine = tt; under = m.under }

pub mag-cut : {n : ℕ} (x : Float) → T (fits binary64 x) → Mag binary64 n x → Mag binary64 n (of_bits binary64 (cut (to_bits binary64 x)))
unfolding cut_float
mag-cut {n} x F m = go (sign x) refl
  where
    b : ℕ
    b = to_bits binary64 (bare x)

    below : b < inf_bits
    below = to_bits-finite (bare x) (bare-fits x F) (bare-finite x m.fine) (bare-sign x)

    room : (b c : ℕ) → c ≤ b → b < inf_bits → c < 2 ^ 63
    room b c h k = omega arith

    turned : sign x ≡ true → cut_float x ≡ neg (cut_float (bare x))
    turned s =
        ap (λ (k : ℕ). of_bits binary64 (cut k)) (subst (λ (t : Bool). to_bits binary64 x ≡ cond t (2 ^ 63) 0 + b) s (to_bits-sign x (finite-no-nan x m.fine)))
        ∙ ap (of_bits binary64) (cut-neg b)
        ∙ of_bits-neg (cut b) (room b (cut b) (cut-le b) below)

    go : (s : Bool) → sign x ≡ s → Mag binary64 n (cut_float x)
    go false s = cut-plus x F s m
    go true s = subst (λ (v : Float). Mag binary64 n v) (sym (turned s)) (mag-neg (cut-plus (bare x) (bare-fits x F) (bare-sign x) (mag-bare x m)))

-- ---- the binade of a number between two powers: of a fraction N / D first
record Scale (N D l h : ℕ) : Type 0 where
  power : ℕ
  over : 2 ^ power * D ≤ N
  under : N ≤ 2 ^ suc power * D
  from : l ≤ power
  to : power ≤ h

scale : (N D l h : ℕ) → 0 < D → 2 ^ l * D ≤ N → N ≤ 2 ^ h * D → Scale N D l h
scale N D l h pos a b = go (size q) refl
  where
    q : ℕ
    q = N / D

    reached : 2 ^ l ≤ q
    reached = (le-div_iff_mul-le pos).1 a

    covered : q ≤ 2 ^ h
    covered = le_of_mul-le-mul_right (le_trans (div-mul-le_self N D) b) pos

    above : l < size q
    above = lt_of_not-le (λ (k : size q ≤ l). lt_irrefl q (lt_of_lt_of_le (size-lt q) (le_trans (pow_mono k) reached)))

    le-of-lt-suc : {a b : ℕ} → a < suc b → a ≤ b
    le-of-lt-suc k = omega arith

    not-lt-zero : (a : ℕ) → a < 0 → ⊥
    not-lt-zero a k = omega arith

    go : (z : ℕ) → size q ≡ z → Scale N D l h
    go zero e = absurd (not-lt-zero l (subst (λ (z : ℕ). l < z) e above))
    go (suc p) e =
        let low : 2 ^ p ≤ q = size_reaches q p (subst (λ (z : ℕ). p < z) (sym e) (lt-suc_self p)) in
        record {
          power = p;
          over = (le-div_iff_mul-le pos).0 low;
          under = le_of_lt ((div-lt_iff_lt-mul pos).0 (subst (λ (z : ℕ). q < 2 ^ z) e (size-lt q)));
          from = le-of-lt-suc (subst (λ (z : ℕ). l < z) e above);
          to = le-of-lt-suc (lt_of_not-le (λ (k : suc h ≤ p). lt_irrefl q (lt_of_le_of_lt covered (lt_of_lt_of_le (pow-lt k) low))));
        }

pub record Binade (l h : ℕ) (x : Float) : Type 0 where
  pub power : ℕ
  pub over : AtLeast binary64 power x
  pub under : Mag binary64 (suc power) x
  pub from : l ≤ power
  pub to : power ≤ h

pub binade : {l h : ℕ} (x : Float) → AtLeast binary64 l x → Mag binary64 h x → Binade l h x
unfolding Over Under
binade {l} {h} x a m =
    let s = scale (num x * 2 ^ 1074) (den x) l h (den_pos x) a.over m.under in
    record {
      power = s.power;
      over = record { fine = m.fine; over = s.over };
      under = record { fine = m.fine; under = s.under };
      from = s.from;
      to = s.to;
    }
