-- The size of a float between powers of two, for operands whose binade is a variable. Exponents count from the format's smallest value: `Mag f n x` is |x| ≤ 2 ^ n of it, `AtLeast f n x` is 2 ^ n of it ≤ |x|,
-- both for finite x; in binary64 the value 1 has n = 1074, and n goes to 2097. So exponents are natural numbers, and one side condition, linear in them, says what a result's bound may be.
-- Each law takes any k that is large (for a lower bound: small) enough, so it also weakens; a k below what the format resolves is met by rounding. Assumes nothing.
use mathlib.Core.Path.{◌≡◌, refl, sym, ap, ap₂, ◌∙◌, subst}
use mathlib.Core.Logic.{inl, inr}
use Prim.Native.Nat.{ℕ, zero, suc, ◌+◌, ◌*◌, ◌^◌, ◌≤◌, ◌<◌, zero-le}
use native.Mathlib.Nat.{le_trans, le_of_eq, lt_irrefl, lt_of_lt_of_le, mul_comm, mul_assoc, mul_left_comm, mul_right_comm, one-mul, zero-mul, add-zero, zero-add, add-mul, mul-le-mul, mul-le-mul_right, le_of_mul-le-mul_right, mul-pos, add-le-add, mul-mul-mul_comm, not-suc-le-zero, le_of_suc-le-suc, two-pow-succ, le-add_right, le-add_left}
use native.Mathlib.Omega.{arith}
use mathlib.Core.Bool.{Bool, true, false, ◌&&◌, cond}
use lib.Dec.{T, leb, leb→le, eqb, eqb→eq, lit<}
use lib.Pow.{pow-add, pow_pos, pow_mono, pow-lt}
use lib.Ieee.{Float, nan, inf, fin, Format, emax, low, up, down, unlike, round, neg, add, sub, mul, div, le}
use lib.Ieee.Fits.{and_l, and_r, two}
use lib.Ieee.Exact.{HasValue, round_exact}
use lib.Ieee.Order.{round_mono}
use lib.Ieee.Scale.{finite}
use lib.Ieee.Positive.{num, den, den_pos, first_pos, through}
use Rattle.laws.proofs.Order.{pos_part, neg_part, nought, le→Le, le-trans-float, le_total, le-refl-finite, nonneg, finite-between, neg-anti, neg-finite, round-neg, round-zero, Rounds, plus, less, add_rounds}

unfoldable pub Under : Format → ℕ → Float → Type 0
Under f n x = num x * 2 ^ low f ≤ 2 ^ n * den x

unfoldable pub Over : Format → ℕ → Float → Type 0
Over f n x = 2 ^ n * den x ≤ num x * 2 ^ low f

pub record Mag (f : Format) (n : ℕ) (x : Float) : Type 0 where
  pub fine : T (finite x)
  pub under : Under f n x

pub record AtLeast (f : Format) (n : ℕ) (x : Float) : Type 0 where
  pub fine : T (finite x)
  pub over : Over f n x

-- ---- rounding keeps a bound that is a power of two of the format
parts : (x : Float) → num x ≡ pos_part x + neg_part x
parts nan = refl
parts (inf s) = refl
parts (fin false m e) = sym (add-zero (m * up e))
parts (fin true m e) = sym (zero-add (m * up e))

finite-value : (x : Float) (s : Bool) (a c : ℕ) → HasValue x s a c → T (finite x)
finite-value nan s a c v = absurd v
finite-value (inf t) s a c v = absurd v
finite-value (fin t m e) s a c v = tt

value-cross : (x : Float) (s : Bool) (a c : ℕ) → HasValue x s a c → num x * c ≡ a * den x
value-cross nan s a c h = absurd h
value-cross (inf t) s a c h = absurd h
value-cross (fin t m e) s a c h = h.1

round-nonneg : (f : Format) (a c : ℕ) → 0 < c → T (le nought (round f false a c))
round-nonneg f a c C = subst (λ (z : Float). T (le z (round f false a c))) (round-zero f false c C) (round_mono f 0 c a c C C (mul-le-mul_right c zero-le))

-- for two floats that are not negative
cross : (x y : Float) → T (finite x) → T (finite y) → T (le nought x) → T (le nought y) → T (le x y) → num x * den y ≤ num y * den x
cross x y p q s t h =
    let u : neg_part x ≡ 0 = nonneg x p s in
    let v : neg_part y ≡ 0 = nonneg y q t in
    let k : pos_part x * den y + neg_part y * den x ≤ pos_part y * den x + neg_part x * den y = le→Le x y p q h in
    let k' : pos_part x * den y + 0 * den x ≤ pos_part y * den x + 0 * den y = subst (λ (z : ℕ). pos_part x * den y + z * den x ≤ pos_part y * den x + 0 * den y) v (subst (λ (z : ℕ). pos_part x * den y + neg_part y * den x ≤ pos_part y * den x + z * den y) u k) in
    let a : num x ≡ pos_part x = parts x ∙ ap (λ (z : ℕ). pos_part x + z) u ∙ add-zero (pos_part x) in
    let b : num y ≡ pos_part y = parts y ∙ ap (λ (z : ℕ). pos_part y + z) v ∙ add-zero (pos_part y) in
    rw (a, b) (omega arith)

power_of : Format → ℕ → Float
power_of f n = round f false (2 ^ n) (2 ^ low f)

in-range : (f : Format) (n : ℕ) → n ≤ low f + emax f → HasValue (power_of f n) false (2 ^ n) (2 ^ low f)
unfolding power_of
in-range f n h =
    round_exact f false (2 ^ n) (2 ^ low f) 1 n (pow_pos (low f)) (lt_of_lt_of_le (lit< tt) (pow_mono (two f)))
    (subst (λ (z : ℕ). z < 2 ^ (low f + suc (emax f))) (sym (one-mul (2 ^ n))) (pow-lt (room n (low f) (emax f) h)))
    (ap (λ (z : ℕ). z * 2 ^ low f) (sym (one-mul (2 ^ n))))
  where
    room : (n l e : ℕ) → n ≤ l + e → n < l + suc e
    room n l e h = omega arith

num-neg : (x : Float) → num (neg x) ≡ num x
unfolding neg
num-neg nan = refl
num-neg (inf s) = refl
num-neg (fin s m e) = refl

den-neg : (x : Float) → den (neg x) ≡ den x
unfolding neg
den-neg nan = refl
den-neg (inf s) = refl
den-neg (fin s m e) = refl

pub mag-neg : {f : Format} {n : ℕ} {x : Float} → Mag f n x → Mag f n (neg x)
unfolding Under
mag-neg {f} {n} {x} p = record { fine = neg-finite x p.fine; under = rw (num-neg, den-neg) p.under }

at-least-neg : {f : Format} {n : ℕ} {x : Float} → AtLeast f n x → AtLeast f n (neg x)
unfolding Over
at-least-neg {f} {n} {x} p = record { fine = neg-finite x p.fine; over = rw (num-neg, den-neg) p.over }

mag-plus : (f : Format) (n a c : ℕ) → 0 < c → n ≤ low f + emax f → a * 2 ^ low f ≤ 2 ^ n * c → Mag f n (round f false a c)
unfolding Under power_of
mag-plus f n a c C N h =
    let z = round f false a c in
    let w = power_of f n in
    let v = in-range f n N in
    let W = finite-value w false (2 ^ n) (2 ^ low f) v in
    let l : T (le z w) = round_mono f a c (2 ^ n) (2 ^ low f) C (pow_pos (low f)) h in
    let Z = finite-between nought z w tt W (round-nonneg f a c C) l in
    record {
      fine = Z;
      under =
          through (num z) (num w) (2 ^ n) (den z) (den w) (2 ^ low f) (den_pos w)
          (cross z w Z W (round-nonneg f a c C) (round-nonneg f (2 ^ n) (2 ^ low f) (pow_pos (low f))) l) (le_of_eq (value-cross w false (2 ^ n) (2 ^ low f) v));
    }

at-least-plus : (f : Format) (n a c : ℕ) → 0 < c → n ≤ low f + emax f → 2 ^ n * c ≤ a * 2 ^ low f → T (finite (round f false a c)) → AtLeast f n (round f false a c)
unfolding Over power_of
at-least-plus f n a c C N h Z =
    let z = round f false a c in
    let w = power_of f n in
    let v = in-range f n N in
    let W = finite-value w false (2 ^ n) (2 ^ low f) v in
    let l : T (le w z) = round_mono f (2 ^ n) (2 ^ low f) a c (pow_pos (low f)) C h in
    record {
      fine = Z;
      over =
          through (2 ^ n) (num w) (num z) (2 ^ low f) (den w) (den z) (den_pos w) (le_of_eq (sym (value-cross w false (2 ^ n) (2 ^ low f) v)))
          (cross w z W Z (round-nonneg f (2 ^ n) (2 ^ low f) (pow_pos (low f))) (round-nonneg f a c C) l);
    }

-- ---- any fraction, either sign
mag-round : {f : Format} {n : ℕ} (s : Bool) (a c : ℕ) → 0 < c → a * 2 ^ low f ≤ 2 ^ n * c → n ≤ low f + emax f → Mag f n (round f s a c)
mag-round {f} {n} false a c C h N = mag-plus f n a c C N h
mag-round {f} {n} true a c C h N = subst (λ (z : Float). Mag f n z) (sym (round-neg f a c)) (mag-neg (mag-plus f n a c C N h))

finite-neg : (x : Float) → T (finite (neg x)) → T (finite x)
unfolding neg
finite-neg nan p = p
finite-neg (inf s) p = p
finite-neg (fin s m e) p = tt

pub at-least-round : {f : Format} {n : ℕ} (s : Bool) (a c : ℕ) → 0 < c → 2 ^ n * c ≤ a * 2 ^ low f → n ≤ low f + emax f → T (finite (round f s a c)) → AtLeast f n (round f s a c)
at-least-round {f} {n} false a c C h N t = at-least-plus f n a c C N h t
at-least-round {f} {n} true a c C h N t =
    subst (λ (z : Float). AtLeast f n z) (sym (round-neg f a c)) (at-least-neg (at-least-plus f n a c C N h (finite-neg (round f false a c) (subst (λ (z : Float). T (finite z)) (round-neg f a c) t))))

-- ---- literals: the test computes
unfoldable pub mag_test : Format → ℕ → Float → Bool
mag_test f n x = finite x && leb (num x * 2 ^ low f) (2 ^ n * den x)

pub mag-literal : {f : Format} {n : ℕ} {x : Float} → T (mag_test f n x) → Mag f n x
unfolding mag_test Under
mag-literal {f} {n} {x} t =
    let g = leb (num x * 2 ^ low f) (2 ^ n * den x) in
    record { fine = and_l (finite x) g t; under = leb→le (num x * 2 ^ low f) (2 ^ n * den x) (and_r (finite x) g t) }

unfoldable pub at_least_test : Format → ℕ → Float → Bool
at_least_test f n x = finite x && leb (2 ^ n * den x) (num x * 2 ^ low f)

pub at-least-literal : {f : Format} {n : ℕ} {x : Float} → T (at_least_test f n x) → AtLeast f n x
unfolding at_least_test Over
at-least-literal {f} {n} {x} t =
    let g = leb (2 ^ n * den x) (num x * 2 ^ low f) in
    record { fine = and_l (finite x) g t; over = leb→le (2 ^ n * den x) (num x * 2 ^ low f) (and_r (finite x) g t) }

-- ---- the product
sign : Float → Bool
sign nan = false
sign (inf s) = s
sign (fin s m e) = s

mul_is : (f : Format) (x y : Float) → T (finite x) → T (finite y) → mul f x y ≡ round f (unlike (sign x) (sign y)) (num x * num y) (den x * den y)
unfolding mul sign
mul_is f nan y p q = absurd p
mul_is f (inf s) y p q = absurd p
mul_is f (fin s m e) nan p q = absurd q
mul_is f (fin s m e) (inf t) p q = absurd q
mul_is f (fin s m e) (fin t n d) p q = refl

-- 2 ^ i * 2 ^ j ≤ 2 ^ u * 2 ^ v
power_le : (i j u v : ℕ) → i + j ≤ u + v → 2 ^ i * 2 ^ j ≤ 2 ^ u * 2 ^ v
power_le i j u v h = le_trans (le_of_eq (sym (pow-add 2 i j))) (le_trans (pow_mono h) (le_of_eq (pow-add 2 u v)))

mul-size : (X a Y b A B K L : ℕ) → 0 < L → X * L ≤ A * a → Y * L ≤ B * b → A * B ≤ K * L → X * Y * L ≤ K * (a * b)
mul-size X a Y b A B K L P h k r =
    le_of_mul-le-mul_right
    (le_trans (le_of_eq (mul_assoc (X * Y) L L ∙ mul-mul-mul_comm X Y L L))
    (le_trans (mul-le-mul h k)
    (le_trans (le_of_eq (mul-mul-mul_comm A a B b))
    (le_trans (mul-le-mul_right (a * b) r) (le_of_eq (mul_right_comm K L (a * b)))))))
    P

pub mag-mul : {f : Format} {n m k : ℕ} {x y : Float} → Mag f n x → Mag f m y → n + m ≤ k + low f → k ≤ low f + emax f → Mag f k (mul f x y)
unfolding Under
mag-mul {f} {n} {m} {k} {x} {y} p q h K =
    subst (λ (z : Float). Mag f k z) (sym (mul_is f x y p.fine q.fine))
    (mag-round (unlike (sign x) (sign y)) (num x * num y) (den x * den y) (mul-pos (den_pos x) (den_pos y))
    (mul-size (num x) (den x) (num y) (den y) (2 ^ n) (2 ^ m) (2 ^ k) (2 ^ low f) (pow_pos (low f)) p.under q.under (power_le n m k (low f) h)) K)

-- ---- the quotient
div_is : (f : Format) (x y : Float) → T (finite x) → T (finite y) → 0 < num y → div f x y ≡ round f (unlike (sign x) (sign y)) (num x * den y) (num y * den x)
unfolding div sign
div_is f nan y p q N = absurd p
div_is f (inf s) y p q N = absurd p
div_is f (fin s m e) nan p q N = absurd q
div_is f (fin s m e) (inf t) p q N = absurd q
div_is f (fin s m e) (fin t n d) p q N = go (eqb n 0) (eqb→eq n 0)
  where
    go : (u : Bool) → (T u → n ≡ 0) → cond u (cond (eqb m 0) nan (inf (unlike s t))) (round f (unlike s t) (m * up e * down d) (n * up d * down e)) ≡ round f (unlike s t) (m * up e * down d) (n * up d * down e)
    go true h = absurd (lt_irrefl 0 (subst (λ (k : ℕ). 0 < k) (ap (λ (k : ℕ). k * up d) (h tt) ∙ zero-mul (up d)) N))
    go false h = refl

at-least-pos : {f : Format} {n : ℕ} {x : Float} → AtLeast f n x → 0 < num x
unfolding Over
at-least-pos {f} {n} {x} p = first_pos (num x) (2 ^ low f) (lt_of_lt_of_le (mul-pos (pow_pos n) (den_pos x)) p.over)

-- X / a ≤ A / L and B / L ≤ Y / b, so X * b / (Y * a) ≤ A / B
div-size : (X a Y b A B K L : ℕ) → 0 < B → X * L ≤ A * a → B * b ≤ Y * L → A * L ≤ K * B → X * b * L ≤ K * (Y * a)
div-size X a Y b A B K L P h k r =
    le_of_mul-le-mul_right
    (le_trans (le_of_eq (simp (mul_assoc, mul_comm, mul_left_comm)))
    (le_trans (mul-le-mul h k)
    (le_trans (le_of_eq (simp (mul_assoc, mul_comm, mul_left_comm)))
    (le_trans (mul-le-mul_right (Y * a) r) (le_of_eq (mul_right_comm K B (Y * a)))))))
    P

pub mag-div : {f : Format} {n m k : ℕ} {x y : Float} → Mag f n x → AtLeast f m y → n + low f ≤ k + m → k ≤ low f + emax f → Mag f k (div f x y)
unfolding Under Over
mag-div {f} {n} {m} {k} {x} {y} p q h K =
    let Y = at-least-pos q in
    subst (λ (z : Float). Mag f k z) (sym (div_is f x y p.fine q.fine Y))
    (mag-round (unlike (sign x) (sign y)) (num x * den y) (num y * den x) (mul-pos Y (den_pos x))
    (div-size (num x) (den x) (num y) (den y) (2 ^ n) (2 ^ m) (2 ^ k) (2 ^ low f) (pow_pos m) p.under q.over (power_le n (low f) k m h)) K)

-- ---- the sum and the difference
add-size : (X a Y b A B K L : ℕ) → X * L ≤ A * a → Y * L ≤ B * b → A + B ≤ K → (X * b + Y * a) * L ≤ K * (a * b)
add-size X a Y b A B K L h k r =
    le_trans (le_of_eq (add-mul (X * b) (Y * a) L ∙ ap₂ (λ (u v : ℕ). u + v) (mul_right_comm X b L) (mul_right_comm Y a L)))
    (le_trans (add-le-add (mul-le-mul_right b h) (mul-le-mul_right a k))
    (le_trans (le_of_eq (ap₂ (λ (u v : ℕ). u + v) (mul_assoc A a b) (mul_assoc B b a ∙ ap (λ (u : ℕ). B * u) (mul_comm b a)) ∙ sym (add-mul A B (a * b)))) (mul-le-mul_right (a * b) r)))

double : (n m k : ℕ) → n < k → m < k → 2 ^ n + 2 ^ m ≤ 2 ^ k
double n m zero h l = absurd (not-suc-le-zero h)
double n m (suc k) h l = le_trans (add-le-add (pow_mono (le_of_suc-le-suc h)) (pow_mono (le_of_suc-le-suc l))) (le_of_eq (sym (two-pow-succ k)))

part : (a b c : ℕ) → a + b ≡ c → a ≤ c
part a b c e = omega arith

mag-rounds : {f : Format} {n : ℕ} {P N c : ℕ} {z : Float} → 0 < c → Rounds f P N c z → P * 2 ^ low f ≤ 2 ^ n * c → N * 2 ^ low f ≤ 2 ^ n * c → n ≤ low f + emax f → Mag f n z
mag-rounds {f} {n} {P} {N} {c} C (plus a e r) h k K = subst (λ (z : Float). Mag f n z) (sym r) (mag-round false a c C (le_trans (mul-le-mul_right (2 ^ low f) (part a N P e)) h) K)
mag-rounds {f} {n} {P} {N} {c} C (less a e r) h k K = subst (λ (z : Float). Mag f n z) (sym r) (mag-round true a c C (le_trans (mul-le-mul_right (2 ^ low f) (part a P N e)) k) K)

pos-le : (x : Float) → pos_part x ≤ num x
pos-le x = rw parts (le-add_right (pos_part x) (neg_part x))

neg-le : (x : Float) → neg_part x ≤ num x
neg-le x = rw parts (le-add_left (neg_part x) (pos_part x))

pub mag-add : {f : Format} {n m k : ℕ} {x y : Float} → Mag f n x → Mag f m y → n < k → m < k → k ≤ low f + emax f → Mag f k (add f x y)
unfolding Under
mag-add {f} {n} {m} {k} {x} {y} p q h l K =
    mag-rounds (mul-pos (den_pos x) (den_pos y)) (add_rounds f x y p.fine q.fine)
    (add-size (pos_part x) (den x) (pos_part y) (den y) (2 ^ n) (2 ^ m) (2 ^ k) (2 ^ low f) (le_trans (mul-le-mul_right (2 ^ low f) (pos-le x)) p.under) (le_trans (mul-le-mul_right (2 ^ low f) (pos-le y)) q.under) (double n m k h l))
    (add-size (neg_part x) (den x) (neg_part y) (den y) (2 ^ n) (2 ^ m) (2 ^ k) (2 ^ low f) (le_trans (mul-le-mul_right (2 ^ low f) (neg-le x)) p.under) (le_trans (mul-le-mul_right (2 ^ low f) (neg-le y)) q.under) (double n m k h l))
    K

pub mag-sub : {f : Format} {n m k : ℕ} {x y : Float} → Mag f n x → Mag f m y → n < k → m < k → k ≤ low f + emax f → Mag f k (sub f x y)
unfolding sub
mag-sub p q h l K = mag-add p (mag-neg q) h l K

-- ---- a wider bound
pub mag-weaken : {f : Format} {n k : ℕ} {x : Float} → Mag f n x → n ≤ k → Mag f k x
unfolding Under
mag-weaken {f} {n} {k} {x} p h = record { fine = p.fine; under = le_trans p.under (mul-le-mul_right (den x) (pow_mono h)) }

-- ---- by a fraction that the float equals, such as an exact power of two
pub mag-value : {f : Format} {n : ℕ} {x : Float} (s : Bool) (a c : ℕ) → 0 < c → HasValue x s a c → a * 2 ^ low f ≤ 2 ^ n * c → Mag f n x
unfolding Under
mag-value {f} {n} {x} s a c C v h = record { fine = finite-value x s a c v; under = through (num x) a (2 ^ n) (den x) c (2 ^ low f) C (le_of_eq (value-cross x s a c v)) h }

-- ---- from the order, and back to it
mag-under : {f : Format} {n : ℕ} {x h : Float} → T (finite x) → T (le nought x) → T (le x h) → Mag f n h → Mag f n x
unfolding Under
mag-under {f} {n} {x} {h} X s l p =
    record {
      fine = X;
      under = through (num x) (num h) (2 ^ n) (den x) (den h) (2 ^ low f) (den_pos h) (cross x h X p.fine s (le-trans-float nought x h s l) l) p.under;
    }

un-neg : {f : Format} {n : ℕ} {x : Float} → Mag f n (neg x) → Mag f n x
unfolding Under
un-neg {f} {n} {x} p = record { fine = finite-neg x p.fine; under = rw (num-neg, den-neg) at p.under }

zero-neg : (x : Float) → T (le x nought) → T (le nought (neg x))
unfolding le neg
zero-neg x h = le-trans-float nought (neg nought) (neg x) tt (neg-anti x nought h)

pub mag-between : {f : Format} {n : ℕ} {l x h : Float} → T (le l x) → T (le x h) → Mag f n l → Mag f n h → Mag f n x
mag-between {f} {n} {l} {x} {h} a b p q =
    let X = finite-between l x h p.fine q.fine a b in
    elim (le_total nought x (le-refl-finite nought tt) (le-refl-finite x X)) [ inl s ↦ mag-under X s b q | inr s ↦ un-neg (mag-under (neg-finite x X) (zero-neg x s) (neg-anti l x a) (mag-neg p)) ]

pub at-least-of-le : {f : Format} {n : ℕ} {l y : Float} → AtLeast f n l → T (le nought l) → T (le l y) → T (finite y) → AtLeast f n y
unfolding Over
at-least-of-le {f} {n} {l} {y} p s h Y =
    record {
      fine = Y;
      over = through (2 ^ n) (num l) (num y) (2 ^ low f) (den l) (den y) (den_pos l) p.over (cross l y p.fine Y s (le-trans-float nought l y s h) h);
    }

-- a bound b with 2 ^ n ≤ b, such as the power itself
