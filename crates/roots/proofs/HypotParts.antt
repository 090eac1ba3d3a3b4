-- One part's square, as it is, scaled up by 2^600 or down by 2^-600: what its rounding is of, and that it stays below 2^900. Assumes nothing.
use mathlib.Core.Path.{◌≡◌, refl, sym, ap, ◌∙◌, subst}
use mathlib.Core.Logic.{inl, inr}
use mathlib.Core.Bool.{Bool, true, false, ◌&&◌}
use Prim.Native.Nat.{ℕ, zero, suc, ◌+◌, ◌-◌, ◌*◌, ◌%◌, ◌^◌, ◌≤◌, ◌<◌, zero-le}
use native.Mathlib.Nat.{le_trans, le_of_eq, le_of_lt, lt_irrefl, lt_of_le_of_lt, mul-lt-mul_of_pos_right, zero-mul, mul-one, one-mul, mul_assoc, mul_comm, mul-mul-mul_comm, mul-pos, mul-le-mul, mul-le-mul_left, mul-le-mul_right}
use native.Mathlib.Omega.{arith}
use lib.IntN.{ℤ}
use lib.Dec.{T, ltb, leb, eqb, ltb→lt, leb→le, lit<, lit≤}
use lib.Pow.{pow-add, pow_pos, pow-lt}
use lib.Ieee.{Float, nan, inf, fin, binary64, up, down, unlike, size, round, neg, add, mul, le, of_bits, fits}
use lib.Ieee.Exact.{HasValue, round_exact}
use lib.Ieee.Fits.{and_l, and_r}
use lib.Ieee.Order.{round_mono}
use lib.Ieee.Positive.{num, den, den_pos}
use lib.Ieee.Scale.{finite}
use Rattle.laws.proofs.Value.{sign, own-fraction, le-values}
use Rattle.laws.proofs.Order.{add-mono, finite-between, round-neg, neg-finite}
use Rattle.laws.proofs.Power.{mul-value, scale-up, scale-down}
use Rattle.laws.proofs.Relative.{nonnegative, round-finite, round-nonnegative, nonnegative-finite, nonnegative-value}
use Rattle.roots.specs.Hypot.{larger, smaller}
use Rattle.roots.proofs.WholeRoot.{which}
use Rattle.roots.proofs.Mixed.{Mixed, round-mixed}
use Rattle.roots.proofs.HypotCases.{nought}
use Rattle.roots.proofs.HypotRange.{nought-below}
use Rattle.roots.proofs.HypotSum.{square-round}

-- ---- the range of a value that fits and is not zero
least-of : (s : Bool) (m : ℕ) (e : ℤ) → T (fits binary64 (fin s (suc m) e)) → (down e ≤ 2 ^ 1074) × (suc m * up e < 2 ^ 1024 * down e)
unfolding fits
least-of s m e F =
    let p = eqb (suc m % 2) 1 && ltb (suc m) (2 ^ 53) in
    let q = leb (down e) (2 ^ 1074) in
    let r = ltb (suc m * up e) (2 ^ 1024 * down e) in
    (leb→le (down e) (2 ^ 1074) (and_r p q (and_l (p && q) r F)), ltb→lt (suc m * up e) (2 ^ 1024 * down e) (and_r (p && q) r F))

pub least-value : (x : Float) → T (fits binary64 x) → 0 < num x → den x ≤ num x * 2 ^ 1074
least-value nan F h = absurd (lt_irrefl 0 h)
least-value (inf s) F h = absurd (lt_irrefl 0 h)
least-value (fin s zero e) F h = absurd (lt_irrefl 0 (subst (λ (t : ℕ). 0 < t) (zero-mul (up e)) h))
least-value (fin s (suc m) e) F h = le_trans (least-of s m e F).0 (le_trans (le_of_eq (sym (one-mul (2 ^ 1074)))) (mul-le-mul_right (2 ^ 1074) h))

most-value : (x : Float) → T (fits binary64 x) → num x ≤ 2 ^ 1024 * den x
most-value nan F = zero-le
most-value (inf s) F = zero-le
most-value (fin s zero e) F = le_trans (le_of_eq (zero-mul (up e))) zero-le
most-value (fin s (suc m) e) F = le_of_lt (least-of s m e F).1

-- ---- the two powers
pub larger-value : HasValue larger false (2 ^ 600) 1
unfolding larger of_bits
larger-value = (refl, refl)

pub smaller-value : HasValue smaller false 1 (2 ^ 600)
unfolding smaller of_bits
smaller-value = (refl, refl)

-- ---- a square below 2^900, of what a / c is
abbrev bound : Float
bound = round binary64 false (2 ^ 900) 1

pub record Part (A : Float) (a c : ℕ) : Type 0 where
  pub bare : T (nonnegative A)
  pub mixed : Mixed (2 ^ 1075) (num A) (den A) a c
  pub under : T (le A bound)

bound-finite : T (finite (add binary64 bound bound))
unfolding add round size
bound-finite = tt

noughts : add binary64 nought nought ≡ nought
unfolding add round size
noughts = refl

pub parts-finite : (A B : Float) (a c b d : ℕ) → Part A a c → Part B b d → T (finite (add binary64 A B))
parts-finite A B a c b d p q =
    let fa = nonnegative-finite A p.bare in
    let fb = nonnegative-finite B q.bare in
    let fz : T (finite bound) = round-finite binary64 (2 ^ 900) 1 (pow_pos 0) (lit≤ tt) in
    finite-between nought (add binary64 A B) (add binary64 bound bound) tt bound-finite
    (subst (λ (z : Float). T (le z (add binary64 A B))) noughts (add-mono binary64 nought A nought B tt fa tt fb (nought-below A p.bare) (nought-below B q.bare)))
    (add-mono binary64 A bound B bound fa fz fb fz p.under q.under)

of-round : (A : Float) (a c : ℕ) → 0 < c → A ≡ round binary64 false a c → a ≤ 2 ^ 900 * c → Part A a c
of-round A a c C e h =
    let F : T (finite A) = subst (λ (z : Float). T (finite z)) (sym e) (round-finite binary64 a c C (le_trans h (mul-le-mul_right c (lit≤ tt)))) in
    record {
      bare = round-nonnegative binary64 a c A e F;
      mixed = round-mixed a c A C e F;
      under = subst (λ (z : Float). T (le z bound)) (sym e) (round_mono binary64 a c (2 ^ 900) 1 C (pow_pos 0) (le_trans (le_of_eq (mul-one a)) h));
    }

-- ---- scaled up, exactly: of a part up to 2^-399
pub up-part : (x : Float) → T (fits binary64 x) → T (finite x) → num x * 2 ^ 399 ≤ den x → Part (mul binary64 (mul binary64 x larger) (mul binary64 x larger)) (num x * 2 ^ 600 * (num x * 2 ^ 600)) (den x * den x)
up-part x F f h =
    let k : num x * 2 ^ 600 ≤ 2 ^ 201 * den x = le_trans (le_of_eq (sym (mul_assoc (num x) (2 ^ 399) (2 ^ 201)))) (le_trans (mul-le-mul_right (2 ^ 201) h) (le_of_eq (mul_comm (den x) (2 ^ 201)))) in
    let v = scale-up x larger (sign x) (num x) (den x) 600 F (den_pos x) (own-fraction x f) larger-value (lt_of_le_of_lt k (mul-lt-mul_of_pos_right (lit< tt) (den_pos x))) in
    of-round (mul binary64 (mul binary64 x larger) (mul binary64 x larger)) (num x * 2 ^ 600 * (num x * 2 ^ 600)) (den x * den x) (mul-pos (den_pos x) (den_pos x))
    (square-round (mul binary64 x larger) (sign x) (num x * 2 ^ 600) (den x) (den_pos x) v)
    (le_trans (mul-le-mul k k) (le_trans (le_of_eq (mul-mul-mul_comm (2 ^ 201) (den x) (2 ^ 201) (den x))) (mul-le-mul_right (den x * den x) (lit≤ {m = 2 ^ 201 * 2 ^ 201} {n = 2 ^ 900} tt))))

-- ---- scaled down: exactly to a normal value, or to what has no square left
neg_same : (z : Float) → (num (neg z) ≡ num z) × (den (neg z) ≡ den z)
unfolding neg
neg_same nan = (refl, refl)
neg_same (inf s) = (refl, refl)
neg_same (fin s m e) = (refl, refl)

round-signed : (s : Bool) (a c : ℕ) → (num (round binary64 s a c) ≡ num (round binary64 false a c)) × (den (round binary64 s a c) ≡ den (round binary64 false a c))
round-signed true a c = let n = neg_same (round binary64 false a c) in (ap num (round-neg binary64 a c) ∙ n.0, ap den (round-neg binary64 a c) ∙ n.1)
round-signed false a c = (refl, refl)

finite-signed : (s : Bool) (a c : ℕ) → T (finite (round binary64 false a c)) → T (finite (round binary64 s a c))
finite-signed true a c f = subst (λ (z : Float). T (finite z)) (sym (round-neg binary64 a c)) (neg-finite (round binary64 false a c) f)
finite-signed false a c f = f

-- up to 2 ^ -k the rounded value is up to 2 ^ -k
one-over : (k : ℕ) → k ≤ 1074 → HasValue (round binary64 false 1 (2 ^ k)) false 1 (2 ^ k)
one-over k h =
    let j = 1074 - k in
    let g : j + k ≡ 1074 = omega arith in
    round_exact binary64 false 1 (2 ^ k) 1 j (pow_pos k) (lit< tt) (le_trans (pow-lt-mono j (omega arith)) (le_of_eq refl)) (ap (λ (t : ℕ). 1 * t) (ap (λ (t : ℕ). 2 ^ t) (sym g) ∙ pow-add 2 j k) ∙ sym (mul_assoc 1 (2 ^ j) (2 ^ k)))
  where
    pow-lt-mono : (j : ℕ) → j ≤ 1074 → 1 * 2 ^ j < 2 ^ 2098
    pow-lt-mono j h = lt_of_le_of_lt (le_of_eq (one-mul (2 ^ j))) (pow-lt {i = j} {j = 2098} (omega arith))

round_under : (a c k : ℕ) → 0 < c → k ≤ 1074 → a * 2 ^ k ≤ c → T (finite (round binary64 false a c)) × (num (round binary64 false a c) * 2 ^ k ≤ den (round binary64 false a c))
round_under a c k C K h =
    let z = round binary64 false a c in
    let F : T (finite z) = round-finite binary64 a c C (le_trans (le_trans (le_of_eq (sym (mul-one a))) (le_trans (mul-le-mul_left a (pow_pos k)) h)) (le_trans (le_of_eq (sym (one-mul c))) (mul-le-mul_right c (lit≤ tt)))) in
    let v = nonnegative-value z (round-nonnegative binary64 a c z refl F) in
    let l : T (le z (round binary64 false 1 (2 ^ k))) = round_mono binary64 a c 1 (2 ^ k) C (pow_pos k) (le_trans h (le_of_eq (sym (one-mul c)))) in
    (F, le_trans (le-values z (round binary64 false 1 (2 ^ k)) (num z) (den z) 1 (2 ^ k) v (one-over k K) l) (le_of_eq (one-mul (den z))))

-- a value up to 2 ^ -1022 has a square up to the smallest value, whatever it stands for
tiny-core : (E n m a c : ℕ) → n * E ≤ 2 * m → a * E ≤ c → Mixed E n m a c
tiny-core E n m a c h g =
    let x = mul-le-mul_right c h in
    let y = mul-le-mul_right m g in
    record { above = omega arith; below = omega arith }

tiny-part : (q : Float) (a c : ℕ) → T (finite q) → num q * 2 ^ 1022 ≤ den q → a * 2 ^ 1075 ≤ c → Part (mul binary64 q q) a c
tiny-part q a c f h g =
    let n = num q * num q in
    let m = den q * den q in
    let M : 0 < m = mul-pos (den_pos q) (den_pos q) in
    let e = square-round q (sign q) (num q) (den q) (den_pos q) (own-fraction q f) in
    let k : n * 2 ^ 1074 ≤ m = le_trans (mul-le-mul_left n (lit≤ {m = 2 ^ 1074} {n = 2 ^ 1022 * 2 ^ 1022} tt)) (le_trans (le_of_eq (mul-mul-mul_comm (num q) (num q) (2 ^ 1022) (2 ^ 1022))) (mul-le-mul h h)) in
    let r = round_under n m 1074 M (lit≤ tt) k in
    let z = round binary64 false n m in
    subst (λ (w : Float). Part w a c) (sym e)
    record {
      bare = round-nonnegative binary64 n m z refl r.0;
      mixed = tiny-core (2 ^ 1075) (num z) (den z) a c (le_trans (le_of_eq (sym (mul_assoc (num z) (2 ^ 1074) 2))) (le_trans (mul-le-mul_right 2 r.1) (le_of_eq (mul_comm (den z) 2)))) g;
      under = round_mono binary64 n m (2 ^ 900) 1 M (pow_pos 0) (le_trans (le_trans (mul-le-mul_left n (lit≤ {m = 1} {n = 2 ^ 1074} tt)) k) (le_trans (le_of_eq (sym (one-mul m))) (mul-le-mul_right m (lit≤ tt))));
    }

pub down-part : (x : Float) → T (fits binary64 x) → T (finite x) → Part (mul binary64 (mul binary64 x smaller) (mul binary64 x smaller)) (num x * num x) (den x * 2 ^ 600 * (den x * 2 ^ 600))
down-part x F f =
    let C : 0 < den x * 2 ^ 600 = mul-pos (den_pos x) (pow_pos 600) in
    elim (which (num x * 2 ^ 1022) (den x * 2 ^ 600)) [
      | inl h ↦
          let e : mul binary64 x smaller ≡ round binary64 (unlike (sign x) false) (num x * 1) (den x * 2 ^ 600) = mul-value binary64 x smaller (sign x) false (num x) (den x) 1 (2 ^ 600) (den_pos x) (pow_pos 600) (own-fraction x f) smaller-value in
          let k : num x * 1 * 2 ^ 1022 ≤ den x * 2 ^ 600 = le_trans (le_of_eq (ap (λ (t : ℕ). t * 2 ^ 1022) (mul-one (num x)))) (le_of_lt h) in
          let r = round_under (num x * 1) (den x * 2 ^ 600) 1022 C (lit≤ tt) k in
          let s = unlike (sign x) false in
          let g = round-signed s (num x * 1) (den x * 2 ^ 600) in
          let q : num (round binary64 s (num x * 1) (den x * 2 ^ 600)) * 2 ^ 1022 ≤ den (round binary64 s (num x * 1) (den x * 2 ^ 600)) = le_trans (le_of_eq (ap (λ (t : ℕ). t * 2 ^ 1022) g.0)) (le_trans r.1 (le_of_eq (sym g.1))) in
          subst (λ (w : Float). Part (mul binary64 w w) (num x * num x) (den x * 2 ^ 600 * (den x * 2 ^ 600))) (sym e)
          (tiny-part (round binary64 s (num x * 1) (den x * 2 ^ 600)) (num x * num x) (den x * 2 ^ 600 * (den x * 2 ^ 600)) (finite-signed s (num x * 1) (den x * 2 ^ 600) r.0) q
          (le_trans (mul-le-mul_left (num x * num x) (lit≤ {m = 2 ^ 1075} {n = 2 ^ 1022 * 2 ^ 1022} tt)) (le_trans (le_of_eq (mul-mul-mul_comm (num x) (num x) (2 ^ 1022) (2 ^ 1022))) (mul-le-mul (le_of_lt h) (le_of_lt h)))))
      | inr h ↦
          let v = scale-down x smaller (sign x) (num x) (den x) 600 F (den_pos x) (own-fraction x f) smaller-value h in
          let k : num x ≤ 2 ^ 424 * (den x * 2 ^ 600) = le_trans (most-value x F) (le_of_eq (mul_comm (2 ^ 1024) (den x) ∙ sym (mul_assoc (den x) (2 ^ 600) (2 ^ 424)) ∙ mul_comm (den x * 2 ^ 600) (2 ^ 424))) in
          of-round (mul binary64 (mul binary64 x smaller) (mul binary64 x smaller)) (num x * num x) (den x * 2 ^ 600 * (den x * 2 ^ 600)) (mul-pos C C)
          (square-round (mul binary64 x smaller) (sign x) (num x) (den x * 2 ^ 600) C v)
          (le_trans (mul-le-mul k k) (le_trans (le_of_eq (mul-mul-mul_comm (2 ^ 424) (den x * 2 ^ 600) (2 ^ 424) (den x * 2 ^ 600))) (mul-le-mul_right (den x * 2 ^ 600 * (den x * 2 ^ 600)) (lit≤ {m = 2 ^ 424 * 2 ^ 424} {n = 2 ^ 900} tt))))
    ]
