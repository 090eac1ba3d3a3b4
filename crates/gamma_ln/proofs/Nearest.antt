-- A positive argument up to 101: 2^52 added and taken off leaves the whole number nearest to it, of two that are as near the even one. It is the argument
-- exactly where the argument is whole; and where the argument is less than a half above it, it is the argument rounded. Assumes nothing.
use mathlib.Core.Path.{◌≡◌, refl, sym, ap, ◌∙◌, subst}
use Prim.Native.Nat.{ℕ, ◌+◌, ◌-◌, ◌*◌, ◌^◌, ◌≤◌, ◌<◌, zero-le}
use native.Mathlib.Nat.{mul-one, mul-pos, le_of_mul-le-mul_right, sub-add_cancel}
use native.Mathlib.Omega.{arith}
use mathlib.Core.Bool.{Bool, true, false}
use lib.Dec.{T, lit<, lit≤}
use lib.Ieee.{Float, binary64, fits, le, lt, eq, add, sub, round, of_bits}
use lib.Ieee.Fits.{sub-fits, round-fits}
use lib.Ieee.Exact.{HasValue}
use lib.Ieee.Back.{whole_unique, round_whole}
use lib.Ieee.Scale.{round_same}
use lib.Ieee.Positive.{num, den, den_pos, positive, positive-finite, own_value, value→cross}
use Rattle.laws.proofs.Value.{le-values, lt-values}
use Rattle.laws.proofs.Relative.{nonnegative-of-value, add-round, sub-round}
use Rattle.laws.proofs.Grid.{is-plus, round-steps, Snapped, snap-right}
use Rattle.machine.specs.Constants.{gamma_ln_minimum}
use Rattle.machine.specs.Small.{nothing, half}
use Rattle.rounding.specs.Round.{round_of, nearest_whole, Nearest}
use Rattle.rounding.proofs.RoundFacts.{round-value, whole-value, round-is-nearest}
use Rattle.gamma_ln.proofs.Arguments.{above_zero, equal-value, positive-sign}

-- ---- sums and differences that are exact
add_at : (x y : Float) (a c b d : ℕ) → 0 < c → 0 < d → HasValue x false a c → HasValue y false b d → add binary64 x y ≡ round binary64 false (a * d + b * c) (c * d)
add_at x y a c b d C D p q =
    add-round binary64 x y (nonnegative-of-value x a c p) (nonnegative-of-value y b d q)
    ∙ round_same binary64 false (num x * den y + num y * den x) (den x * den y) (a * d + b * c) (c * d) (mul-pos (den_pos x) (den_pos y)) (mul-pos C D)
    (cross (num x) (den x) (num y) (den y) a c b d (value→cross x a c p) (value→cross y b d q))
  where
    cross : (m u n v a c b d : ℕ) → m * c ≡ a * u → n * d ≡ b * v → (m * v + n * u) * (c * d) ≡ (a * d + b * c) * (u * v)
    cross m u n v a c b d k l =
        let k' : m * c * (v * d) ≡ a * u * (v * d) = ap (λ (z : ℕ). z * (v * d)) k in
        let l' : n * d * (u * c) ≡ b * v * (u * c) = ap (λ (z : ℕ). z * (u * c)) l in
        omega arith

less-whole : (x y : Float) (n b : ℕ) → HasValue x false (n + b) 1 → HasValue y false b 1 → n ≤ 2 ^ 53 → HasValue (sub binary64 x y) false n 1
less-whole x y n b p q h =
    let k = value→cross x (n + b) 1 p in
    let l = value→cross y b 1 q in
    subst (λ (z : Float). HasValue z false n 1)
    (sym
    (sub-round binary64 x y (nonnegative-of-value x (n + b) 1 p) (nonnegative-of-value y b 1 q) (under (num x) (den x) (num y) (den y) n b k l)
    ∙ round_same binary64 false (num x * den y - num y * den x) (den x * den y) n 1 (mul-pos (den_pos x) (den_pos y)) (lit< tt)
    (cross (num x) (den x) (num y) (den y) n b k l)))
    (round_whole binary64 false n h)
  where
    under : (m u i v n b : ℕ) → m * 1 ≡ (n + b) * u → i * 1 ≡ b * v → i * u ≤ m * v
    under m u i v n b k l =
        let k' : m * 1 * v ≡ (n + b) * u * v = ap (λ (z : ℕ). z * v) k in
        let l' : i * 1 * u ≡ b * v * u = ap (λ (z : ℕ). z * u) l in
        omega arith

    cross : (m u i v n b : ℕ) → m * 1 ≡ (n + b) * u → i * 1 ≡ b * v → (m * v - i * u) * 1 ≡ n * (u * v)
    cross m u i v n b k l =
        let k' : m * 1 * v ≡ (n + b) * u * v = ap (λ (z : ℕ). z * v) k in
        let l' : i * 1 * u ≡ b * v * u = ap (λ (z : ℕ). z * u) l in
        omega arith

plus-half : (w : Float) (n : ℕ) → HasValue w false n 1 → n ≤ 101 → HasValue (add binary64 w half) false (n * 2 + 1) 2
unfolding of_bits
plus-half w n v h =
    subst (λ (z : Float). HasValue z false (n * 2 + 1) 2) (sym (add_at w half n 1 1 2 (lit< tt) (lit< tt) v (refl, refl)))
    (subst (λ (z : ℕ). HasValue (round binary64 false z 2) false z 2) (mul-one (n * 2 + 1)) (round-steps false (n * 2 + 1) 0 1 (few n h) (lit≤ tt) zero-le))
  where
    few : (n : ℕ) → n ≤ 101 → n * 2 + 1 ≤ 2 ^ 53
    few n h = omega arith

-- ---- 2^52 added and taken off
abbrev grid : Float
grid = of_bits binary64 0x4330000000000000

abbrev pub nearby : Float → Float
nearby x = sub binary64 (add binary64 x grid) grid

grid-value : HasValue grid false (2 ^ 52) 1
unfolding of_bits
grid-value = (refl, refl)

-- n is within a half of x, either half included, and `nearby x` is n
record Close (x : Float) (n : ℕ) : Type 0 where
  value : HasValue (nearby x) false n 1
  few : n ≤ 101
  above : 2 * (n * den x) ≤ 2 * num x + den x
  below : 2 * num x ≤ 2 * (n * den x) + den x

module _ (x : Float) (P : T (positive x)) (h : num x ≤ 101 * den x) where
  snapped : Snapped (num x) 0 (den x) (2 ^ 52) 0 (add binary64 x grid)
  snapped =
      let d = den_pos x in
      snap-right (num x) 0 (den x) (2 ^ 52) 0 grid x (den_pos x) zero-le grid-value (is-plus x (num x) (den x) (own_value x P)) (omega arith) (omega arith)

  close : Close x (snapped.q - 2 ^ 52)
  close =
      let s = snapped in
      from s.q (s.q - 2 ^ 52) (sub-add_cancel s.lowest) s.highest s.value s.above s.below
    where
      small : (n d a : ℕ) → 0 < d → 2 * (n * d) ≤ 2 * a + d → a ≤ 101 * d → n ≤ 101
      small n d a D l u = let t : 2 * n ≤ 203 = le_of_mul-le-mul_right {k = d} (omega arith) D in omega arith

      from : (q n : ℕ) → n + 2 ^ 52 ≡ q → q ≤ 2 ^ 53 → HasValue (add binary64 x grid) false q 1 → 2 * (q * den x + 0) ≤ 2 * (num x * 1 + 2 ^ 52 * den x) + den x
          → 2 * (num x * 1 + 2 ^ 52 * den x) ≤ 2 * (q * den x + 0) + den x → Close x n
      from q n e l v a b =
          let k : (n + 2 ^ 52) * den x ≡ q * den x = ap (λ (z : ℕ). z * den x) e in
          let l' : 2 * (n * den x) ≤ 2 * num x + den x = omega arith in
          record {
            value = less-whole (add binary64 x grid) grid n (2 ^ 52) (subst (λ (z : ℕ). HasValue (add binary64 x grid) false z 1) (sym e) v) grid-value (omega arith);
            few = small n (den x) (num x) (den_pos x) l' h;
            above = l';
            below = omega arith;
          }

-- ---- the whole number that x is rounded to
is-rounded : (x : Float) (n : ℕ) → T (fits binary64 x) → T (positive x) → HasValue (nearby x) false n 1 → Nearest x n → nearby x ≡ round_of x
is-rounded x n F P v near =
    whole_unique binary64 (nearby x) (round_of x) false n (sub-fits binary64 (add binary64 x grid) grid)
    (subst (λ (z : Float). T (fits binary64 z)) (sym (round-value x false (num x) (den x) (den_pos x) (own_value x P))) (round-fits binary64 false (nearest_whole (num x) (den x)) 1))
    v (subst (λ (s : Bool). HasValue (round_of x) s n 1) (positive-sign x P) (round-is-nearest x n F (positive-finite x P) near))

-- a whole x is both
whole-near : (x : Float) (k : ℕ) → HasValue x false k 1 → Nearest x k
whole-near x k v =
    let d = den_pos x in
    let e : num x * 1 ≡ k * den x = value→cross x k 1 v in
    record { low = omega arith; high = omega arith }

same_whole : (x : Float) (n k : ℕ) → Close x n → HasValue x false k 1 → n ≡ k
same_whole x n k c v =
    let e = value→cross x k 1 v in
    let a = c.above in
    let b = c.below in
    let D = den_pos x in
    let l : 2 * n ≤ 2 * k + 1 = le_of_mul-le-mul_right {k = den x} (omega arith) D in
    let u : 2 * k ≤ 2 * n + 1 = le_of_mul-le-mul_right {k = den x} (omega arith) D in
    omega arith

whole-both : (x : Float) (n k : ℕ) → T (fits binary64 x) → T (positive x) → Close x n → HasValue x false k 1 → nearby x ≡ round_of x
whole-both x n k F P c v =
    is-rounded x k F P (subst (λ (z : ℕ). HasValue (nearby x) false z 1) (same_whole x n k c v) c.value) (whole-near x k v)

both-or-neither : (a b : Bool) → (T a → T b) → (T b → T a) → a ≡ b
both-or-neither true true f g = refl
both-or-neither true false f g = absurd (f tt)
both-or-neither false true f g = absurd (g tt)
both-or-neither false false f g = refl

-- ---- what the code's tests say: up to 100.1, and below 7
pub is-whole : (x : Float) → T (fits binary64 x) → le x nothing ≡ false → T (le x (of_bits binary64 0x4059066666666666)) → eq (nearby x) x ≡ eq (round_of x) x
unfolding of_bits
is-whole x F p l = go (close x P under)
  where
    P : T (positive x)
    P = above_zero x (of_bits binary64 0x4059066666666666) p tt l

    under : num x ≤ 101 * den x
    under =
        let u : num x * 2 ^ 46 ≤ 0x19066666666666 * den x = le-values x (of_bits binary64 0x4059066666666666) (num x) (den x) 0x19066666666666 (2 ^ 46) (own_value x P) (refl, refl) l in
        omega arith

    go : {n : ℕ} → Close x n → eq (nearby x) x ≡ eq (round_of x) x
    go {n} c = both-or-neither (eq (nearby x) x) (eq (round_of x) x) there back
      where
        there : T (eq (nearby x) x) → T (eq (round_of x) x)
        there t = subst (λ (y : Float). T (eq y x)) (whole-both x n n F P c (equal-value (nearby x) x n c.value (positive-sign x P) t)) t

        back : T (eq (round_of x) x) → T (eq (nearby x) x)
        back t =
            let k = nearest_whole (num x) (den x) in
            let v = subst (λ (s : Bool). HasValue (round_of x) s k 1) (positive-sign x P) (whole-value x F (positive-finite x P)) in
            subst (λ (y : Float). T (eq y x)) (sym (whole-both x n k F P c (equal-value (round_of x) x k v (positive-sign x P) t))) t

module _ (x : Float) (F : T (fits binary64 x)) (P : T (positive x)) (l : T (lt x gamma_ln_minimum)) where
  below-seven : num x ≤ 101 * den x
  unfolding gamma_ln_minimum of_bits
  below-seven =
      let u : num x * 1 < 7 * den x = lt-values x gamma_ln_minimum (num x) (den x) 7 1 (den_pos x) (lit< tt) (own_value x P) (refl, refl) l in
      omega arith

  pub rounded-down : T (lt x (add binary64 (nearby x) half)) → nearby x ≡ round_of x
  rounded-down t = go (close x P below-seven)
    where
      go : {n : ℕ} → Close x n → nearby x ≡ round_of x
      go {n} c =
          let a = c.above in
          let u : num x * 2 < (n * 2 + 1) * den x = lt-values x (add binary64 (nearby x) half) (num x) (den x) (n * 2 + 1) 2 (den_pos x) (lit< tt) (own_value x P) (plus-half (nearby x) n c.value c.few) t in
          is-rounded x n F P c.value (record { low = a; high = omega arith })
