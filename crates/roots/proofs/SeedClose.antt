-- The seed and its Heron step against the root: the seed's square is within one part in 2^25 of the argument. Assumes nothing.
use mathlib.Core.Path.{◌≡◌, refl, sym, ap, ◌∙◌, subst}
use mathlib.Core.Logic.{inl, inr}
use mathlib.Core.Bool.{Bool, false, cond}
use Prim.Native.Nat.{ℕ, ◌+◌, ◌-◌, ◌*◌, ◌/◌, ◌%◌, ◌^◌, ◌≤◌, ◌<◌}
use native.Mathlib.Nat.{le_trans, le_of_eq, le_of_lt, lt_of_lt_of_le, mul_assoc, mul_comm, mul_left_comm, mul_right_comm, mul-le-mul, mul-le-mul_left, mul-le-mul_right, mul-pos, mul-sub, add-mul, add-sub_cancel_left, le_of_mul-le-mul_right, mul-lt-mul_of_pos_right, sub-le, le-add_right}
use native.Mathlib.Omega.{arith}
use lib.Dec.{T, ltb, lit<, lit≤}
use lib.Pow.{pow-add, pow_pos, pow_mono}
use lib.ListN.{get_or}
use lib.Ieee.{Float, nan, binary64, round, add, sub, mul, of_bits}
use lib.Ieee.Exact.{HasValue, round_exact}
use lib.Ieee.Scale.{round_same}
use lib.Ieee.Positive.{num, den, positive, den_pos, value→cross}
use borrow.Author.Tests.{lt-ltb, le-ltb}
use Rattle.laws.proofs.Value.{value_same}
use Rattle.laws.proofs.Bits.{binade-down}
use Rattle.laws.proofs.Relative.{Rat, nonnegative-of-value, positive-of-num, rat-mul, rat-trans, rat-weaken, sub-round}
use Rattle.roots_tables.specs.Tables.{constants, slopes, bends}
use Rattle.roots.specs.Seed.{argument, left_end, quadratic, seed_of}
use Rattle.roots.specs.Sqrt.{scaled}
use Rattle.roots.proofs.WholeRoot.{which}
use Rattle.roots.proofs.Significand.{low-scaled, high-scaled}
use Rattle.roots.proofs.Off.{Offset, Off, off-value, off-more, off-add, off-sub, off-mul}
use Rattle.roots.proofs.SeedSweep.{least, most, parts, scale, left_of, part_of, whole_at, Piece, Accurate, piece-at}

-- ---- the argument, the left end and the distance, in units of 2 ^ -52
pub argument-value : (w : ℕ) → w < 2 ^ 53 → HasValue (argument w) false (scaled w) (2 ^ 52)
argument-value w h =
    elim (which w (2 ^ 52)) [
      | inl k ↦
          let e : 1023 * 2 ^ 52 + w ≡ w + 0x3FF0000000000000 = omega arith in
          let g : 2 ^ 52 + w ≡ scaled w = (let s = low-scaled w k in omega arith) in
          subst (λ (b : ℕ). HasValue (of_bits binary64 b) false (scaled w) (2 ^ 52)) e (subst (λ (n : ℕ). HasValue (of_bits binary64 (1023 * 2 ^ 52 + w)) false n (2 ^ 52)) g (binade-down 52 w (lit< tt) k))
      | inr k ↦
          let v = w - 2 ^ 52 in
          let e : 1024 * 2 ^ 52 + v ≡ w + 0x3FF0000000000000 = omega arith in
          let g : (2 ^ 52 + v) * 2 ^ 52 ≡ scaled w * 2 ^ 51 = (let s = high-scaled w k in omega arith) in
          subst (λ (b : ℕ). HasValue (of_bits binary64 b) false (scaled w) (2 ^ 52)) e
          (value_same (of_bits binary64 (1024 * 2 ^ 52 + v)) false (2 ^ 52 + v) (2 ^ 51) (scaled w) (2 ^ 52) (pow_pos 51) g (binade-down 51 v (lit< tt) (omega arith)))
    ]

abbrev distance : ℕ → ℕ
distance w = cond (ltb (w / 2 ^ 46) 64) (w % 2 ^ 46) (w % 2 ^ 46 * 2)

-- the three numbers in either half
placed : (w : ℕ) → w < 2 ^ 53 → (scaled w ≡ left_of (w / 2 ^ 46) + distance w) × (scaled (w - w % 2 ^ 46) ≡ left_of (w / 2 ^ 46)) × (distance w < 16 * part_of (w / 2 ^ 46)) × (distance w < 2 ^ 47)
placed w h =
    let i = w / 2 ^ 46 in
    let t = w % 2 ^ 46 in
    elim (which i 64) [
      | inl k ↦
          let b = lt-ltb i 64 k in
          let l : left_of i ≡ (64 + i) * 2 ^ 46 = ap (λ (c : Bool). cond c ((64 + i) * 2 ^ 46) (i * 2 ^ 47)) b in
          let d : distance w ≡ t = ap (λ (c : Bool). cond c t (t * 2)) b in
          let p : part_of i ≡ 2 ^ 42 = ap (λ (c : Bool). cond c (2 ^ 42) (2 ^ 43)) b in
          let s : scaled w ≡ w + 2 ^ 52 = low-scaled w (omega arith) in
          let r : scaled (w - t) ≡ w - t + 2 ^ 52 = low-scaled (w - t) (omega arith) in
          (omega arith, omega arith, omega arith, omega arith)
      | inr k ↦
          let b = le-ltb i 64 k in
          let l : left_of i ≡ i * 2 ^ 47 = ap (λ (c : Bool). cond c ((64 + i) * 2 ^ 46) (i * 2 ^ 47)) b in
          let d : distance w ≡ t * 2 = ap (λ (c : Bool). cond c t (t * 2)) b in
          let p : part_of i ≡ 2 ^ 43 = ap (λ (c : Bool). cond c (2 ^ 42) (2 ^ 43)) b in
          let s : scaled w ≡ w * 2 = high-scaled w (omega arith) in
          let r : scaled (w - t) ≡ (w - t) * 2 = high-scaled (w - t) (omega arith) in
          (omega arith, omega arith, omega arith, omega arith)
    ]

left-value : (w : ℕ) → w < 2 ^ 53 → HasValue (left_end w) false (left_of (w / 2 ^ 46)) (2 ^ 52)
left-value w h = subst (λ (n : ℕ). HasValue (left_end w) false n (2 ^ 52)) (placed w h).1 (argument-value (w - w % 2 ^ 46) (omega arith))

-- the subtraction is exact
difference-value : (x y : Float) (a b d k : ℕ) → a ≡ b + d → d < 2 ^ 53 → k ≤ 1074 → HasValue x false a (2 ^ k) → HasValue y false b (2 ^ k) → HasValue (sub binary64 x y) false d (2 ^ k)
difference-value x y a b d k e u l v w =
    let K = 2 ^ k in
    let nx = value→cross x a K v in
    let ny = value→cross y b K w in
    let q = den x * den y in
    let m : num y * den x ≤ num x * den y =
    le_of_mul-le-mul_right
    (le_trans (le_of_eq (mul_right_comm (num y) (den x) K ∙ ap (λ (t : ℕ). t * den x) ny ∙ mul_assoc b (den y) (den x) ∙ ap (λ (t : ℕ). b * t) (mul_comm (den y) (den x))))
    (le_trans (mul-le-mul_right q (le_trans (omega arith) (le_of_eq (sym e))))
    (le_of_eq (sym (mul_right_comm (num x) (den y) K ∙ ap (λ (t : ℕ). t * den y) nx ∙ mul_assoc a (den x) (den y))))))
    (pow_pos k) in
    let c : (num x * den y - num y * den x) * K ≡ d * q =
    mul_comm (num x * den y - num y * den x) K ∙ mul-sub K (num x * den y) (num y * den x)
    ∙ ap (λ (t : ℕ). t - K * (num y * den x)) (mul_comm K (num x * den y) ∙ mul_right_comm (num x) (den y) K ∙ ap (λ (t : ℕ). t * den y) nx ∙ mul_assoc a (den x) (den y))
    ∙ ap (λ (t : ℕ). a * q - t) (mul_comm K (num y * den x) ∙ mul_right_comm (num y) (den x) K ∙ ap (λ (t : ℕ). t * den x) ny ∙ mul_assoc b (den y) (den x) ∙ ap (λ (t : ℕ). b * t) (mul_comm (den y) (den x)))
    ∙ ap (λ (t : ℕ). t * q - b * q) e
    ∙ ap (λ (t : ℕ). t - b * q) (add-mul b d q)
    ∙ add-sub_cancel_left (b * q) (d * q) in
    let r : sub binary64 x y ≡ round binary64 false d K =
    sub-round binary64 x y (nonnegative-of-value x a K v) (nonnegative-of-value y b K w) m
    ∙ round_same binary64 false (num x * den y - num y * den x) q d K (mul-pos (den_pos x) (den_pos y)) (pow_pos k) c in
    let j = 1074 - k in
    let g : j + k ≡ 1074 = omega arith in
    let s : d * 2 ^ 1074 ≡ d * 2 ^ j * 2 ^ k = ap (λ (t : ℕ). d * t) (ap (λ (t : ℕ). 2 ^ t) (sym g) ∙ pow-add 2 j k) ∙ sym (mul_assoc d (2 ^ j) (2 ^ k)) in
    let f : d * 2 ^ j < 2 ^ 2098 = lt_of_lt_of_le (mul-lt-mul_of_pos_right u (pow_pos j)) (le_trans (le_of_eq (sym (pow-add 2 53 j))) (pow_mono {i = 53 + j} {j = 2098} (omega arith))) in
    subst (λ (z : Float). HasValue z false d K) (sym r) (round_exact binary64 false d K d j (pow_pos k) u f s)

distance-value : (w : ℕ) → w < 2 ^ 53 → HasValue (sub binary64 (argument w) (left_end w)) false (distance w) (2 ^ 52)
distance-value w h =
    let p = placed w h in
    difference-value (argument w) (left_end w) (scaled w) (left_of (w / 2 ^ 46)) (distance w) 52 p.0 (omega (arith, p.3)) (lit≤ tt) (argument-value w h) (left-value w h)

-- ---- the quadratic's five roundings, in units of 2 ^ -162: together below 2 ^ -50
sum-le : {a b A B : ℕ} → a ≤ A → b ≤ B → a + b ≤ A + B
sum-le h k = omega arith

module _ (c0 c1 c2 d : Float) (C0 C1 C2 x : ℕ) (v0 : HasValue c0 false C0 (2 ^ 52)) (v1 : HasValue c1 false C1 (2 ^ 54)) (v2 : HasValue c2 false C2 (2 ^ 58)) (vd : HasValue d false x (2 ^ 52)) (l0 : 2 ^ 52 ≤ C0) (u0 : C0 ≤ 2 ^ 53) (u1 : C1 ≤ 2 ^ 53) (u2 : C2 ≤ 2 ^ 55) (ux : x ≤ 2 ^ 47) where
  small : x ≤ 2 ^ 52
  small = le_trans ux (lit≤ tt)

  rising : C1 * 2 ^ 56 * x ≤ 2 ^ 156
  rising = mul-le-mul (mul-le-mul_right (2 ^ 56) u1) ux

  bending : C2 * 2 ^ 52 * x ≤ 2 ^ 154
  bending = mul-le-mul (mul-le-mul_right (2 ^ 52) u2) ux

  bent : C2 * (x * x) ≤ 2 ^ 149
  bent = mul-le-mul u2 (mul-le-mul ux ux)

  linear : Off (2 ^ 162) (mul binary64 c1 d) (C1 * 2 ^ 56 * x) (0 + 2 ^ 102)
  linear =
      off-mul c1 d x (2 ^ 52) (C1 * 2 ^ 56 * x) 0 7 (2 ^ 102) (pow_pos 162) (pow_pos 52)
      (off-value (2 ^ 162) c1 C1 (2 ^ 54) (C1 * 2 ^ 108) (pow_pos 54) v1 (sym (mul_assoc C1 (2 ^ 108) (2 ^ 54))))
      vd
      (mul_right_comm C1 (2 ^ 108) x ∙ sym (mul_right_comm (C1 * 2 ^ 56) x (2 ^ 52) ∙ ap (λ (t : ℕ). t * x) (mul_assoc C1 (2 ^ 56) (2 ^ 52)) ∙ mul_right_comm C1 (2 ^ 108) x))
      small
      (le_trans (mul-le-mul_right (2 ^ 7) (sum-le rising (lit≤ {m = 0} {n = 0} tt))) (lit≤ tt))
      (lit≤ tt)
      (lit≤ tt)
      (lit≤ tt)

  sloped : Off (2 ^ 162) (add binary64 c0 (mul binary64 c1 d)) (C0 * 2 ^ 110 + C1 * 2 ^ 56 * x) (0 + (0 + 2 ^ 102) + 2 ^ 110)
  sloped =
      off-add c0 (mul binary64 c1 d) 1 0 (2 ^ 110) (pow_pos 162)
      (off-value (2 ^ 162) c0 C0 (2 ^ 52) (C0 * 2 ^ 110) (pow_pos 52) v0 (sym (mul_assoc C0 (2 ^ 110) (2 ^ 52))))
      linear
      (le_trans (mul-le-mul_right (2 ^ 0) (sum-le (sum-le (mul-le-mul_right (2 ^ 110) u0) rising) (lit≤ {m = 0 + (0 + 2 ^ 102)} {n = 2 ^ 102} tt))) (lit≤ tt))
      (lit≤ tt)
      (lit≤ tt)
      (lit≤ tt)

  once : Off (2 ^ 162) (mul binary64 c2 d) (C2 * 2 ^ 52 * x) (0 + 2 ^ 100)
  once =
      off-mul c2 d x (2 ^ 52) (C2 * 2 ^ 52 * x) 0 9 (2 ^ 100) (pow_pos 162) (pow_pos 52)
      (off-value (2 ^ 162) c2 C2 (2 ^ 58) (C2 * 2 ^ 104) (pow_pos 58) v2 (sym (mul_assoc C2 (2 ^ 104) (2 ^ 58))))
      vd
      (mul_right_comm C2 (2 ^ 104) x ∙ sym (mul_right_comm (C2 * 2 ^ 52) x (2 ^ 52) ∙ ap (λ (t : ℕ). t * x) (mul_assoc C2 (2 ^ 52) (2 ^ 52)) ∙ mul_right_comm C2 (2 ^ 104) x))
      small
      (le_trans (mul-le-mul_right (2 ^ 9) (sum-le bending (lit≤ {m = 0} {n = 0} tt))) (lit≤ tt))
      (lit≤ tt)
      (lit≤ tt)
      (lit≤ tt)

  twice : Off (2 ^ 162) (mul binary64 (mul binary64 c2 d) d) (C2 * (x * x)) (0 + 2 ^ 100 + 2 ^ 108)
  twice =
      off-mul (mul binary64 c2 d) d x (2 ^ 52) (C2 * (x * x)) 0 1 (2 ^ 108) (pow_pos 162) (pow_pos 52) once vd
      (simp (mul_assoc, mul_comm, mul_left_comm))
      small
      (le_trans (mul-le-mul_right (2 ^ 1) (sum-le bent (lit≤ {m = 0 + 2 ^ 100} {n = 2 ^ 100} tt))) (lit≤ tt))
      (lit≤ tt)
      (lit≤ tt)
      (lit≤ tt)

  over-bend : C2 * (x * x) + (0 + 2 ^ 100 + 2 ^ 108) + (0 + (0 + 2 ^ 102) + 2 ^ 110) ≤ C0 * 2 ^ 110 + C1 * 2 ^ 56 * x
  over-bend =
      le_trans (sum-le (sum-le bent (lit≤ {m = 0 + 2 ^ 100 + 2 ^ 108} {n = 2 ^ 109} tt)) (lit≤ {m = 0 + (0 + 2 ^ 102) + 2 ^ 110} {n = 2 ^ 111} tt))
      (le_trans (lit≤ {m = 2 ^ 149 + 2 ^ 109 + 2 ^ 111} {n = 2 ^ 162} tt) (le_trans (mul-le-mul_right (2 ^ 110) l0) (omega arith)))

  floor : 2 ^ 161 + 2 ^ 112 + C2 * (x * x) ≤ C0 * 2 ^ 110 + C1 * 2 ^ 56 * x
  floor = le_trans (sum-le (lit≤ {m = 2 ^ 161 + 2 ^ 112} {n = 2 ^ 161 + 2 ^ 112} tt) bent) (le_trans (lit≤ {m = 2 ^ 161 + 2 ^ 112 + 2 ^ 149} {n = 2 ^ 162} tt) (le_trans (mul-le-mul_right (2 ^ 110) l0) (le-add_right (C0 * 2 ^ 110) (C1 * 2 ^ 56 * x))))

  ceiling : C0 * 2 ^ 110 + C1 * 2 ^ 56 * x + 2 ^ 112 ≤ 2 ^ 164
  ceiling = le_trans (sum-le (sum-le (mul-le-mul_right (2 ^ 110) u0) rising) (lit≤ {m = 2 ^ 112} {n = 2 ^ 112} tt)) (lit≤ tt)

  quadratic-off : Off (2 ^ 162) (quadratic c0 c1 c2 d) (C0 * 2 ^ 110 + C1 * 2 ^ 56 * x - C2 * (x * x)) (2 ^ 112)
  unfolding quadratic
  quadratic-off =
      off-more (2 ^ 112) (lit≤ {m = 0 + (0 + 2 ^ 102) + 2 ^ 110 + (0 + 2 ^ 100 + 2 ^ 108) + 2 ^ 110} {n = 2 ^ 112} tt)
      (off-sub (add binary64 c0 (mul binary64 c1 d)) (mul binary64 (mul binary64 c2 d) d) 1 0 (2 ^ 110) (pow_pos 162) sloped twice over-bend
      (le_trans (mul-le-mul_right (2 ^ 0) (sum-le (le_trans (sub-le (C0 * 2 ^ 110 + C1 * 2 ^ 56 * x) (C2 * (x * x))) (sum-le (mul-le-mul_right (2 ^ 110) u0) rising)) (lit≤ {m = 0 + (0 + 2 ^ 102) + 2 ^ 110 + (0 + 2 ^ 100 + 2 ^ 108)} {n = 2 ^ 111} tt))) (lit≤ tt))
      (lit≤ tt)
      (lit≤ tt)
      (lit≤ tt))

-- ---- the seed: above zero, between 1/2 and 4, and its square against the argument
pub record Seed (w : ℕ) : Type 0 where
  pub is_positive : T (positive (seed_of w))
  pub least : den (seed_of w) ≤ 2 * num (seed_of w)
  pub most : num (seed_of w) ≤ 4 * den (seed_of w)
  pub close : Rat (2 ^ 31 - 39) (2 ^ 31 + 39) (2 ^ 31) (num (seed_of w) * num (seed_of w)) (den (seed_of w) * den (seed_of w)) (scaled w) (2 ^ 52)

-- n / m is Z / K to within 2 ^ 112, for a Z of 2 ^ 161 at least
relative : (n m Z K E : ℕ) → 2 ^ 49 * E ≤ Z → Offset K n m Z E → Rat (2 ^ 49 - 1) (2 ^ 49 + 1) (2 ^ 49) n m Z K
relative n m Z K E h o = let x = mul-le-mul_right m h in let a = o.above in let b = o.below in record { lower = omega arith; upper = omega arith }

exact-rat : (Z F : ℕ) → Accurate Z F → Rat least most parts (Z * Z) (2 ^ 162 * 2 ^ 162) F (2 ^ 52)
exact-rat Z F a =
    let out : (U : ℕ) → U * F * scale * 2 ^ 52 ≡ U * (F * (2 ^ 162 * 2 ^ 162)) = λ U. mul_assoc (U * F) scale (2 ^ 52) ∙ mul_assoc U F (scale * 2 ^ 52) in
    let back : Z * Z * parts * 2 ^ 52 ≡ parts * (Z * Z * 2 ^ 52) = ap (λ (t : ℕ). t * 2 ^ 52) (mul_comm (Z * Z) parts) ∙ mul_assoc parts (Z * Z) (2 ^ 52) in
    record {
      lower = le_trans (le_of_eq (sym (out least))) (le_trans (mul-le-mul_right (2 ^ 52) a.0) (le_of_eq back));
      upper = le_trans (le_of_eq (sym back)) (le_trans (mul-le-mul_right (2 ^ 52) a.1) (le_of_eq (out most)));
    }

-- between 1/2 and 4
half-least : (n m Z K E : ℕ) → 0 < K → 2 * (Z + E) ≤ 8 * K → K + 2 * E ≤ 2 * Z → Offset K n m Z E → (m ≤ 2 * n) × (n ≤ 4 * m)
half-least n m Z K E k h g o =
    let a = o.above in
    let b = o.below in
    let x = mul-le-mul_right m h in
    let y = mul-le-mul_right m g in
    let p : m * K ≤ 2 * n * K = omega arith in
    let q : n * K ≤ 4 * m * K = omega arith in
    (le_of_mul-le-mul_right p k, le_of_mul-le-mul_right q k)

seed-of : (w Z : ℕ) → Off (2 ^ 162) (seed_of w) Z (2 ^ 112) → Accurate Z (scaled w) → 2 ^ 161 + 2 ^ 112 ≤ Z → Z + 2 ^ 112 ≤ 2 ^ 164 → Seed w
seed-of w Z o a l u =
    let s = seed_of w in
    let b = half-least (num s) (den s) Z (2 ^ 162) (2 ^ 112) (pow_pos 162) (le_trans (mul-le-mul_left 2 u) (lit≤ tt)) (le_trans (lit≤ tt) (mul-le-mul_left 2 l)) o.near in
    let r = relative (num s) (den s) Z (2 ^ 162) (2 ^ 112) (le_trans (lit≤ tt) l) o.near in
    record {
      is_positive = positive-of-num s o.bare (first-pos' (num s) (den s) (den_pos s) b.0);
      least = b.0;
      most = b.1;
      close = rat-weaken (lit< tt) (lit≤ tt) (lit≤ tt) (rat-trans (mul-pos (pow_pos 162) (pow_pos 162)) (rat-mul r r) (exact-rat Z (scaled w) a));
    }
  where
    first-pos' : (n m : ℕ) → 0 < m → m ≤ 2 * n → 0 < n
    first-pos' n m p h = omega arith

left_over : (N A B : ℕ) → N + B ≤ A → (N ≤ A - B) × (A - B + B ≡ A) × (A - B ≤ A)
left_over N A B h = (omega arith, omega arith, omega arith)

seed-piece : (w : ℕ) (c0 c1 c2 : Float) → w < 2 ^ 53 → Piece (w / 2 ^ 46) c0 c1 c2 → seed_of w ≡ quadratic c0 c1 c2 (sub binary64 (argument w) (left_end w)) → Seed w
seed-piece w c0 c1 c2 h P e =
    let x = distance w in
    let C0 = whole_at c0 52 in
    let C1 = whole_at c1 54 in
    let C2 = whole_at c2 58 in
    let d = sub binary64 (argument w) (left_end w) in
    let p = placed w h in
    let A = C0 * 2 ^ 110 + C1 * 2 ^ 56 * x in
    let B = C2 * (x * x) in
    let v0 = P.constant.value in
    let v1 = P.slope.value in
    let v2 = P.bend.value in
    let vd = distance-value w h in
    let l0 = P.constant.low in
    let u0 = P.constant.high in
    let u1 = P.slope.high in
    let u2 = P.bend.high in
    let ux : x ≤ 2 ^ 47 = le_of_lt p.3 in
    let r = left_over (2 ^ 161 + 2 ^ 112) A B (floor c0 c1 c2 d C0 C1 C2 x v0 v1 v2 vd l0 u0 u1 u2 ux) in
    seed-of w (A - B) (subst (λ (z : Float). Off (2 ^ 162) z (A - B) (2 ^ 112)) (sym e) (quadratic-off c0 c1 c2 d C0 C1 C2 x v0 v1 v2 vd l0 u0 u1 u2 ux))
    (subst (Accurate (A - B)) (sym p.0) (P.close x (A - B) p.2 r.1))
    r.0
    (le_trans (sum-le r.2 (lit≤ {m = 2 ^ 112} {n = 2 ^ 112} tt)) (ceiling c0 c1 c2 d C0 C1 C2 x v0 v1 v2 vd l0 u0 u1 u2 ux))

seed-is : (w : ℕ) → seed_of w ≡ quadratic (get_or constants (w / 2 ^ 46) nan) (get_or slopes (w / 2 ^ 46) nan) (get_or bends (w / 2 ^ 46) nan) (sub binary64 (argument w) (left_end w))
unfolding seed_of
seed-is w = refl

pub seed-close : (w : ℕ) → w < 2 ^ 53 → Seed w
seed-close w h = seed-piece w (get_or constants (w / 2 ^ 46) nan) (get_or slopes (w / 2 ^ 46) nan) (get_or bends (w / 2 ^ 46) nan) h (piece-at (w / 2 ^ 46) (omega arith)) (seed-is w)
