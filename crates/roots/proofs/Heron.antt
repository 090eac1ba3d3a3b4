-- The Heron step: the square of s + f / s is 4 f and the square of s - f / s, so a seed to one part in 2^25 gives twice the root to one part in 2^50, the two roundings included. Assumes nothing.
use mathlib.Core.Path.{◌≡◌, sym, ap, ◌∙◌}
use mathlib.Core.Logic.{◌⊎◌, inl, inr}
use mathlib.Core.Bool.{false}
use Prim.Native.Nat.{ℕ, ◌+◌, ◌-◌, ◌*◌, ◌^◌, ◌≤◌, ◌<◌}
use native.Mathlib.Nat.{le_trans, le_of_eq, mul-one, mul_assoc, mul_comm, mul_left_comm, add-mul, mul-add, mul-pos, mul-le-mul, mul-le-mul_left, mul-le-mul_right, le_of_mul-le-mul_right}
use native.Mathlib.Omega.{arith}
use lib.Dec.{T, lit<, lit≤}
use lib.Pow.{pow_pos}
use lib.Ieee.{Float, binary64, add, div}
use lib.Ieee.Exact.{HasValue}
use lib.Ieee.Positive.{num, den, positive, den_pos, value→cross, positive_of_value}
use Rattle.laws.proofs.Relative.{Rat, Close, largest, positive-num, rat-refl, rat-mul, rat-trans, rat-weaken, rat-add, rat-right, rat-le, add-finite, div-finite, add-close, div-close}
use Rattle.roots.specs.Seed.{folded, argument, seed_of, twice_root}
use Rattle.roots.specs.Sqrt.{scaled}
use Rattle.roots.proofs.WholeRoot.{which}
use Rattle.roots.proofs.Significand.{scaled-range}
use Rattle.roots.proofs.SeedClose.{seed-close, argument-value}

-- ---- (P + R) ^ 2 is 4 P R and the square of what P and R differ by
gap : (P R e : ℕ) → (P ≡ R + e) ⊎ (R ≡ P + e) → (P + R) * (P + R) ≡ 4 * (P * R) + e * e
gap P R e (inl h) = ap (λ (t : ℕ). (t + R) * (t + R)) h ∙ simp (add-mul, mul-add) (omega arith) ∙ ap (λ (t : ℕ). 4 * (t * R) + e * e) (sym h)
gap P R e (inr h) = ap (λ (t : ℕ). (P + t) * (P + t)) h ∙ simp (add-mul, mul-add) (omega arith) ∙ ap (λ (t : ℕ). 4 * (P * t) + e * e) (sym h)

-- 39 parts in 2 ^ 31 apart: e is what they differ by
small-gap : (D P R e : ℕ) → 0 < D → D * e ≤ 39 * R → (D - 39) * R ≤ D * P → D * (D - 39) * (e * e) ≤ 1521 * (P * R)
small-gap D P R e p h k =
    let W = D - 39 in
    let x : D * e * (D * e) ≤ 39 * R * (39 * R) = mul-le-mul h h in
    let y : D * e * (D * e) * W ≤ 39 * R * (39 * R) * W = mul-le-mul_right W x in
    let z : W * R * R ≤ D * P * R = mul-le-mul_right R k in
    let g : D * W * (e * e) * D ≤ 1521 * (P * R) * D = omega arith in
    le_of_mul-le-mul_right g p

heron-square : (P R : ℕ) → (2 ^ 31 - 39) * R ≤ 2 ^ 31 * P → 2 ^ 31 * P ≤ (2 ^ 31 + 39) * R → (4 * (P * R) ≤ (P + R) * (P + R)) × (2 ^ 31 * (2 ^ 31 - 39) * 4 * ((P + R) * (P + R)) ≤ (2 ^ 31 * (2 ^ 31 - 39) * 4 + 1521) * (4 * (P * R)))
heron-square P R l u =
    elim (which P R) [
      | inl h ↦
          let e = R - P in
          let s : R ≡ P + e = omega arith in
          let g = gap P R e (inr s) in
          let k = small-gap (2 ^ 31) P R e (lit< tt) (omega arith) l in
          (omega arith, omega arith)
      | inr h ↦
          let e = P - R in
          let s : P ≡ R + e = omega arith in
          let g = gap P R e (inl s) in
          let k = small-gap (2 ^ 31) P R e (lit< tt) (omega arith) l in
          (omega arith, omega arith)
    ]

module _ (s f : Float) (n : ℕ) (p : T (positive s)) (l : den s ≤ 2 * num s) (u : num s ≤ 4 * den s) (v : HasValue f false n (2 ^ 52)) (nl : 2 ^ 52 ≤ n) (nu : n ≤ 2 ^ 54)
    (c : Rat (2 ^ 31 - 39) (2 ^ 31 + 39) (2 ^ 31) (num s * num s) (den s * den s) n (2 ^ 52)) where
  F : T (positive f)
  F = positive_of_value f n (2 ^ 52) v (le_trans (lit≤ {m = 1} {n = 2 ^ 52} tt) nl)

  least-f : den f ≤ num f
  least-f = let e = value→cross f n (2 ^ 52) v in let x = mul-le-mul_right (den f) nl in le_of_mul-le-mul_right {k = 2 ^ 52} (omega arith) (pow_pos 52)

  most-f : num f ≤ 4 * den f
  most-f = let e = value→cross f n (2 ^ 52) v in let x = mul-le-mul_right (den f) nu in le_of_mul-le-mul_right {k = 2 ^ 52} (omega arith) (pow_pos 52)

  -- the quotient, between 1/4 and 8
  q-low : num s * den f ≤ 4 * (num f * den s)
  q-low = let x = mul-le-mul u least-f in omega arith

  q-high : num f * den s ≤ 8 * (num s * den f)
  q-high = let x = mul-le-mul most-f l in omega arith

  big : (a : ℕ) → 4 * a ≤ a * 2 ^ 1022
  big a = le_trans (le_of_eq (mul_comm 4 a)) (mul-le-mul_left a (lit≤ tt))

  fewer : (a b k : ℕ) → k ≤ largest binary64 → a ≤ k * b → a ≤ largest binary64 * b
  fewer a b k h g = le_trans g (mul-le-mul_right b h)

  quotient : T (positive (div binary64 f s)) × Close binary64 (num (div binary64 f s)) (den (div binary64 f s)) (num f * den s) (num s * den f)
  quotient = div-close binary64 f s F p (le_trans q-low (big (num f * den s))) (div-finite binary64 f s F p (fewer (num f * den s) (num s * den f) 8 (lit≤ tt) q-high))

  -- at most 16
  q-most : num (div binary64 f s) ≤ 16 * den (div binary64 f s)
  q-most =
      let h : num f * den s * 1 ≤ 8 * (num s * den f) = le_trans (le_of_eq (mul-one (num f * den s))) q-high in
      let x = rat-le 8 1 (mul-pos (positive-num s p) (den_pos f)) quotient.1 h in
      omega arith

  sum_low : den s * den (div binary64 f s) ≤ 4 * (num s * den (div binary64 f s) + num (div binary64 f s) * den s)
  sum_low = let x = mul-le-mul_right (den (div binary64 f s)) l in omega arith

  sum-high : num s * den (div binary64 f s) + num (div binary64 f s) * den s ≤ 20 * (den s * den (div binary64 f s))
  sum-high = let x = mul-le-mul_right (den (div binary64 f s)) u in let y = mul-le-mul_right (den s) q-most in omega arith

  total : T (positive (add binary64 s (div binary64 f s))) × Close binary64 (num (add binary64 s (div binary64 f s))) (den (add binary64 s (div binary64 f s))) (num s * den (div binary64 f s) + num (div binary64 f s) * den s) (den s * den (div binary64 f s))
  total =
      add-close binary64 s (div binary64 f s) p quotient.0 (le_trans sum_low (big (num s * den (div binary64 f s) + num (div binary64 f s) * den s)))
      (add-finite binary64 s (div binary64 f s) p quotient.0 (fewer (num s * den (div binary64 f s) + num (div binary64 f s) * den s) (den s * den (div binary64 f s)) 20 (lit≤ tt) sum-high))

  -- against the exact s + f / s
  rounded : Rat ((2 ^ 53 - 1) * (2 ^ 53 - 1)) ((2 ^ 53 + 1) * (2 ^ 53 + 1)) (2 ^ 53 * 2 ^ 53) (num (add binary64 s (div binary64 f s))) (den (add binary64 s (div binary64 f s)))
      (num s * (num s * den f) + num f * den s * den s) (den s * (num s * den f))
  rounded = rat-trans (mul-pos (den_pos s) (den_pos (div binary64 f s))) total.1 (rat-add (rat-weaken (lit< tt) (lit≤ tt) (lit≤ tt) (rat-refl (num s) (den s))) quotient.1)

  -- the square of that against 4 f
  exact : Rat (2 ^ 31 * (2 ^ 31 - 39) * 4) (2 ^ 31 * (2 ^ 31 - 39) * 4 + 1521) (2 ^ 31 * (2 ^ 31 - 39) * 4)
      ((num s * (num s * den f) + num f * den s * den s) * (num s * (num s * den f) + num f * den s * den s)) (den s * (num s * den f) * (den s * (num s * den f))) (4 * num f) (den f)
  exact =
      let e = value→cross f n (2 ^ 52) v in
      let c' = rat-right (num f) (den f) (pow_pos 52) e c in
      let P = num s * (num s * den f) in
      let R = num f * den s * den s in
      let h = heron-square P R (le_trans (le_of_eq (simp (mul_assoc, mul_comm, mul_left_comm))) (le_trans c'.lower (le_of_eq (simp (mul_assoc, mul_comm, mul_left_comm))))) (le_trans (le_of_eq (simp (mul_assoc, mul_comm, mul_left_comm))) (le_trans c'.upper (le_of_eq (simp (mul_assoc, mul_comm, mul_left_comm))))) in
      let x = mul-le-mul_right (den f) h.0 in
      let y = mul-le-mul_right (den f) h.1 in
      record { lower = omega arith; upper = omega arith }

  heron-close : T (positive (add binary64 s (div binary64 f s)))
      × Rat (2 ^ 60 - 513) (2 ^ 60 + 608) (2 ^ 60) (num (add binary64 s (div binary64 f s)) * num (add binary64 s (div binary64 f s))) (den (add binary64 s (div binary64 f s)) * den (add binary64 s (div binary64 f s))) (4 * n) (2 ^ 52)
  heron-close =
      let e = value→cross f n (2 ^ 52) v in
      let z : 4 * n * den f ≡ 4 * num f * 2 ^ 52 = mul_assoc 4 n (den f) ∙ ap (λ (t : ℕ). 4 * t) (sym e) ∙ sym (mul_assoc 4 (num f) (2 ^ 52)) in
      let w : 0 < den s * (num s * den f) = mul-pos (den_pos s) (mul-pos (positive-num s p) (den_pos f)) in
      (total.0, rat-weaken (lit< tt) (lit≤ tt) (lit≤ tt) (rat-right (4 * n) (2 ^ 52) (den_pos f) z (rat-trans (mul-pos w w) (rat-mul rounded rounded) exact)))

-- ---- of a pattern: twice the root of its significand, brought to [1, 4)
pub record Doubled (u : ℕ) : Type 0 where
  pub is_positive : T (positive (twice_root u))
  pub close : Rat (2 ^ 60 - 513) (2 ^ 60 + 608) (2 ^ 60) (num (twice_root u) * num (twice_root u)) (den (twice_root u) * den (twice_root u)) (4 * scaled (folded u)) (2 ^ 52)

pub twice-close : (u : ℕ) → Doubled u
unfolding twice_root
twice-close u =
    let w = folded u in
    let h : w < 2 ^ 53 = omega arith in
    let S = seed-close w h in
    let r = scaled-range w h in
    let k = heron-close (seed_of w) (argument w) (scaled w) S.is_positive S.least S.most (argument-value w h) r.0 (le_trans r.1 (lit≤ tt)) S.close in
    record { is_positive = k.0; close = k.1 }
