-- Hypot's scaled sums: where the squares of the parts would underflow the parts are scaled up, where they would overflow down, and the sum of the scaled
-- squares is close to the true one. Assumes nothing.
use mathlib.Core.Path.{◌≡◌, sym, ap, ◌∙◌}
use mathlib.Core.Bool.{false}
use Prim.Native.Nat.{ℕ, ◌+◌, ◌*◌, ◌^◌, ◌≤◌, ◌<◌}
use native.Mathlib.Nat.{le_trans, le_of_eq, mul_assoc, mul_comm, mul_left_comm, mul_right_comm, mul-mul-mul_comm, add-mul, mul-pos, mul-le-mul, mul-le-mul_left, mul-le-mul_right, le-add_right}
use lib.Dec.{T, lit≤}
use lib.Pow.{pow_pos}
use lib.Ieee.{Float, binary64, round, add, mul, le, fits}
use lib.Ieee.Positive.{num, den, den_pos}
use lib.Ieee.Scale.{finite}
use Rattle.laws.proofs.Value.{sign, own-fraction}
use Rattle.roots.specs.Hypot.{sum_of_squares, least_sum, greatest_sum, larger, smaller}
use Rattle.roots.specs.Close.{squares_over, squares_under}
use Rattle.roots.proofs.HypotSum.{Summed, summed, square-round}
use Rattle.roots.proofs.HypotRange.{above_floor, below-ceiling}
use Rattle.roots.proofs.HypotParts.{Part, least-value, parts-finite, up-part, down-part}
use Rattle.roots.proofs.HypotRoot.{from-squares}

-- the squares of the parts themselves, rounded
pub summed-is : (x y : Float) → T (finite x) → T (finite y) → sum_of_squares x y ≡ add binary64 (round binary64 false (num x * num x) (den x * den x)) (round binary64 false (num y * num y) (den y * den y))
unfolding sum_of_squares
summed-is x y f g =
    ap (λ (z : Float). add binary64 z (mul binary64 y y)) (square-round x (sign x) (num x) (den x) (den_pos x) (own-fraction x f))
    ∙ ap (λ (z : Float). add binary64 (round binary64 false (num x * num x) (den x * den x)) z) (square-round y (sign y) (num y) (den y) (den_pos y) (own-fraction y g))

abbrev pub square_by : Float → Float → Float
square_by κ x = mul binary64 (mul binary64 x κ) (mul binary64 x κ)

-- the scaled squares a / c and b / d, and their sum
pub record Scaled (κ x y : Float) (a c b d : ℕ) : Type 0 where
  pub first : Part (square_by κ x) a c
  pub second : Part (square_by κ y) b d
  pub over : 0 < c * d
  pub is_finite : T (finite (add binary64 (square_by κ x) (square_by κ y)))
  pub sum : Summed (add binary64 (square_by κ x) (square_by κ y)) (a * d + b * c) (c * d)

-- with K = 2 ^ 600
pub over-down : (n d m e K : ℕ) → n * n * (e * K * (e * K)) + m * m * (d * K * (d * K)) ≡ (n * n * (e * e) + m * m * (d * d)) * (K * K)
over-down n d m e K = simp (add-mul, mul_assoc, mul_comm, mul_left_comm)

pub under-down : (d e K : ℕ) → d * K * (d * K) * (e * K * (e * K)) ≡ d * d * (e * e) * (K * K * (K * K))
under-down d e K = simp (mul_assoc, mul_comm, mul_left_comm)

-- from a * 2 ^ 798 ≤ c to the parts
thin : (n d : ℕ) → n * n * 2 ^ 798 ≤ d * d → n * 2 ^ 399 ≤ d
thin n d h = from-squares (n * 2 ^ 399) d (le_trans (le_of_eq (mul-mul-mul_comm n (2 ^ 399) n (2 ^ 399))) h)

module _ (x y : Float) (Fx : T (fits binary64 x)) (Fy : T (fits binary64 y)) (fx : T (finite x)) (fy : T (finite y)) where
  Cx : 0 < den x * den x
  Cx = mul-pos (den_pos x) (den_pos x)

  Cy : 0 < den y * den y
  Cy = mul-pos (den_pos y) (den_pos y)

  pub scaled-up : 0 < num x → le least_sum (sum_of_squares x y) ≡ false → Scaled larger x y (num x * 2 ^ 600 * (num x * 2 ^ 600)) (den x * den x) (num y * 2 ^ 600 * (num y * 2 ^ 600)) (den y * den y)
  scaled-up px h =
      let K = 2 ^ 600 in
      let c = below-ceiling (num x * num x) (den x * den x) (num y * num y) (den y * den y) Cx Cy (ap (λ (z : Float). le least_sum z) (sym (summed-is x y fx fy)) ∙ h) in
      let p = up-part x Fx fx (thin (num x) (den x) c.0) in
      let q = up-part y Fy fy (thin (num y) (den y) c.1) in
      let A = square_by larger x in
      let B = square_by larger y in
      let a = num x * K * (num x * K) in
      let b = num y * K * (num y * K) in
      let l = least-value x Fx px in
      let m : den x * den x ≤ a * 2 ^ 1000 =
      le_trans (mul-le-mul l l)
      (le_trans (le_of_eq (mul-mul-mul_comm (num x) (2 ^ 1074) (num x) (2 ^ 1074)))
      (le_trans (mul-le-mul_left (num x * num x) (lit≤ {m = 2 ^ 1074 * 2 ^ 1074} {n = 2 ^ 600 * 2 ^ 600 * 2 ^ 1000} tt))
      (le_of_eq (sym (mul_assoc (num x * num x) (2 ^ 600 * 2 ^ 600) (2 ^ 1000)) ∙ ap (λ (t : ℕ). t * 2 ^ 1000) (sym (mul-mul-mul_comm (num x) (2 ^ 600) (num x) (2 ^ 600))))))) in
      let g : den x * den x * (den y * den y) ≤ (a * (den y * den y) + b * (den x * den x)) * 2 ^ 1000 =
      le_trans (mul-le-mul_right (den y * den y) m) (le_trans (le_of_eq (mul_right_comm a (2 ^ 1000) (den y * den y))) (mul-le-mul_right (2 ^ 1000) (le-add_right (a * (den y * den y)) (b * (den x * den x))))) in
      let F = parts-finite A B a (den x * den x) b (den y * den y) p q in
      record {
        first = p;
        second = q;
        over = mul-pos Cx Cy;
        is_finite = F;
        sum = summed A B a (den x * den x) b (den y * den y) p.bare q.bare p.mixed q.mixed Cx Cy g F;
      }

  pub large_sum : le (sum_of_squares x y) greatest_sum ≡ false → squares_under x y * 2 ^ 998 ≤ squares_over x y
  large_sum h = above_floor (num x * num x) (den x * den x) (num y * num y) (den y * den y) Cx Cy (ap (λ (z : Float). le z greatest_sum) (sym (summed-is x y fx fy)) ∙ h)

  pub scaled-down : le (sum_of_squares x y) greatest_sum ≡ false → Scaled smaller x y (num x * num x) (den x * 2 ^ 600 * (den x * 2 ^ 600)) (num y * num y) (den y * 2 ^ 600 * (den y * 2 ^ 600))
  scaled-down h =
      let K = 2 ^ 600 in
      let p = down-part x Fx fx in
      let q = down-part y Fy fy in
      let A = square_by smaller x in
      let B = square_by smaller y in
      let a = num x * num x in
      let b = num y * num y in
      let c = den x * K * (den x * K) in
      let d = den y * K * (den y * K) in
      let C : 0 < c = mul-pos (mul-pos (den_pos x) (pow_pos 600)) (mul-pos (den_pos x) (pow_pos 600)) in
      let D : 0 < d = mul-pos (mul-pos (den_pos y) (pow_pos 600)) (mul-pos (den_pos y) (pow_pos 600)) in
      let u : c * d ≡ squares_under x y * (K * K * (K * K)) = under-down (den x) (den y) K in
      let o : a * d + b * c ≡ squares_over x y * (K * K) = over-down (num x) (den x) (num y) (den y) K in
      let g : c * d ≤ (a * d + b * c) * 2 ^ 1000 =
      le_trans (le_of_eq u)
      (le_trans (mul-le-mul_left (squares_under x y) (lit≤ {m = K * K * (K * K)} {n = 2 ^ 998 * (K * K * 2 ^ 1000)} tt))
      (le_trans (le_of_eq (sym (mul_assoc (squares_under x y) (2 ^ 998) (K * K * 2 ^ 1000))))
      (le_trans (mul-le-mul_right (K * K * 2 ^ 1000) (large_sum h)) (le_of_eq (sym (mul_assoc (squares_over x y) (K * K) (2 ^ 1000)) ∙ ap (λ (t : ℕ). t * 2 ^ 1000) (sym o)))))) in
      let F = parts-finite A B a c b d p q in
      record { first = p; second = q; over = mul-pos C D; is_finite = F; sum = summed A B a c b d p.bare q.bare p.mixed q.mixed C D g F }
