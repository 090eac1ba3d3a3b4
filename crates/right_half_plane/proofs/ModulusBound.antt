-- The modulus of an argument whose parts are at most 2^15 in magnitude has no minus sign, and is at most 2^16. Assumes nothing.
use mathlib.Core.Path.{◌≡◌, refl, sym, subst}
use mathlib.Core.Bool.{Bool, true, false}
use Prim.Native.Nat.{ℕ, zero, suc, ◌+◌, ◌*◌, ◌^◌, ◌≤◌, ◌<◌}
use native.Mathlib.Nat.{le_trans, le_of_eq, zero-lt-suc, mul-one, one-mul, mul_assoc, mul_comm, mul_left_comm, mul-mul-mul_comm, mul-pos, mul-le-mul, mul-le-mul_left, mul-le-mul_right, le_of_mul-le-mul_right}
use native.Mathlib.Omega.{arith}
use lib.Dec.{T, lit<, lit≤}
use lib.Pow.{pow_pos}
use lib.Ieee.{Float, nan, inf, fin, binary64, up, down, round, size, add, mul, le, of_bits, to_bits, fits}
use lib.Ieee.Fits.{up_pos, add-fits}
use lib.Ieee.Order.{round_mono}
use lib.Ieee.Positive.{num, den, positive, den_pos}
use lib.Ieee.Scale.{finite}
use Rattle.laws.proofs.Value.{sign, own-fraction}
use Rattle.laws.proofs.Relative.{round-finite, round-nonnegative, positive-nonnegative}
use Rattle.laws.proofs.Bound.{Up, Lo, up-test, lo-test, up-weaken, up-of-le, up-finite, lo-of-le, lo-bound, lo-positive, up-lo-le, range-test, mul-up, add-up}
use Rattle.machine.specs.Magnitude.{magnitude_of}
use Rattle.roots.specs.Hypot.{root_at, sum_of_squares, least_sum, greatest_sum, larger, smaller, scaled_hypot, full_hypot, hypot_of}
use Rattle.roots.proofs.HypotCases.{full-within, full-below}
use Rattle.roots.proofs.HypotSum.{square-round}
use Rattle.roots.proofs.HypotScaled.{square_by, scaled-up}
use Rattle.roots.proofs.HypotRoot.{from-squares, root-close}

-- ---- the root of a value up to P is at most R, where P is a little below R squared
cancelled : (X Y n d P R : ℕ) → 0 < d → 2 ^ 49 * (X * d) ≤ (2 ^ 49 + 1) * (n * Y) → n * 1 ≤ P * d → (2 ^ 49 + 1) * P ≤ 2 ^ 49 * (R * R) → X ≤ R * R * Y
cancelled X Y n d P R D u h k =
    let e : (2 ^ 49 + 1) * (P * d * Y) ≡ (2 ^ 49 + 1) * P * (d * Y) = simp (mul_assoc, mul_comm, mul_left_comm) in
    let f : 2 ^ 49 * (R * R) * (d * Y) ≡ R * R * Y * (2 ^ 49 * d) = simp (mul_assoc, mul_comm, mul_left_comm) in
    let g : X * (2 ^ 49 * d) ≡ 2 ^ 49 * (X * d) = simp (mul_assoc, mul_comm, mul_left_comm) in
    le_of_mul-le-mul_right
    (le_trans (le_of_eq g)
    (le_trans u
    (le_trans (mul-le-mul_left (2 ^ 49 + 1) (mul-le-mul_right Y (le_trans (le_of_eq (sym (mul-one n))) h)))
    (le_trans (le_of_eq e) (le_trans (mul-le-mul_right (d * Y) k) (le_of_eq f))))))
    (mul-pos (pow_pos 49) D)

root-up : (S : Float) (P R : ℕ) → T (fits binary64 S) → T (positive S) → den S ≤ num S * 2 ^ 1022 → Up S P 1 → (2 ^ 49 + 1) * P ≤ 2 ^ 49 * (R * R) → Up (root_at (to_bits binary64 S)) R 1
root-up S P R F p n b k =
    let r = root_at (to_bits binary64 S) in
    let c = root-close S F p n in
    record {
      sign = positive-nonnegative r c.0;
      over = lit< tt;
      bound = le_trans (le_of_eq (mul-one (num r))) (from-squares (num r) (R * den r) (le_trans (cancelled (num r * num r) (den r * den r) (num S) (den S) P R (den_pos S) c.1.upper b.bound k) (le_of_eq (mul-mul-mul_comm R R (den r) (den r)))));
    }

-- ---- the sum of the squares themselves
square-bound : Up (round binary64 false (2 ^ 30) 1) (2 ^ 30) 1
unfolding round size
square-bound = up-test (round binary64 false (2 ^ 30) 1) (2 ^ 30) 1 tt

least-lo : Lo least_sum 1 (2 ^ 800)
unfolding least_sum of_bits
least-lo = lo-test least_sum 1 (2 ^ 800) tt

greatest-lo : Lo greatest_sum (2 ^ 1000) 1
unfolding greatest_sum of_bits
greatest-lo = lo-test greatest_sum (2 ^ 1000) 1 tt

squared : (n d : ℕ) → n ≤ 2 ^ 15 * d → n * n ≤ 2 ^ 30 * (d * d)
squared n d h = le_trans (mul-le-mul h h) (le_of_eq (mul-mul-mul_comm (2 ^ 15) d (2 ^ 15) d))

square-up : (x : Float) → T (finite x) → num x ≤ 2 ^ 15 * den x → Up (mul binary64 x x) (2 ^ 30) 1
square-up x f h =
    let a = num x * num x in
    let c = den x * den x in
    let C : 0 < c = mul-pos (den_pos x) (den_pos x) in
    let l = squared (num x) (den x) h in
    let F : T (finite (round binary64 false a c)) = round-finite binary64 a c C (le_trans l (mul-le-mul_right c (lit≤ tt))) in
    subst (λ (z : Float). Up z (2 ^ 30) 1) (sym (square-round x (sign x) (num x) (den x) (den_pos x) (own-fraction x f)))
    (up-of-le (round binary64 false a c) (round binary64 false (2 ^ 30) 1) (round-nonnegative binary64 a c (round binary64 false a c) refl F) (round_mono binary64 a c (2 ^ 30) 1 C (lit< tt) (le_trans (le_of_eq (mul-one a)) l)) square-bound)

module _ (x y : Float) (fx : T (finite x)) (fy : T (finite y)) (bx : num x ≤ 2 ^ 15 * den x) (by : num y ≤ 2 ^ 15 * den y) where
  sum-up : Up (sum_of_squares x y) (2 ^ 31 + 1) 1
  unfolding sum_of_squares
  sum-up = add-up binary64 (2 ^ 31 + 1) 1 (range-test binary64 (2 ^ 31 + 1) 1 tt) (lit≤ tt) (square-up x fx bx) (square-up y fy by)

  not-above : T (le (sum_of_squares x y) greatest_sum)
  not-above = up-lo-le (sum_of_squares x y) greatest_sum sum-up greatest-lo (lit≤ tt)

  within : T (le least_sum (sum_of_squares x y)) → Up (root_at (to_bits binary64 (sum_of_squares x y))) (2 ^ 16) 1
  unfolding sum_of_squares
  within h =
      let S = sum_of_squares x y in
      let l : Lo S 1 (2 ^ 800) = lo-of-le S least_sum (lit< tt) h least-lo in
      let f = up-finite sum-up in
      root-up S (2 ^ 31 + 1) (2 ^ 16) (add-fits binary64 (mul binary64 x x) (mul binary64 y y)) (lo-positive (lit< tt) l f) (le_trans (le_of_eq (sym (one-mul (den S)))) (le_trans (lo-bound l f) (mul-le-mul_left (num S) (lit≤ tt)))) sum-up (lit≤ tt)

-- ---- scaled up, where the squares would underflow
scaled-bound : Up (round binary64 false (2 ^ 900) 1) (2 ^ 900) 1
unfolding round size
scaled-bound = up-test (round binary64 false (2 ^ 900) 1) (2 ^ 900) 1 tt

smaller-up : Up smaller 1 (2 ^ 600)
unfolding smaller of_bits
smaller-up = up-test smaller 1 (2 ^ 600) tt

module _ (x y : Float) (Fx : T (fits binary64 x)) (Fy : T (fits binary64 y)) (fx : T (finite x)) (fy : T (finite y)) where
  below : 0 < num x → le least_sum (sum_of_squares x y) ≡ false → Up (scaled_hypot larger smaller x y) (2 ^ 16) 1
  unfolding scaled_hypot sum_of_squares
  below px h =
      let s = scaled-up x y Fx Fy fx fy px h in
      let A = square_by larger x in
      let B = square_by larger y in
      let high = round binary64 false (2 ^ 900) 1 in
      let u : Up (add binary64 A B) (2 ^ 902) 1 =
      add-up binary64 (2 ^ 902) 1 (range-test binary64 (2 ^ 902) 1 tt) (lit≤ tt) (up-of-le A high s.first.bare s.first.under scaled-bound) (up-of-le B high s.second.bare s.second.under scaled-bound) in
      let r = root-up (add binary64 A B) (2 ^ 902) (2 ^ 452) (add-fits binary64 A B) s.sum.is_positive s.sum.normal u (lit≤ tt) in
      up-weaken (2 ^ 16) 1 (lit< tt) (lit≤ tt) (mul-up binary64 1 1 (range-test binary64 1 1 tt) (lit≤ tt) r smaller-up)

  full-up : num x ≤ 2 ^ 15 * den x → num y ≤ 2 ^ 15 * den y → 0 < num x → Up (full_hypot x y) (2 ^ 16) 1
  full-up bx by px = go (le least_sum (sum_of_squares x y)) refl (le (sum_of_squares x y) greatest_sum) refl
    where
      go : (a : Bool) → le least_sum (sum_of_squares x y) ≡ a → (b : Bool) → le (sum_of_squares x y) greatest_sum ≡ b → Up (full_hypot x y) (2 ^ 16) 1
      go true l true u = subst (λ (z : Float). Up z (2 ^ 16) 1) (sym (full-within x y l u)) (within x y fx fy bx by (subst T (sym l) tt))
      go true l false u = absurd (subst T u (not-above x y fx fy bx by))
      go false l true u = subst (λ (z : Float). Up z (2 ^ 16) 1) (sym (full-below x y l)) (below px l)
      go false l false u = subst (λ (z : Float). Up z (2 ^ 16) 1) (sym (full-below x y l)) (below px l)

plain : (n d : ℕ) → n ≤ 2 ^ 15 * d → n * 1 ≤ 2 ^ 16 * d
plain n d h = omega arith

pub modulus-up : (x y : Float) → T (fits binary64 x) → T (fits binary64 y) → T (finite x) → T (finite y) → num x ≤ 2 ^ 15 * den x → num y ≤ 2 ^ 15 * den y → Up (hypot_of x y) (2 ^ 16) 1
unfolding hypot_of magnitude_of
modulus-up nan y Fx Fy fx fy bx by = absurd fx
modulus-up (inf s) y Fx Fy fx fy bx by = absurd fx
modulus-up (fin s m e) nan Fx Fy fx fy bx by = absurd fy
modulus-up (fin s m e) (inf t) Fx Fy fx fy bx by = absurd fy
modulus-up (fin s zero e) (fin t k d) Fx Fy fx fy bx by = record { sign = tt; over = lit< tt; bound = plain (k * up d) (down d) by }
modulus-up (fin s (suc m) e) (fin t zero d) Fx Fy fx fy bx by = record { sign = tt; over = lit< tt; bound = plain (suc m * up e) (down e) bx }
modulus-up (fin s (suc m) e) (fin t (suc k) d) Fx Fy fx fy bx by = full-up (fin s (suc m) e) (fin t (suc k) d) Fx Fy fx fy bx by (mul-pos (zero-lt-suc m) (up_pos e))
