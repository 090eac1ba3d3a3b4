-- The I sum at one order leaves by its own test, after 19 turns at most: for 1 ≤ u ≤ 2^32 and x from 2^-52 u, rounded, to (u + 1)(1 +
-- 1/1024). The denominator after j turns is (j + 1)(u + j), so it is at least (j + 1)(u + 1) but for rounding, and the j-th factor is at
-- most 257 / 256 j from the second on. So the error after n turns is at most 2 (129 / 128)^n / n! times x / u, against a tolerance of 2^-52
-- times x / u. Assumes nothing.
use mathlib.Core.Path.{◌≡◌, subst}
use mathlib.Core.Bool.{Bool, false}
use Prim.Native.Nat.{ℕ, zero, suc, ◌+◌, ◌-◌, ◌*◌, ◌^◌, ◌≤◌, ◌<◌}
use native.Mathlib.Nat.{zero-lt-suc, one-mul, mul-pos, mul-le-mul_right}
use native.Mathlib.Omega.{arith}
use lib.Dec.{T, lit<, lit≤}
use lib.Ieee.{Float, Format, binary64, of_bits, add, mul, div, lt, le}
use lib.Ieee.Positive.{num, den, den_pos}
use Rattle.laws.specs.Iterate.{iterate}
use Rattle.laws.proofs.Order.{not-lt→le, mul-comm-float}
use Rattle.laws.proofs.Bound.{Up, Lo, Span, up-test, lo-test, up_of, lo-of, up-weaken, lo-weaken, up-finite, lo-of-le, span-one, span_of, span-inv, span-div, normal-by, up_test, lo_test, up_one, lo-one, add-lo, mul-up-by, mul-lo-by, mul-up-both, div-up-both, div-lo-both, add-lo-by, up-lo-not-by, every, every-at}
use Rattle.laws.proofs.First.{First, first, failed}
use Rattle.machine.specs.Constants.{tolerance}
use Rattle.machine.specs.Small.{one, two}
use Rattle.series_sum.specs.Sum.{start_estimate, next_estimate, estimate_after, sum_tolerance, sum_is_one, goes_on}

-- ---- the order and the square for which the sum is entered
pub record Summed (x u : Float) : Type 0 where
  pub least : Lo u 1 1
  pub most : Up u (2 ^ 32) 1
  pub bound : Up x (1025 * (num u + den u)) (1024 * den u)
  pub entered : sum_is_one x u ≡ false

-- ---- a known fraction of an unknown: its reciprocal, and a known factor in front
module _ (f : Format) {r t S W : ℕ} (k m k' m' : ℕ) {x y : Float} (s : Span r t S W) where
  one-over-up : Up x 1 1 → 0 < k → T (up_test f (0 + t) (0 + r) (1 * m) (1 * k) k' m') → Lo y (k * S) (m * W) → Up (div f x y) (k' * W) (m' * S)
  one-over-up o K u h = rw (one-mul W, one-mul S) at (div-up-both f 1 1 k m k' m' span-one s K u (up_one o) h)

  mul-up-after : {b d : ℕ} → T (up_test f r t (k * b) (m * d) k' m') → Up x b d → Up y (k * S) (m * W) → Up (mul f x y) (k' * S) (m' * W)
  mul-up-after u g h = subst (λ (z : Float). Up z (k' * S) (m' * W)) (mul-comm-float f y x) (mul-up-by f k m k' m' s u h g)

  mul-lo-after : {b d : ℕ} → T (lo_test f r (k * b) (m * d) k' m') → Lo x b d → Lo y (k * S) (m * W) → Lo (mul f x y) (k' * S) (m' * W)
  mul-lo-after u g h = subst (λ (z : Float). Lo z (k' * S) (m' * W)) (mul-comm-float f y x) (mul-lo-by f k m k' m' s u h g)

pub one_up : Up one 1 1
unfolding of_bits
one_up = up-test one 1 1 tt

two_up : Up two 2 1
unfolding of_bits
two_up = up-test two 2 1 tt

two-lo : Lo two 2 1
unfolding of_bits
two-lo = lo-test two 2 1 tt

tolerance-lo : Lo tolerance 1 (2 ^ 52)
unfolding tolerance of_bits
tolerance-lo = lo-test tolerance 1 (2 ^ 52) tt

tolerance-up : Up tolerance 1 (2 ^ 52)
unfolding tolerance of_bits
tolerance-up = up-test tolerance 1 (2 ^ 52) tt

-- ---- the known parts of the bounds: of the steps, the denominators and the errors
step_part : ℕ → ℕ
step_part j = 1048575 - j

denominator_part : ℕ → ℕ
denominator_part j = suc j * (1048574 - j)

factorial : ℕ → ℕ
factorial zero = 1
factorial (suc n) = factorial n * suc n

error_over : ℕ → ℕ
error_over n = 2 * 129 ^ n

error_under : ℕ → ℕ
unfolding factorial
error_under n = 128 ^ n * factorial n

-- ---- the tests that the steps ask of them, at every index at once
step_test : ℕ → Bool
unfolding step_part
step_test j = lo_test binary64 0 (step_part j * 1 + 0 * 1048576) (1048576 * 1) (step_part (suc j)) 1048576

steps : T (every step_test 19)
unfolding step_test
steps = tt

denominator_test : ℕ → Bool
unfolding step_part denominator_part
denominator_test j = lo_test binary64 0 (denominator_part (suc j) * 1048576 + step_part (suc j) * 1048576) (1048576 * 1048576) (denominator_part (suc (suc j))) 1048576

denominators : T (every denominator_test 18)
unfolding denominator_test
denominators = tt

recip_test : ℕ → Bool
unfolding denominator_part
recip_test j = up_test binary64 33 0 (1 * 1048576) (1 * denominator_part (suc j)) 2049 (2048 * suc (suc j))

recips : T (every recip_test 18)
unfolding recip_test
recips = tt

error_test : ℕ → Bool
unfolding error_over error_under
error_test n = up_test binary64 85 34 (error_over (suc n) * 257) (error_under (suc n) * (256 * suc (suc n))) (error_over (suc (suc n))) (error_under (suc (suc n)))

errors : T (every error_test 18)
unfolding error_test
errors = tt

factor_test : ℕ → Bool
factor_test j = up_test binary64 33 33 (1025 * 2049) (1024 * (2048 * suc (suc j))) 257 (256 * suc (suc j))

factors : T (every factor_test 18)
unfolding factor_test
factors = tt

-- u + (u + 2) is twice u + 1
second-denominator : (n e q : ℕ) → 2097146 ≤ q → 2 * 1048573 * (n + e) * (q + 1) * (e * (1048576 * e)) ≤ (n * (1048576 * e) + 1048575 * (n + 2 * e) * e) * (1048576 * e * q)
second-denominator n e q l = omega (arith, mul-le-mul_right (1048576 * (n + e) * e * e) l)

-- a fraction times its inverse
cancelled : (k m S W : ℕ) {z : Float} → 0 < m → Up z (k * (S * W)) (m * (W * S)) → Up z k m
cancelled k m S W M g = up-weaken k m M (omega arith) g

module _ (x u : Float) (h : Summed x u) where
  order : Span 0 32 (num u) (den u)
  order = span_of 0 32 h.least h.most

  next-order : Span 0 33 (num u + den u) (den u)
  next-order = record { over = den_pos u; least = omega arith; most = (let l : num u ≤ den u * 2 ^ 32 = order.most in omega arith) }

  -- the sum is entered, so x is at least 2^-52 but for rounding
  square-lo : Lo x 1 (2 ^ 53)
  unfolding sum_is_one
  square-lo =
      let p : Up (mul binary64 tolerance u) (2 * num u) (2 ^ 52 * den u) = mul-up-after binary64 1 1 2 (2 ^ 52) order tt tolerance-up (up_one (up_of u h.most.sign)) in
      let q : Lo (mul binary64 tolerance u) (1 * num u) (2 ^ 53 * den u) = mul-lo-after binary64 1 1 1 (2 ^ 53) order tt tolerance-lo (lo-one (lo-of u h.most.sign)) in
      let l : T (le (mul binary64 tolerance u) x) = not-lt→le x (mul binary64 tolerance u) (up-finite h.bound) (up-finite p) h.entered in
      lo-of-le x (mul binary64 tolerance u) (lit< tt) l (lo-weaken 1 (2 ^ 53) (lit< tt) (let w : den u ≤ num u * 1 = order.least in omega arith) q)

  square-up : Up x (2 ^ 34) 1
  square-up = up-weaken (2 ^ 34) 1 (lit< tt) (let w : num u + den u ≤ den u * 2 ^ 33 = next-order.most in omega arith) h.bound

  square : Span 53 34 (num x) (den x)
  square = span_of 53 34 square-lo square-up

  ratio : Span 85 34 (num x * den u) (den x * num u)
  ratio = span-div square order

  -- ---- steps and denominators, from below
  first_step : Lo (add binary64 u two) (1048575 * (num u + 2 * den u)) (1048576 * den u)
  first_step =
      let g : Span 0 34 (num u + 2 * den u) (den u) = record { over = den_pos u; least = omega arith; most = (let l : num u ≤ den u * 2 ^ 32 = order.most in omega arith) } in
      add-lo binary64 (1048575 * (num u + 2 * den u)) (1048576 * den u) (mul-pos (lit< tt) (den_pos u)) (normal-by binary64 1048575 1048576 g (lit≤ tt)) (omega arith) (lo-of u h.most.sign) two-lo

  step_lo : (j : ℕ) → j < 20 → Lo (estimate_after x u j).step (step_part j * (num u + den u)) (1048576 * den u)
  unfolding estimate_after iterate start_estimate next_estimate step_part step_test
  step_lo zero l = lo-weaken (1048575 * (num u + den u)) (1048576 * den u) (mul-pos (lit< tt) (den_pos u)) (omega arith) first_step
  step_lo (suc j) l =
      add-lo-by binary64 (step_part j) 1048576 0 1 (step_part (suc j)) 1048576 next-order (every-at step_test 19 steps j (omega arith)) (step_lo j (omega arith))
      (lo-weaken (0 * (num u + den u)) (1 * den u) (mul-pos (lit< tt) (den_pos u)) (omega arith) two-lo)

  denominator-lo : (j : ℕ) → j < 19 → Lo (estimate_after x u (suc j)).denominator (denominator_part (suc j) * (num u + den u)) (1048576 * den u)
  unfolding estimate_after iterate start_estimate next_estimate denominator_part denominator_test
  denominator-lo zero l =
      add-lo binary64 (2 * 1048573 * (num u + den u)) (1048576 * den u) (mul-pos (lit< tt) (den_pos u)) (normal-by binary64 (2 * 1048573) 1048576 next-order (lit≤ tt))
      (second-denominator (num u) (den u) (2 ^ 53 - 1) (lit≤ tt)) (lo-of u h.most.sign) first_step
  denominator-lo (suc j) l =
      add-lo-by binary64 (denominator_part (suc j)) 1048576 (step_part (suc j)) 1048576 (denominator_part (suc (suc j))) 1048576 next-order (every-at denominator_test 18 denominators j (omega arith))
      (denominator-lo j (omega arith)) (step_lo (suc j) (omega arith))

  -- ---- the factors: the first is x / u, and every later one is below a known fraction
  first-factor : Up (mul binary64 x (div binary64 one u)) (1025 * (num x * den u)) (1024 * (den x * num u))
  first-factor =
      mul-up-both binary64 1 1 2049 2048 1025 1024 square (span-inv order) tt (up_one (up_of x h.bound.sign))
      (one-over-up binary64 1 1 2049 2048 order one_up (lit< tt) tt (lo-one (lo-of u h.most.sign)))

  factor-up : (j : ℕ) → j < 18 → Up (mul binary64 x (div binary64 one (estimate_after x u (suc j)).denominator)) 257 (256 * suc (suc j))
  unfolding factor_test recip_test
  factor-up j l =
      let R = 2048 * suc (suc j) in
      let P : 0 < denominator_part (suc j) = mul-pos (zero-lt-suc (suc j)) (omega arith) in
      cancelled 257 (256 * suc (suc j)) (num u + den u) (den u) (omega arith)
      (mul-up-both binary64 1025 1024 2049 R 257 (256 * suc (suc j)) next-order (span-inv next-order) (every-at factor_test 18 factors j l) h.bound
      (one-over-up binary64 (denominator_part (suc j)) 1048576 2049 R next-order one_up P (every-at recip_test 18 recips j l) (denominator-lo j (omega arith))))

  -- ---- the error after each turn, and the tolerance
  error-up : (n : ℕ) → n < 19 → Up (estimate_after x u (suc n)).error (error_over (suc n) * (num x * den u)) (error_under (suc n) * (den x * num u))
  unfolding estimate_after iterate start_estimate next_estimate error_over error_under error_test
  error-up zero l = mul-up-after binary64 1025 1024 (error_over 1) (error_under 1) ratio tt two_up first-factor
  error-up (suc n) l =
      mul-up-by binary64 (error_over (suc n)) (error_under (suc n)) (error_over (suc (suc n))) (error_under (suc (suc n))) ratio (every-at error_test 18 errors n (omega arith)) (error-up n (omega arith)) (factor-up n (omega arith))

  tolerance-of-sum : Lo (sum_tolerance x u) (127 * (num x * den u)) (128 * 2 ^ 52 * (den x * num u))
  unfolding sum_tolerance
  tolerance-of-sum =
      div-lo-both binary64 255 (256 * 2 ^ 52) 1 1 127 (128 * 2 ^ 52) square order (lit< tt) tt
      (mul-lo-after binary64 1 1 255 (256 * 2 ^ 52) square tt tolerance-lo (lo-one (lo-of x h.bound.sign))) (up_one (up_of u h.most.sign))

  -- after 19 turns the test fails
  meets : goes_on x u 19 ≡ false
  unfolding goes_on error_over error_under
  meets = failed (lt (sum_tolerance x u) (estimate_after x u 19).error) (up-lo-not-by (error_over 19) (error_under 19) 127 (128 * 2 ^ 52) ratio (error-up 18 (lit< tt)) tolerance-of-sum tt)

  -- so the loop leaves at a first turn, the 19th or an earlier one
  pub ends : (n : ℕ) × (n ≤ 19) × First false (goes_on x u) n
  ends = first false (goes_on x u) 19 meets
