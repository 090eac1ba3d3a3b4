-- Temme's sum leaves by its own test, after 18 turns at most, for every |z| ≤ 2: |z|²/4 is at most 1, the magnitudes at 1 are computed, and products keep the order. Assumes nothing.
use mathlib.Core.Path.{◌≡◌, refl, sym, ap, ◌∙◌, subst}
use mathlib.Core.Bool.{Bool, true, false, cond}
use Prim.Native.Nat.{ℕ, zero, suc, ◌+◌, ◌*◌, ◌^◌, ◌≤◌, ◌<◌}
use native.Mathlib.Nat.{mul-pos, le_refl, zero-lt-suc}
use native.Mathlib.Omega.{arith}
use lib.IntN.{pos}
use lib.Dec.{T, lit<, lit≤}
use lib.Ieee.{Float, Format, binary64, of_bits, of_int, mul, div, le}
use lib.Ieee.Positive.{num, den, den_pos}
use Rattle.laws.specs.Iterate.{iterate}
use Rattle.laws.proofs.Order.{finite-between}
use Rattle.laws.proofs.Relative.{nonnegative, mul-round}
use Rattle.laws.proofs.Bound.{Up, up_of, up-test, lo-test, up-of-le, up-weaken, lo-of-le, lo-nonnegative, mul-up-at, up-lo-le, every, every-at}
use Rattle.laws.proofs.First.{First, first, passed}
use Rattle.machine.specs.Constants.{tolerance}
use Rattle.complex.specs.declared.number.Complex.{Complex}
use Rattle.temme.specs.declared.gammas.Gammas.{Gammas}
use Rattle.temme.specs.declared.sum.Fixed.{Fixed}
use Rattle.temme.specs.declared.sum.Terms.{Terms}
use Rattle.machine.specs.Small.{quarter, one, two}
use Rattle.temme.specs.Sum.{next_magnitude, next_terms, is_summed, sum_of, EndsByTest}
use Rattle.temme.specs.Seeds.{quarter_square, fixed_of, start_of, summed_of, seeds_of}
use Rattle.temme.proofs.Counted.{after-count, run-counted}

-- a product is at most the rounded product of the bounds
pub mul-up-round : (f : Format) (x a y b : Float) → T (nonnegative a) → T (nonnegative b) → T (nonnegative (mul f a b)) → Up x (num a) (den a) → Up y (num b) (den b) → Up (mul f x y) (num (mul f a b)) (den (mul f a b))
mul-up-round f x a y b p q s r t =
    mul-up-at f (num a * num b) (den a * den b) (mul-pos (den_pos a) (den_pos b)) x y r t (le_refl (num a * num b * (den a * den b)))
    (subst (λ (z : Float). Up z (num (mul f a b)) (den (mul f a b))) (mul-round f a b p q) (up_of (mul f a b) s))

-- ---- the factors and the magnitudes at 1, which is the largest |z|²/4
abbrev share : ℕ → Float
share k = div binary64 one (of_int binary64 (pos (k + 1)))

-- after k turns with |z|²/4 = y, and the test behind the k-th
unfoldable magnitude_after : Float → ℕ → Float
unfolding next_magnitude
magnitude_after y zero = one
magnitude_after y (suc k) = next_magnitude y (of_int binary64 (pos (k + 1))) (magnitude_after y k)

unfoldable sum_ends : Float → ℕ → Bool
sum_ends y k = le (magnitude_after y k) tolerance

shares_test : ℕ → Bool
shares_test k = nonnegative (share k)

shares : T (every shares_test 18)
unfolding shares_test of_bits of_int div
shares = tt

factors_test : ℕ → Bool
factors_test k = nonnegative (mul binary64 one (share k))

factors : T (every factors_test 18)
unfolding factors_test of_bits of_int div mul
factors = tt

magnitudes_test : ℕ → Bool
magnitudes_test k = nonnegative (magnitude_after one k)

magnitudes : T (every magnitudes_test 19)
unfolding magnitudes_test magnitude_after next_magnitude of_bits of_int div mul
magnitudes = tt

magnitude-sign : (k : ℕ) → k < 19 → T (nonnegative (magnitude_after one k))
unfolding magnitudes_test
magnitude-sign k h = every-at magnitudes_test 19 magnitudes k h

one-sign : T (nonnegative one)
unfolding of_bits
one-sign = tt

smallest : Up (magnitude_after one 18) 1 (2 ^ 52)
unfolding magnitude_after next_magnitude of_bits of_int div mul
smallest = up-test (magnitude_after one 18) 1 (2 ^ 52) tt

module _ (y : Float) (bound : Up y (num one) (den one)) where
  magnitude-up : (k : ℕ) → k < 19 → Up (magnitude_after y k) (num (magnitude_after one k)) (den (magnitude_after one k))
  unfolding magnitude_after next_magnitude shares_test factors_test
  magnitude-up zero h = up_of one one-sign
  magnitude-up (suc k) h =
      let s : T (nonnegative (share k)) = every-at shares_test 18 shares k (omega arith) in
      let f : T (nonnegative (mul binary64 one (share k))) = every-at factors_test 18 factors k (omega arith) in
      mul-up-round binary64 (magnitude_after y k) (magnitude_after one k) (mul binary64 y (share k)) (mul binary64 one (share k)) (magnitude-sign k (omega arith)) f (magnitude-sign (suc k) h)
      (magnitude-up k (omega arith)) (mul-up-round binary64 y one (share k) (share k) one-sign s f bound (up_of (share k) s))

  meets : sum_ends y 18 ≡ true
  unfolding sum_ends tolerance of_bits
  meets =
      let w = magnitude-up 18 (lit< tt) in
      passed (le (magnitude_after y 18) tolerance) (up-lo-le (magnitude_after y 18) tolerance (up-weaken 1 (2 ^ 52) (lit< tt) smallest.bound w) (lo-test tolerance 1 (2 ^ 52) tt) (lit≤ tt))

  -- the first index at which the test passes is at least 1, so it is behind a turn
  ends : (n : ℕ) × (1 ≤ n) × (n ≤ 18) × First true (sum_ends y) n
  unfolding sum_ends magnitude_after tolerance of_bits le
  ends = let r = first true (sum_ends y) 18 meets in (r.0, behind r.0 r.2.here, r.1, r.2)
    where
      behind : (n : ℕ) → sum_ends y n ≡ true → 1 ≤ n
      behind zero e = absurd (subst T (sym e) tt)
      behind (suc n) e = zero-lt-suc n

-- ---- a modulus up to 2
quarter-square-up : (m : Float) → T (nonnegative m) → T (le m two) → Up (quarter_square m) (num one) (den one)
unfolding quarter_square of_bits mul
quarter-square-up m p h =
    let b : Up m (num two) (den two) = up-of-le m two p h (up_of two tt) in
    mul-up-round binary64 (mul binary64 quarter m) (mul binary64 quarter two) m two tt tt tt (mul-up-round binary64 quarter quarter m two tt tt tt (up_of quarter tt) b) b

-- ---- the state after k turns
module _ (g : Fixed) (start : Terms) (none : start.terms ≡ 0) (whole : start.term_magnitude ≡ one) where
  counts : (s : Terms) → (next_terms g s).terms ≡ s.terms + 1
  unfolding next_terms
  counts s = refl

  after-magnitude : (k : ℕ) → (iterate k (next_terms g) start).term_magnitude ≡ magnitude_after g.abs_z_sqr_over_4 k
  unfolding iterate next_terms magnitude_after
  after-magnitude zero = whole
  after-magnitude (suc k) = rw (after-count is_summed (next_terms g) (λ s. s.terms) start none counts k, after-magnitude k)

  stops : (k : ℕ) → is_summed (iterate k (next_terms g) start) ≡ sum_ends g.abs_z_sqr_over_4 k
  unfolding is_summed sum_ends
  stops k = ap (λ (t : Float). le t tolerance) (after-magnitude k)

  sum-ends : Up g.abs_z_sqr_over_4 (num one) (den one) → EndsByTest (sum_of g start)
  unfolding sum_of
  sum-ends b =
      let e = ends g.abs_z_sqr_over_4 b in
      let n = e.0 in
      let h : n ≤ 999 = omega arith in
      let r = run-counted is_summed (next_terms g) (λ s. s.terms) start none counts 999 n h (record { here = stops n ∙ e.3.here; before = λ i l. stops i ∙ e.3.before i l }) in
      record { some = subst (λ (k : ℕ). 1 ≤ k) (sym r.1) e.1; few = subst (λ (k : ℕ). k ≤ 18) (sym r.1) e.2; test = r.0 }

-- ---- the seeds, for a modulus up to 2; below 2^-52 nothing is added
bare : (m : Float) → T (le tolerance m) → T (le m two) → T (nonnegative m)
unfolding tolerance of_bits
bare m t h = lo-nonnegative (lo-of-le m tolerance (lit< tt) t (lo-test tolerance 1 (2 ^ 52) tt)) (finite-between tolerance m two tt tt t h)

module _ (z : Complex) (m v w : Float) (h : T (le m (of_bits binary64 0x4000000000000000))) where
  pub temme-ends : (g : Gammas) (exp cosh shinc : Complex) → T (le tolerance m) → EndsByTest (summed_of z m v w (start_of g exp cosh shinc))
  unfolding summed_of start_of fixed_of
  temme-ends g exp cosh shinc t =
      subst (λ (b : Bool). EndsByTest (cond b (sum_of (fixed_of z m v w) (start_of g exp cosh shinc)) (start_of g exp cosh shinc))) (sym (passed (le tolerance m) t))
      (sum-ends (fixed_of z m v w) (start_of g exp cosh shinc) refl refl (quarter-square-up m (bare m t h) h))

  pub seeds-terms : (l : Complex) → (seeds_of z m l v w).terms ≤ 18
  unfolding seeds_of summed_of start_of
  seeds-terms l = go (le tolerance m) refl
    where
      go : (b : Bool) → le tolerance m ≡ b → (seeds_of z m l v w).terms ≤ 18
      go true e = (temme-ends _ _ _ _ (subst T (sym e) tt)).few
      go false e = rw e (lit≤ tt)
