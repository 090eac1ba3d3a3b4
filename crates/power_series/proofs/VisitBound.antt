-- Every order at which the I visit takes a sum meets what the sum asks. With u the order plus one and x the square of |z/2|: at the top
-- order refusal 5 gives x ≤ u (1 + 1/4096); an order set to zero did not stop the visit, so x is at most that order, which is u one order
-- lower but for rounding; and one seed gives x ≤ (u + 1)(1 + 1/1024) one order lower. Orders are v + k with 0 ≤ v ≤ 1000 and k ≤ 511, and
-- |z| ≤ 2^16. Assumes nothing.
use mathlib.Core.Path.{◌≡◌}
use mathlib.Core.Logic.{inl, inr}
use mathlib.Core.Bool.{Bool, true, false, not}
use Prim.Native.Nat.{ℕ, suc, ◌+◌, ◌-◌, ◌*◌, ◌^◌, ◌≤◌, ◌<◌}
use native.Mathlib.Nat.{mul-pos, mul-le-mul_right}
use native.Mathlib.Omega.{arith}
use lib.Dec.{T, leb, leb→le, nleb→lt, lit<, lit≤}
use lib.Ieee.{Float, binary64, of_bits, round, mul, lt, le}
use lib.Ieee.Scale.{finite}
use lib.Ieee.Positive.{num, den, den_pos}
use Rattle.laws.proofs.Order.{not-lt→le, le_total, le-refl-finite}
use Rattle.laws.proofs.Relative.{nonnegative, nonnegative-finite}
use Rattle.laws.proofs.Bound.{Up, Lo, Span, up-test, lo-test, up_of, lo-of, lo_at, up-of-le, lo-of-le, up-weaken, lo-weaken, up-finite, lo-bound, span_of, span-mul, span-inv, range-by, range-test, normal-by, up_one, lo-one, mul-up, add-up, add-lo, add-lo-at, mul-up-by, mul-lo-by, mul-up-both, mul-lo-both}
use Rattle.laws.proofs.Whole.{whole-up, whole-lo}
use Rattle.machine.specs.Small.{one, half, quarter}
use Rattle.series_sum.specs.Sum.{sum_is_one}
use Rattle.series_sum.proofs.SumBound.{Summed, one_up}
use Rattle.series_step.specs.Setting.{order_at, order_plus_one, half_square}
use Rattle.power_series.specs.Series.{beyond_series}

-- x against u: where no order is seeded yet, and where one is
abbrev pub Below : Bool → Float → Float → Type 0
Below false x u = Up x (4097 * num u) (4096 * den u)
Below true x u = Up x (1025 * (num u + den u)) (1024 * den u)

unseeded : (x u : Float) → Below false x u → Below true x u
unseeded x u h = up-weaken (1025 * (num u + den u)) (1024 * den u) (mul-pos (lit< tt) (den_pos u)) (omega arith) h

any : (b : Bool) (x u : Float) → Below b x u → Below true x u
any true x u h = h
any false x u h = unseeded x u h

only : (b : Bool) (x u : Float) → Below false x u → Below b x u
only true x u h = unseeded x u h
only false x u h = h

half_up : Up half 1 2
unfolding of_bits
half_up = up-test half 1 2 tt

quarter-up : Up quarter 1 4
unfolding of_bits
quarter-up = up-test quarter 1 4 tt

quarter-lo : Lo quarter 1 4
unfolding of_bits
quarter-lo = lo-test quarter 1 4 tt

one-lo : Lo one 1 1
unfolding of_bits
one-lo = lo-test one 1 1 tt

-- ---- the top order
module _ (m u : Float) (M : Up m (2 ^ 16) 1) (U : Lo u 1 1) (F : T (nonnegative u)) where
  small : T (le m one) → Below false (half_square m) u
  unfolding half_square
  small h =
      let a : Up (mul binary64 m half) 33 64 = mul-up binary64 33 64 (range-test binary64 33 64 tt) (lit≤ tt) (up-of-le m one M.sign h one_up) half_up in
      let b : Up (half_square m) 1 1 = mul-up binary64 1 1 (range-test binary64 1 1 tt) (lit≤ tt) a a in
      let l : 1 * den u ≤ num u * 1 = lo-bound U (nonnegative-finite u F) in
      up-weaken (4097 * num u) (4096 * den u) (mul-pos (lit< tt) (den_pos u)) (omega arith) b

  large : T (le one m) → lt u (mul binary64 (mul binary64 m m) quarter) ≡ false → Below false (half_square m) u
  unfolding half_square
  large h e =
      let s : Span 0 16 (num m) (den m) = span_of 0 16 (lo-of-le m one (lit< tt) h one-lo) M in
      let n = up_one (up_of m M.sign) in
      let a : Up (mul binary64 m half) (1048577 * num m) (2097152 * den m) = mul-up-by binary64 1 1 1048577 2097152 s tt n half_up in
      let b : Up (half_square m) (1048579 * (num m * num m)) (4194304 * (den m * den m)) = mul-up-both binary64 1048577 2097152 1048577 2097152 1048579 4194304 s s tt a a in
      let d : Lo (mul binary64 m m) (1048575 * (num m * num m)) (1048576 * (den m * den m)) = mul-lo-both binary64 1 1 1 1 1048575 1048576 s s tt (lo-one (lo-of m M.sign)) (lo-one (lo-of m M.sign)) in
      let d' : Up (mul binary64 m m) (2 * (num m * num m)) (1 * (den m * den m)) = mul-up-both binary64 1 1 1 1 2 1 s s tt n n in
      let g : Lo (mul binary64 (mul binary64 m m) quarter) (1048574 * (num m * num m)) (4194304 * (den m * den m)) = mul-lo-by binary64 1048575 1048576 1048574 4194304 (span-mul s s) tt d quarter-lo in
      let g' : Up (mul binary64 (mul binary64 m m) quarter) (1 * (num m * num m)) (1 * (den m * den m)) = mul-up-by binary64 2 1 1 1 (span-mul s s) tt d' quarter-up in
      let l : T (le (mul binary64 (mul binary64 m m) quarter) u) = not-lt→le u (mul binary64 (mul binary64 m m) quarter) (nonnegative-finite u F) (up-finite g') e in
      let w = lo-bound (lo-of-le u (mul binary64 (mul binary64 m m) quarter) (mul-pos (lit< tt) (mul-pos (span-inv s).over (span-inv s).over)) l g) (nonnegative-finite u F) in
      up-weaken (4097 * num u) (4096 * den u) (mul-pos (lit< tt) (den_pos u)) (compare (num m * num m) (den m * den m) (num u) (den u) w) b
    where
      compare : (a c n e : ℕ) → 1048574 * a * e ≤ n * (4194304 * c) → 1048579 * a * (4096 * e) ≤ 4097 * n * (4194304 * c)
      compare a c n e h = omega arith

  top_of : lt u (mul binary64 (mul binary64 m m) quarter) ≡ false → Below false (half_square m) u
  unfolding of_bits
  top_of e = elim (le_total m one (le-refl-finite m (up-finite M)) (le-refl-finite one tt)) [ inl h ↦ small h | inr h ↦ large h e ]

-- ---- v + k and v + k + 1, each within a few parts in 2^20: the slack of one sum, then of the second
module _ (n k e q : ℕ) where
  grown : 1048577 ≤ q → (n * 1 + suc k * e) * (1048576 * e * (q + 1)) ≤ 1048577 * (n + suc k * e) * q * (e * 1)
  grown l = omega (arith, mul-le-mul_right ((n + suc k * e) * e) l)

  grown-again : 1048577 ≤ q → (1048577 * (n + suc k * e) * 1 + 1 * (1048576 * e)) * (1048576 * e * (q + 1)) ≤ 1048578 * (n + suc (suc k) * e) * q * (1048576 * e * 1)
  grown-again l = omega (arith, mul-le-mul_right (1048576 * (n + suc k * e + e) * e) l)

  shrunk : 1048577 ≤ q → 1048575 * (n + k * e) * (q + 1) * (e * 1) ≤ (n * 1 + k * e) * (1048576 * e * q)
  shrunk l = omega (arith, mul-le-mul_right ((n + k * e) * e) l)

  shrunk-again : 1048577 ≤ q → 1048574 * (n + suc k * e) * (q + 1) * (1048576 * e * 1) ≤ (1048575 * (n + k * e) * 1 + 1 * (1048576 * e)) * (1048576 * e * q)
  shrunk-again l = omega (arith, mul-le-mul_right (1048576 * (n + k * e + e) * e) l)

module _ (v : Float) (limit : Up v 1000 1) where
  order-up : (k : ℕ) → k ≤ 512 → Up (order_at v k) 1513 1
  unfolding order_at
  order-up k l = add-up binary64 1513 1 (range-test binary64 1513 1 tt) (omega arith) limit (whole-up binary64 k (omega arith))

  plus-one-up : (k : ℕ) → k ≤ 512 → Up (order_plus_one v k) 1515 1
  unfolding order_plus_one
  plus-one-up k l = add-up binary64 1515 1 (range-test binary64 1515 1 tt) (lit≤ tt) (order-up k l) one_up

  plus-one-lo : (k : ℕ) → k ≤ 512 → Lo (order_plus_one v k) 1 1
  unfolding order_plus_one round
  plus-one-lo k l =
      add-lo-at binary64 1 1 (lit< tt) (lit< tt) (lit< tt) (order_at v k) one (lo_at (order_at v k) 0 1 (order-up k l).sign (lit< tt) (omega arith)) one-lo (lit≤ tt)
      (lo-test (round binary64 false 1 1) 1 1 tt)

  whole : (k : ℕ) → k ≤ 512 → Span 0 11 (num v + suc k * den v) (den v)
  whole k l = record { over = den_pos v; least = omega arith; most = (let b : num v * 1 ≤ 1000 * den v = limit.bound in omega (arith, mul-le-mul_right (den v) l)) }

  order-near : (k : ℕ) → k ≤ 511 → Up (order_at v (suc k)) (1048577 * (num v + suc k * den v)) (1048576 * den v)
  unfolding order_at
  order-near k l =
      add-up binary64 (1048577 * (num v + suc k * den v)) (1048576 * den v) (range-by binary64 1048577 1048576 (whole k (omega arith)) (lit< tt) (lit≤ tt) (lit≤ tt))
      (grown (num v) k (den v) (2 ^ 53) (lit≤ tt)) (up_of v limit.sign) (whole-up binary64 (suc k) (omega arith))

  plus-one-near : (k : ℕ) → k ≤ 511 → Up (order_plus_one v (suc k)) (1048578 * (num v + suc (suc k) * den v)) (1048576 * den v)
  unfolding order_plus_one
  plus-one-near k l =
      add-up binary64 (1048578 * (num v + suc (suc k) * den v)) (1048576 * den v) (range-by binary64 1048578 1048576 (whole (suc k) (omega arith)) (lit< tt) (lit≤ tt) (lit≤ tt))
      (grown-again (num v) k (den v) (2 ^ 53) (lit≤ tt)) (order-near k l) one_up

  -- v + k may be subnormal, and then v + k + 1 is next to 1
  plus-one-far : (k : ℕ) → k ≤ 511 → Lo (order_plus_one v k) (1048574 * (num v + suc k * den v)) (1048576 * den v)
  unfolding order_plus_one order_at
  plus-one-far k l = go (leb (den v) ((num v + k * den v) * 1048576)) (leb→le (den v) ((num v + k * den v) * 1048576)) (nleb→lt (den v) ((num v + k * den v) * 1048576))
    where
      over : 0 < 1048576 * den v
      over = mul-pos (lit< tt) (den_pos v)

      go : (b : Bool) → (T b → den v ≤ (num v + k * den v) * 1048576) → (T (not b) → (num v + k * den v) * 1048576 < den v) → Lo (order_plus_one v k) (1048574 * (num v + suc k * den v)) (1048576 * den v)
      go false h g = let w : (num v + k * den v) * 1048576 < den v = g tt in lo-weaken (1048574 * (num v + suc k * den v)) (1048576 * den v) over (omega arith) (plus-one-lo k (omega arith))
      go true h g =
          let s : Span 20 11 (num v + k * den v) (den v) = record { over = den_pos v; least = h tt; most = (let b : num v * 1 ≤ 1000 * den v = limit.bound in omega (arith, mul-le-mul_right (den v) l)) } in
          add-lo binary64 (1048574 * (num v + suc k * den v)) (1048576 * den v) over (normal-by binary64 1048574 1048576 (whole k (omega arith)) (lit≤ tt)) (shrunk-again (num v) k (den v) (2 ^ 53 - 1) (lit≤ tt))
          (add-lo binary64 (1048575 * (num v + k * den v)) (1048576 * den v) over (normal-by binary64 1048575 1048576 s (lit≤ tt)) (shrunk (num v) k (den v) (2 ^ 53 - 1) (lit≤ tt)) (lo-of v limit.sign) (whole-lo binary64 k (omega arith)))
          one-lo

  u-finite : (k : ℕ) → k ≤ 511 → T (finite (order_plus_one v k))
  u-finite k l = up-finite (plus-one-up k (omega arith))

  -- ---- the visit: its start, and its two ways one order down
  top : (n : ℕ) (m : Float) → n ≤ 512 → Up m (2 ^ 16) 1 → beyond_series v n m ≡ false → Below false (half_square m) (order_plus_one v (n - 1))
  unfolding beyond_series
  top n m l M e = top_of m (order_plus_one v (n - 1)) M (plus-one-lo (n - 1) (omega arith)) (plus-one-up (n - 1) (omega arith)).sign e

  zeroed : (k : ℕ) (x : Float) → k ≤ 511 → T (nonnegative x) → lt (order_at v (suc k)) x ≡ false → Below false x (order_plus_one v k)
  zeroed k x l p e =
      let u = order_plus_one v k in
      let b : T (le x (order_at v (suc k))) = not-lt→le (order_at v (suc k)) x (up-finite (order-up (suc k) (omega arith))) (nonnegative-finite x p) e in
      up-weaken (4097 * num u) (4096 * den u) (mul-pos (lit< tt) (den_pos u)) (compare (num v + suc k * den v) (den v) (num u) (den u) (lo-bound (plus-one-far k l) (u-finite k l)))
      (up-of-le x (order_at v (suc k)) p b (order-near k l))
    where
      compare : (a c n e : ℕ) → 1048574 * a * e ≤ n * (1048576 * c) → 1048577 * a * (4096 * e) ≤ 4097 * n * (1048576 * c)
      compare a c n e h = omega arith

  seeded : (k : ℕ) (x : Float) → k ≤ 511 → Below false x (order_plus_one v (suc k)) → Below true x (order_plus_one v k)
  seeded k x l b =
      let u = order_plus_one v k in
      let w = order_plus_one v (suc k) in
      up-weaken (1025 * (num u + den u)) (1024 * den u) (mul-pos (lit< tt) (den_pos u)) (compare (num v) k (den v) (num u) (den u) (lo-bound (plus-one-far k l) (u-finite k l)))
      (up-weaken (4097 * 1048578 * (num v + suc (suc k) * den v)) (4096 * 1048576 * den v) (mul-pos (lit< tt) (den_pos v)) (lift (num v + suc (suc k) * den v) (den v) (num w) (den w) (plus-one-near k l).bound) b)
    where
      lift : (a c n e : ℕ) → n * (1048576 * c) ≤ 1048578 * a * e → 4097 * n * (4096 * 1048576 * c) ≤ 4097 * 1048578 * a * (4096 * e)
      lift a c n e h = omega arith

      compare : (a k c n e : ℕ) → 1048574 * (a + suc k * c) * e ≤ n * (1048576 * c) → 4097 * 1048578 * (a + suc (suc k) * c) * (1024 * e) ≤ 1025 * (n + e) * (4096 * 1048576 * c)
      compare a k c n e h = omega arith

  -- what the sum at an order asks
  pub visited : (k : ℕ) (b : Bool) (x : Float) → k ≤ 511 → Below b x (order_plus_one v k) → sum_is_one x (order_plus_one v k) ≡ false → Summed x (order_plus_one v k)
  visited k b x l h e = record {
    least = plus-one-lo k (omega arith);
    most = up-weaken (2 ^ 32) 1 (lit< tt) (lit≤ tt) (plus-one-up k (omega arith));
    bound = any b x (order_plus_one v k) h;
    entered = e;
  }

-- ---- the orders that the visit of n orders from v up, at modulus m, reaches; the second index says whether one is seeded
pub data Arrives (v : Float) (n : ℕ) (m : Float) : ℕ → Bool → Type 0 where
  start : beyond_series v n m ≡ false → Arrives v n m (n - 1) false
  past-zero : {k : ℕ} {b : Bool} → lt (order_at v (suc k)) (half_square m) ≡ false → Arrives v n m (suc k) b → Arrives v n m k b
  past-seed : {k : ℕ} → Arrives v n m (suc k) false → Arrives v n m k true

module _ (v : Float) (limit : Up v 1000 1) (n : ℕ) (few : n ≤ 512) (m : Float) (bound : Up m (2 ^ 16) 1) where
  square-sign : T (nonnegative (half_square m))
  unfolding half_square
  square-sign =
      let h : Up (mul binary64 m half) (2 ^ 16) 1 = mul-up binary64 (2 ^ 16) 1 (range-test binary64 (2 ^ 16) 1 tt) (lit≤ tt) bound half_up in
      (mul-up binary64 (2 ^ 33) 1 (range-test binary64 (2 ^ 33) 1 tt) (lit≤ tt) h h).sign

  pub arrives-low : {k : ℕ} {b : Bool} → Arrives v n m k b → k ≤ 511
  arrives-low (start e) = omega arith
  arrives-low (past-zero e r) = let l = arrives-low r in omega arith
  arrives-low (past-seed r) = let l = arrives-low r in omega arith

  pub arrives-below : {k : ℕ} {b : Bool} → Arrives v n m k b → Below b (half_square m) (order_plus_one v k)
  arrives-below (start e) = top v limit n m few bound e
  arrives-below (past-zero {k} {b} e r) = only b (half_square m) (order_plus_one v k) (zeroed v limit k (half_square m) (let l = arrives-low r in omega arith) square-sign e)
  arrives-below (past-seed {k} r) = seeded v limit k (half_square m) (let l = arrives-low r in omega arith) (arrives-below r)

-- ---- the limit of orders as the domain has it
pub order-limit : (v : Float) → T (nonnegative v) → T (le v (of_bits binary64 0x408F400000000000)) → Up v 1000 1
unfolding of_bits
order-limit v p h = up-of-le v (of_bits binary64 0x408F400000000000) p h (up-test (of_bits binary64 0x408F400000000000) 1000 1 tt)
