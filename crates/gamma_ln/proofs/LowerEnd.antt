-- The series is summed at 6.5 or above, for every argument above zero: a shifted argument is rounded to 7, and lies within a half of it.
-- Assumes nothing.
use mathlib.Core.Path.{◌≡◌, refl, sym, ap, ◌∙◌, subst}
use mathlib.Core.Bool.{Bool, true, false, cond}
use Prim.Native.Nat.{ℕ, ◌+◌, ◌-◌, ◌*◌, ◌^◌, ◌≤◌}
use native.Mathlib.Nat.{mul-pos, mul_assoc, mul_right_comm, mul-le-mul_right, add-mul, mul-one}
use native.Mathlib.Omega.{arith}
use lib.Dec.{T, lit<}
use lib.Ieee.{Float, binary64, of_bits, round, add, le, lt, eq}
use lib.Ieee.Exact.{HasValue}
use lib.Ieee.Order.{round_mono}
use lib.Ieee.Positive.{num, den, den_pos, positive, positive-finite, value→cross}
use Rattle.laws.proofs.Order.{le-trans-float, not-lt→le}
use Rattle.laws.proofs.Relative.{nonnegative, positive-nonnegative, nonnegative-of-value, add-round}
use Rattle.laws.proofs.Whole.{whole-value}
use Rattle.machine.specs.Constants.{gamma_ln_minimum}
use Rattle.rounding.specs.Round.{nearest_whole}
use Rattle.rounding.proofs.RoundFacts.{nearest}
use Rattle.gamma_ln.specs.GammaLn.{shift_of, series_argument_of}
use Rattle.gamma_ln.proofs.Arguments.{nearest-to-seven, shift-value}

-- 13 / 2 against n / d + m / c, with m / c = 7 - k and k within a half of n / d
half-below : (n d m c k : ℕ) → k ≤ 7 → m * 1 ≡ (7 - k) * c → 2 * (k * d) ≤ 2 * n + d → 13 * (d * c) ≤ (n * c + m * d) * 2
half-below n d m c k h e l =
    let a : 2 * (k * d) * c ≤ (2 * n + d) * c = mul-le-mul_right c l in
    let b : 7 - k + k ≡ 7 = omega arith in
    let p : (7 - k) * (d * c) + k * (d * c) ≡ 7 * (d * c) = sym (add-mul (7 - k) k (d * c)) ∙ ap (λ (z : ℕ). z * (d * c)) b in
    let q : m * d ≡ (7 - k) * (d * c) = ap (λ (z : ℕ). z * d) (sym (mul-one m) ∙ e) ∙ mul_right_comm (7 - k) c d ∙ mul_assoc (7 - k) d c in
    let r : 2 * (k * d) * c ≡ 2 * (k * (d * c)) = mul_assoc 2 (k * d) c ∙ ap (λ (z : ℕ). 2 * z) (mul_assoc k d c) in
    let s : (2 * n + d) * c ≡ 2 * (n * c) + d * c = add-mul (2 * n) d c ∙ ap (λ (z : ℕ). z + d * c) (mul_assoc 2 n c) in
    omega arith

shifted-above : (x y : Float) (k : ℕ) → T (nonnegative x) → k ≤ 7 → HasValue y false (7 - k) 1 → 2 * (k * den x) ≤ 2 * num x + den x → T (le (of_bits binary64 0x401A000000000000) (add binary64 x y))
unfolding of_bits round
shifted-above x y k X h v l =
    subst (λ (z : Float). T (le (of_bits binary64 0x401A000000000000) z)) (sym (add-round binary64 x y X (nonnegative-of-value y (7 - k) 1 v)))
    (round_mono binary64 13 2 (num x * den y + num y * den x) (den x * den y) (lit< tt) (mul-pos (den_pos x) (den_pos y))
    (half-below (num x) (den x) (num y) (den y) k h (value→cross y (7 - k) 1 v) l))

shift-whole : (x : Float) → T (positive x) → T (lt x gamma_ln_minimum) → HasValue (shift_of x) false (7 - nearest_whole (num x) (den x)) 1
shift-whole x P h =
    let k = nearest_whole (num x) (den x) in
    subst (λ (y : Float). HasValue y false (7 - k) 1) (sym (shift-value x P h)) (whole-value binary64 (7 - k) (few k))
  where
    few : (k : ℕ) → 7 - k ≤ 2 ^ 53
    few k = omega arith

pub lower-end : (x : Float) → T (positive x) → T (le (of_bits binary64 0x401A000000000000) (series_argument_of x))
unfolding series_argument_of gamma_ln_minimum of_bits le lt eq
lower-end x P = go (lt x gamma_ln_minimum) refl
  where
    go : (b : Bool) → lt x gamma_ln_minimum ≡ b → T (le (of_bits binary64 0x401A000000000000) (cond b (add binary64 x (shift_of x)) x))
    go true e =
        let h = subst T (sym e) tt in
        shifted-above x (shift_of x) (nearest_whole (num x) (den x)) (positive-nonnegative x P) (nearest-to-seven x P h) (shift-whole x P h) (nearest x).low
    go false e = le-trans-float (of_bits binary64 0x401A000000000000) gamma_ln_minimum x tt (not-lt→le x gamma_ln_minimum (positive-finite x P) tt e)
