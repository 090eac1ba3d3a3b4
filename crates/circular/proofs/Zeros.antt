-- Exact values: sin(πx) is +0 at every whole x, cos(πx) is +0 at ±0.5, sin 0 is 0, cos 0 and cos(π0) are 1. Assumes nothing.
use mathlib.Core.Path.{◌≡◌, refl, sym, ap, ap₂, ◌∙◌, subst}
use mathlib.Core.Bool.{Bool, true, false, cond, true≢false}
use Prim.Native.Nat.{ℕ, ◌+◌, ◌-◌, ◌*◌, ◌/◌, ◌%◌, ◌^◌, ◌≤◌, ◌<◌}
use native.Mathlib.Nat.{le_refl, div-add-mod', add-mul-mod_self_left, mod-eq_of_lt, mul-one, mul-le-mul_right}
use native.Mathlib.Omega.{arith}
use lib.Dec.{T, eqb, lit<}
use lib.IntN.{ℤ, pos}
use lib.Ieee.{Float, nan, inf, fin, binary64, up, down, round, rem, add, sub, mul, neg, lt, fits, to_bits, of_bits}
use lib.Ieee.Bits.{of_bits-fits}
use lib.Ieee.Exact.{HasValue}
use lib.Ieee.Back.{round_whole}
use lib.Ieee.Fits.{round-fits, add-fits, sub-fits, down_pos}
use lib.Ieee.Scale.{finite, round_same}
use lib.Ieee.Positive.{num, den}
use Rattle.laws.proofs.Value.{sign, bare, le-values}
use Rattle.laws.proofs.Order.{nought, not-lt→le}
use Rattle.laws.proofs.Bits.{to_bits-back, whole-pattern, bare-fits}
use Rattle.laws.proofs.Power.{unique}
use Rattle.circular.specs.declared.reduce.Reduced.{Reduced}
use Rattle.laws.specs.Operators.{◌⊕◌, ◌⊖◌, ◌⊗◌}
use Rattle.circular.specs.Kernel.{sine_kernel, cosine_kernel, turned}
use Rattle.circular.specs.Reduce.{reduce_of, leading, within_two, halves_of, reduce_pi_of}
use Rattle.circular.specs.Sin.{sin_of}
use Rattle.circular.specs.Cos.{cos_of}
use Rattle.circular.specs.SinPi.{from_zero, sin_pi_of}
use Rattle.circular.specs.CosPi.{cos_pi_of}
use Rattle.circular.proofs.Parts.{at, sin_pi-is}
use Rattle.circular.proofs.Rest.{rem_is}
use Rattle.circular.proofs.Whole.{add-whole, sub-whole, mul-whole, half-whole}

-- ---- by computation
pub sin-zero : sin_of (of_bits binary64 0) ≡ of_bits binary64 0
unfolding sin_of reduce_of turned sine_kernel of_bits add sub mul lt
sin-zero = refl

pub sin-minus-zero : sin_of (of_bits binary64 0x8000000000000000) ≡ of_bits binary64 0x8000000000000000
unfolding sin_of reduce_of turned sine_kernel of_bits add sub mul lt neg
sin-minus-zero = refl

pub cos-zero : cos_of (of_bits binary64 0) ≡ of_bits binary64 0x3FF0000000000000
unfolding cos_of reduce_of turned cosine_kernel of_bits add sub mul lt
cos-zero = refl

pub cos_pi-zero : cos_pi_of (of_bits binary64 0) ≡ of_bits binary64 0x3FF0000000000000
unfolding cos_pi_of reduce_pi_of halves_of within_two leading turned from_zero cosine_kernel of_bits to_bits add sub mul lt
cos_pi-zero = refl

pub cos_pi-half : cos_pi_of (of_bits binary64 0x3FE0000000000000) ≡ of_bits binary64 0
unfolding cos_pi_of reduce_pi_of halves_of within_two leading turned from_zero sine_kernel of_bits to_bits add sub mul lt
cos_pi-half = refl

pub cos_pi-minus-half : cos_pi_of (of_bits binary64 0xBFE0000000000000) ≡ of_bits binary64 0
unfolding cos_pi_of reduce_pi_of halves_of within_two leading turned from_zero sine_kernel of_bits to_bits add sub mul lt
cos_pi-minus-half = refl

-- ---- sin(πx) at a whole x
-- an even number of quarter turns of a zero
even-zero : (q : ℕ) (c : Float) → q % 2 ≡ 0 → turned from_zero q nought c ≡ nought
unfolding turned from_zero of_bits sub add neg
even-zero q c h = ap (λ (n : ℕ). by (eqb n 0) (eqb (q / 2 % 2) 0)) h ∙ go (eqb (q / 2 % 2) 0)
  where
    by : Bool → Bool → Float
    by p t = let y = cond p nought c in cond t y (from_zero y)

    go : (t : Bool) → by true t ≡ nought
    go true = refl
    go false = refl

sine-none : sine_kernel nought nought ≡ nought
unfolding sine_kernel of_bits add sub mul neg
sine-none = refl

-- what the reduction makes of the rest r and of the sum t
from : Float → Float → Reduced
from r t =
    let h = leading r in
    let p = h ⊗ of_bits binary64 0x400921FB58000000 in
    let q = h ⊗ of_bits binary64 0xBE5DDE973DCB3B3A ⊕ (r ⊖ h) ⊗ of_bits binary64 0x400921FB54442D18 in
    let hi = p ⊕ q in
    record { hi = hi; lo = p ⊖ hi ⊕ q; quarter = to_bits binary64 t % 4 }

from-none : (t : Float) → from nought t ≡ record { hi = nought; lo = nought; quarter = to_bits binary64 t % 4 }
unfolding from leading to_bits of_bits add sub mul neg
from-none t = refl

two-value : HasValue (of_bits binary64 0x4000000000000000) false 2 1
unfolding of_bits
two-value = (refl, refl)

half-value : HasValue (of_bits binary64 0x3FE0000000000000) false 1 2
unfolding of_bits
half-value = (refl, refl)

shift-value : HasValue (of_bits binary64 0x4330000000000000) false (2 ^ 52) 1
unfolding of_bits
shift-value = (refl, refl)

nought-fits : T (fits binary64 nought)
unfolding fits
nought-fits = tt

module _ (a : Float) (n : ℕ) (F : T (fits binary64 a)) (v : HasValue a false n 1) (h : n ≤ 2 ^ 20) where
  -- the sum with 2^52 has the pattern 2 n above that of 2^52
  sum_of : Float
  sum_of = of_bits binary64 0x4000000000000000 ⊗ a ⊕ of_bits binary64 0x4330000000000000

  sum-value : HasValue sum_of false (2 * n + 2 ^ 52) 1
  unfolding sum_of
  sum-value =
      add-whole (of_bits binary64 0x4000000000000000 ⊗ a) (of_bits binary64 0x4330000000000000) (2 * n) (2 ^ 52) (mul-whole (of_bits binary64 0x4000000000000000) a 2 n two-value v (omega arith)) shift-value (omega arith)

  sum_is : sum_of ≡ of_bits binary64 (0x4330000000000000 + 2 * n)
  unfolding sum_of
  sum_is =
      unique binary64 sum_of (of_bits binary64 (0x4330000000000000 + 2 * n)) false (2 * n + 2 ^ 52) 1 (2 ^ 52 + 2 * n) 1 (lit< tt) (lit< tt) (add-fits binary64 _ _) (of_bits-fits binary64 (0x4330000000000000 + 2 * n)) sum-value
      (whole-pattern (2 * n) (omega arith)) (omega arith)

  -- and the rest is nothing
  rest-none : a ⊖ of_bits binary64 0x3FE0000000000000 ⊗ (sum_of ⊖ of_bits binary64 0x4330000000000000) ≡ nought
  rest-none =
      let k = sum_of ⊖ of_bits binary64 0x4330000000000000 in
      let K : HasValue k false (2 * n) 1 = subst (λ (z : ℕ). HasValue k false z 1) (off n) (sub-whole sum_of (of_bits binary64 0x4330000000000000) (2 * n + 2 ^ 52) (2 ^ 52) sum-value shift-value (omega arith) (omega arith)) in
      let w = of_bits binary64 0x3FE0000000000000 ⊗ k in
      let W : HasValue w false n 1 = half-whole (of_bits binary64 0x3FE0000000000000) k n half-value K (omega arith) in
      unique binary64 (a ⊖ w) nought false (n - n) 1 0 1 (lit< tt) (lit< tt) (sub-fits binary64 a w) nought-fits (sub-whole a w n n v W (le_refl n) (omega arith)) (refl, refl) (omega arith)
    where
      off : (n : ℕ) → 2 * n + 2 ^ 52 - 2 ^ 52 ≡ 2 * n
      off n = omega arith

  halves-whole : halves_of a ≡ record { hi = nought; lo = nought; quarter = (0x4330000000000000 + 2 * n) % 4 }
  unfolding halves_of sum_of from
  halves-whole =
      ap₂ from rest-none sum_is ∙ from-none (of_bits binary64 (0x4330000000000000 + 2 * n)) ∙ ap (λ (b : ℕ). record { hi = nought; lo = nought; quarter = b % 4 }) (to_bits-back (0x4330000000000000 + 2 * n) (omega arith))

-- the rest by 2 of a whole number is a whole number, and small
record Near (z : Float) : Type 0 where
  n : ℕ
  few : n ≤ 2 ^ 20
  fine : T (fits binary64 z)
  value : HasValue z false n 1

rem-two : (m : ℕ) (e : ℤ) (n : ℕ) → m * up e * 1 ≡ n * down e → rem binary64 (fin false m e) (of_bits binary64 0x4000000000000000) ≡ round binary64 false (n % 2) 1
unfolding of_bits
rem-two m e n h =
    rem_is binary64 m e 1 (pos 1) (lit< tt)
    ∙ ap (λ (z : ℕ). round binary64 false (z % (1 * 2 * down e)) (down e * 1)) h
    ∙ ap (λ (z : ℕ). round binary64 false z (down e * 1)) (parity n (down e) (down_pos e))
    ∙ round_same binary64 false (n % 2 * down e) (down e * 1) (n % 2) 1 (subst (λ (z : ℕ). 0 < z) (sym (mul-one (down e))) (down_pos e)) (lit< tt) (flat (n % 2) (down e))
  where
    flat : (r u : ℕ) → r * u * 1 ≡ r * (u * 1)
    flat r u = omega arith

    parity : (n u : ℕ) → 0 < u → n * u % (1 * 2 * u) ≡ n % 2 * u
    parity n u U =
        let g : (n / 2 * 2 + n % 2) * u ≡ n * u = ap (λ (z : ℕ). z * u) (div-add-mod' n 2) in
        let s : n * u ≡ n % 2 * u + 1 * 2 * u * (n / 2) = omega arith in
        let l : n % 2 * u ≤ 1 * u = mul-le-mul_right u (omega arith) in
        ap (λ (z : ℕ). z % (1 * 2 * u)) s ∙ add-mul-mod_self_left (n % 2 * u) (1 * 2 * u) (n / 2) ∙ mod-eq_of_lt (omega arith)

within-two-whole : (a : Float) (n : ℕ) → T (fits binary64 a) → HasValue a false n 1 → Near (within_two a)
unfolding within_two
within-two-whole nan n F v = absurd v
within-two-whole (inf s) n F v = absurd v
within-two-whole (fin true m e) n F v = absurd (true≢false v.0)
within-two-whole (fin false m e) n F v = go (lt (of_bits binary64 0x4130000000000000) (fin false m e)) refl
  where
    a : Float
    a = fin false m e

    limit-value : HasValue (of_bits binary64 0x4130000000000000) false (2 ^ 20) 1
    limit-value = unfold of_bits in (refl, refl)

    go : (t : Bool) → lt (of_bits binary64 0x4130000000000000) a ≡ t → Near (cond t (rem binary64 a (of_bits binary64 0x4000000000000000)) a)
    go true e' = subst Near (sym (rem-two m e n v.1)) (record { n = n % 2; few = omega arith; fine = round-fits binary64 false (n % 2) 1; value = round_whole binary64 false (n % 2) (omega arith) })
    go false e' = record {
      n = n;
      few = omega (arith, le-values a (of_bits binary64 0x4130000000000000) n 1 (2 ^ 20) 1 v limit-value (not-lt→le (of_bits binary64 0x4130000000000000) a (unfold of_bits in tt) tt e'));
      fine = F;
      value = v;
    }

pub sin_pi-whole : (x : Float) → T (fits binary64 x) → T (finite x) → num x % den x ≡ 0 → sin_pi_of x ≡ of_bits binary64 0
unfolding reduce_pi_of
sin_pi-whole x F f h =
    let a = bare x in
    let w = within-two-whole a (num x / den x) (bare-fits x F) (whole-value x f h) in
    let q = (0x4330000000000000 + 2 * w.n) % 4 in
    sin_pi-is x f
    ∙ ap (λ (r : Reduced). at from_zero r (cond (sign x) 2 0)) (halves-whole (within_two a) w.n w.fine w.value w.few)
    ∙ ap (λ (y : Float). turned from_zero (q + cond (sign x) 2 0) y (cosine_kernel nought nought)) sine-none
    ∙ even-zero (q + cond (sign x) 2 0) (cosine_kernel nought nought) (even w.n (sign x))
    ∙ zero_is
  where
    whole-value : (x : Float) → T (finite x) → num x % den x ≡ 0 → HasValue (bare x) false (num x / den x) 1
    whole-value nan f h = absurd f
    whole-value (inf s) f h = absurd f
    whole-value (fin s m e) f h = (refl, exact (m * up e) (down e) h)
      where
        exact : (a c : ℕ) → a % c ≡ 0 → a * 1 ≡ a / c * c
        exact a c h = omega (arith, div-add-mod' a c)

    even : (n : ℕ) (s : Bool) → ((0x4330000000000000 + 2 * n) % 4 + cond s 2 0) % 2 ≡ 0
    even n true = two n
      where
        two : (n : ℕ) → ((0x4330000000000000 + 2 * n) % 4 + 2) % 2 ≡ 0
        two n = omega arith
    even n false = none n
      where
        none : (n : ℕ) → ((0x4330000000000000 + 2 * n) % 4 + 0) % 2 ≡ 0
        none n = omega arith

    zero_is : nought ≡ of_bits binary64 0
    zero_is = unfold of_bits in refl
