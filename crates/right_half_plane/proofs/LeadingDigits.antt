-- The leading digits of a value are close to it: by at most 2^27 steps of the value's binade. Assumes nothing.
use mathlib.Core.Path.{◌≡◌, refl, sym, ap, ◌∙◌, subst}
use mathlib.Core.Bool.{false}
use Prim.Native.Nat.{ℕ, zero, suc, ◌+◌, ◌-◌, ◌*◌, ◌/◌, ◌%◌, ◌^◌, ◌≤◌, ◌<◌}
use native.Mathlib.Nat.{mul-le-mul_left, mul-le-mul_right, mul-pos, add-mul}
use native.Mathlib.Omega.{arith}
use lib.Dec.{T, lit<}
use lib.Pow.{pow_pos, pow_mono, pow-add}
use lib.Ieee.{Float, binary64, fits, of_bits, to_bits, neg, le}
use lib.Ieee.Exact.{HasValue}
use lib.Ieee.Scale.{finite}
use Rattle.laws.specs.Operators.{◌⊖◌}
use Rattle.laws.proofs.Value.{sign, finite-no-nan}
use Rattle.laws.proofs.Sign.{neg_value}
use Rattle.laws.proofs.Order.{nought, Rounds, rounds-mono}
use Rattle.laws.proofs.Grid.{Is, is-plus, is-less, is-sub}
use Rattle.laws.proofs.Bits.{inf_bits, field_units, units_of, units-at, units-le, bits-le, bits-value, pattern-value, to_bits-finite, to_bits-value, to_bits-neg, of_bits-neg, cut, cut-le, cut-neg}
use Rattle.circular.specs.Reduce.{leading}

-- ---- in units of 2 ^ -1074
chain : (a b c d e : ℕ) → a ≤ b → b ≡ c + d → d ≤ e → a ≤ c + e
chain a b c d e p q r = omega arith

near : (z x t : ℕ) → x ≤ suc z → field_units x t ≤ field_units x (t - t % 2 ^ 27) + 2 ^ 27 * 2 ^ z
near z zero t h = few t (2 ^ z) (pow_pos z)
  where
    few : (t p : ℕ) → 0 < p → t ≤ t - t % 2 ^ 27 + 2 ^ 27 * p
    few t p l = omega arith
near z (suc x) t h =
    chain ((2 ^ 52 + t) * 2 ^ x) ((2 ^ 52 + (t - t % 2 ^ 27) + 2 ^ 27) * 2 ^ x) ((2 ^ 52 + (t - t % 2 ^ 27)) * 2 ^ x) (2 ^ 27 * 2 ^ x) (2 ^ 27 * 2 ^ z)
    (mul-le-mul_right (2 ^ x) (digits t)) (add-mul (2 ^ 52 + (t - t % 2 ^ 27)) (2 ^ 27) (2 ^ x)) (mul-le-mul_left (2 ^ 27) (pow_mono (down x z h)))
  where
    digits : (t : ℕ) → 2 ^ 52 + t ≤ 2 ^ 52 + (t - t % 2 ^ 27) + 2 ^ 27
    digits t = omega arith

    down : (x z : ℕ) → suc x ≤ suc z → x ≤ z
    down x z h = omega arith

cut-near : (b z : ℕ) → b / 2 ^ 52 ≤ suc z → units_of b ≤ units_of (cut b) + 2 ^ 27 * 2 ^ z
cut-near b z h = subst (λ (n : ℕ). units_of b ≤ n + 2 ^ 27 * 2 ^ z) (sym same) (near z (b / 2 ^ 52) (b % 2 ^ 52) h)
  where
    split : (b : ℕ) → cut b ≡ b / 2 ^ 52 * 2 ^ 52 + (b % 2 ^ 52 - b % 2 ^ 52 % 2 ^ 27)
    split b = omega arith

    small : (b : ℕ) → b % 2 ^ 52 - b % 2 ^ 52 % 2 ^ 27 < 2 ^ 52
    small b = omega arith

    same : units_of (cut b) ≡ field_units (b / 2 ^ 52) (b % 2 ^ 52 - b % 2 ^ 52 % 2 ^ 27)
    same = ap units_of (split b) ∙ units-at (b / 2 ^ 52) (b % 2 ^ 52 - b % 2 ^ 52 % 2 ^ 27) (small b)

-- 2^27 steps of the binade with the field y + 26
abbrev pub steps : ℕ → Float
steps y = of_bits binary64 (suc y * 2 ^ 52 + 0)

steps-value : (y : ℕ) → suc y < 2047 → HasValue (steps y) false (2 ^ 27 * 2 ^ (y + 25)) (2 ^ 1074)
steps-value y h = subst (λ (n : ℕ). HasValue (steps y) false n (2 ^ 1074)) (same (2 ^ y) (2 ^ (y + 25)) (pow-add 2 y 25)) (pattern-value (suc y) 0 h (lit< tt))
  where
    same : (p q : ℕ) → q ≡ p * 2 ^ 25 → (2 ^ 52 + 0) * p ≡ 2 ^ 27 * q
    same p q e = omega arith

-- ---- of a value x with no minus sign
module _ (x : Float) (F : T (fits binary64 x)) (f : T (finite x)) (s : sign x ≡ false) where
  low_bits : cut (to_bits binary64 x) < inf_bits
  low_bits = less (to_bits binary64 x) (to_bits-finite x F f s)
    where
      less : (b : ℕ) → b < inf_bits → cut b < inf_bits
      less b h = omega arith

  pub leading-between : (b c : ℕ) → b % 2 ^ 27 ≡ 0 → b ≤ to_bits binary64 x → to_bits binary64 x ≤ c → c < inf_bits → T (le (of_bits binary64 b) (leading x)) × T (le (leading x) (of_bits binary64 c))
  unfolding leading
  leading-between b c e l h k = (bits-le b (cut (to_bits binary64 x)) (above b (to_bits binary64 x) e l) low_bits, bits-le (cut (to_bits binary64 x)) c (below (to_bits binary64 x) c h) k)
    where
      above : (b n : ℕ) → b % 2 ^ 27 ≡ 0 → b ≤ n → b ≤ cut n
      above b n e l = omega arith

      below : (n c : ℕ) → n ≤ c → cut n ≤ c
      below n c h = omega arith

  pub leading-opposite : leading (neg x) ≡ neg (leading x)
  unfolding leading
  leading-opposite =
      ap (λ (n : ℕ). of_bits binary64 (cut n)) (to_bits-neg x (finite-no-nan x f) s) ∙ ap (of_bits binary64) (cut-neg (to_bits binary64 x)) ∙ of_bits-neg (cut (to_bits binary64 x)) (wide (cut (to_bits binary64 x)) low_bits)
    where
      wide : (b : ℕ) → b < inf_bits → b < 2 ^ 63
      wide b h = omega arith

  -- ---- what they leave over
  abbrev U : ℕ
  U = units_of (to_bits binary64 x)

  abbrev K : ℕ
  K = units_of (cut (to_bits binary64 x))

  own : HasValue x false U (2 ^ 1074)
  own = to_bits-value x F f s

  cut-value : HasValue (leading x) false K (2 ^ 1074)
  unfolding leading
  cut-value = bits-value (cut (to_bits binary64 x)) low_bits

  fewer : K ≤ U
  fewer = units-le (cut (to_bits binary64 x)) (to_bits binary64 x) (cut-le (to_bits binary64 x))

  over : 0 < 2 ^ 1074
  over = pow_pos 1074

  single : 0 < 1
  single = lit< tt

  none : Is nought 0 0 1
  none = is-plus nought 0 1 (refl, refl)

  nothing_left : Rounds binary64 (0 * 1 + 0 * 1) (0 * 1 + 0 * 1) (1 * 1) (nought ⊖ nought)
  nothing_left = is-sub binary64 nought nought (lit< tt) (lit< tt) none none

  module _ (y : ℕ) (h : to_bits binary64 x / 2 ^ 52 ≤ suc (y + 25)) (k : suc y < 2047) where
    close : U ≤ K + 2 ^ 27 * 2 ^ (y + 25)
    close = cut-near (to_bits binary64 x) (y + 25) h

    bound : Is (steps y) (2 ^ 27 * 2 ^ (y + 25)) 0 (2 ^ 1074)
    bound = is-plus (steps y) (2 ^ 27 * 2 ^ (y + 25)) (2 ^ 1074) (steps-value y k)

    pub left_over : T (le (nought ⊖ nought) (x ⊖ leading x)) × T (le (x ⊖ leading x) (steps y ⊖ nought))
    left_over =
        let c = 2 ^ 1074 in
        let e = 2 ^ 27 * 2 ^ (y + 25) in
        let d = is-sub binary64 x (leading x) over over (is-plus x U c own) (is-plus (leading x) K c cut-value) in
        let t = is-sub binary64 (steps y) nought over (lit< tt) bound none in (
          rounds-mono binary64 (0 * 1 + 0 * 1) (0 * 1 + 0 * 1) (1 * 1) (U * c + 0 * c) (0 * c + K * c) (c * c) (nought ⊖ nought) (x ⊖ leading x) (lit< tt) (mul-pos over over) nothing_left d (least U K c fewer),
          rounds-mono binary64 (U * c + 0 * c) (0 * c + K * c) (c * c) (e * 1 + 0 * c) (0 * 1 + 0 * c) (c * 1) (x ⊖ leading x) (steps y ⊖ nought) (mul-pos over over) (mul-pos over single) d t (most U K e c close),
        )
      where
        least : (u k c : ℕ) → k ≤ u → (0 * 1 + 0 * 1) * (c * c) + (0 * c + k * c) * (1 * 1) ≤ (u * c + 0 * c) * (1 * 1) + (0 * 1 + 0 * 1) * (c * c)
        least u k c h = omega (arith, mul-le-mul_right c h)

        most : (u k e c : ℕ) → u ≤ k + e → (u * c + 0 * c) * (c * 1) + (0 * 1 + 0 * c) * (c * c) ≤ (e * 1 + 0 * c) * (c * c) + (0 * c + k * c) * (c * 1)
        most u k e c h = omega (arith, mul-le-mul_right (c * c) h)

    pub left-under : T (le (nought ⊖ steps y) (neg x ⊖ neg (leading x))) × T (le (neg x ⊖ neg (leading x)) (nought ⊖ nought))
    left-under =
        let c = 2 ^ 1074 in
        let e = 2 ^ 27 * 2 ^ (y + 25) in
        let d = is-sub binary64 (neg x) (neg (leading x)) over over (is-less (neg x) U c (neg_value x false U c own)) (is-less (neg (leading x)) K c (neg_value (leading x) false K c cut-value)) in
        let t = is-sub binary64 nought (steps y) (lit< tt) over none bound in (
          rounds-mono binary64 (0 * c + 0 * 1) (0 * c + e * 1) (1 * c) (0 * c + K * c) (U * c + 0 * c) (c * c) (nought ⊖ steps y) (neg x ⊖ neg (leading x)) (mul-pos single over) (mul-pos over over) t d (most U K e c close),
          rounds-mono binary64 (0 * c + K * c) (U * c + 0 * c) (c * c) (0 * 1 + 0 * 1) (0 * 1 + 0 * 1) (1 * 1) (neg x ⊖ neg (leading x)) (nought ⊖ nought) (mul-pos over over) (lit< tt) d nothing_left (least U K c fewer),
        )
      where
        least : (u k c : ℕ) → k ≤ u → (0 * c + k * c) * (1 * 1) + (0 * 1 + 0 * 1) * (c * c) ≤ (0 * 1 + 0 * 1) * (c * c) + (u * c + 0 * c) * (1 * 1)
        least u k c h = omega (arith, mul-le-mul_right c h)

        most : (u k e c : ℕ) → u ≤ k + e → (0 * c + 0 * 1) * (c * c) + (u * c + 0 * c) * (1 * c) ≤ (0 * c + k * c) * (1 * c) + (0 * c + e * 1) * (c * c)
        most u k e c h = omega (arith, mul-le-mul_right (c * c) h)
