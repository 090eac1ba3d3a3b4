-- The nearest whole number of a value given by its exponent's field and its digits. Assumes nothing.
use mathlib.Core.Path.{◌≡◌, sym, ap, ◌∙◌, subst}
use Prim.Native.Nat.{ℕ, zero, suc, ◌+◌, ◌-◌, ◌*◌, ◌/◌, ◌^◌, ◌≤◌, ◌<◌}
use native.Mathlib.Nat.{lt_of_lt_of_le, mul_assoc, mul-pos, pow-succ'}
use native.Mathlib.Omega.{arith}
use lib.Pow.{pow-add, pow_pos, pow_mono, shr_le}
use Rattle.laws.proofs.Bits.{field_units, field_top}
use Rattle.rounding.specs.Round.{nearest_whole}
use Rattle.rounding.proofs.Halves.{nearest-same, nearest-small, nearest-halved}

-- below the field 1022, which is that of 1 / 2 on
pub low_field : (x t : ℕ) → x < 1022 → t < 2 ^ 52 → nearest_whole (field_units x t) (2 ^ 1074) ≡ 0
low_field x t h k = nearest-small (field_units x t) (2 ^ 1074) (double (field_units x t) (2 ^ 1073) (2 ^ 1074) (pow-succ' 2 1073) (lt_of_lt_of_le (field_top x t k) (up x h)))
  where
    double : (a b c : ℕ) → c ≡ 2 * b → a < b → 2 * a < c
    double a b c e h = omega arith

    up : (x : ℕ) → x < 1022 → 2 ^ 52 * 2 ^ x ≤ 2 ^ 1073
    up x h = subst (λ (n : ℕ). n ≤ 2 ^ 1073) (pow-add 2 52 x) (pow_mono (bound x h))
      where
        bound : (x : ℕ) → x < 1022 → 52 + x ≤ 1073
        bound x h = omega arith

-- from there to the field 1074 the digits are shifted by what is left to 1074
pub mid-field : (x t : ℕ) → suc x ≤ 1074 → nearest_whole (field_units (suc x) t) (2 ^ 1074) ≡ ((2 ^ 52 + t) / 2 ^ (1074 - suc x) + 1) / 2
mid-field x t h =
    let p = 2 ^ (1074 - suc x) in
    nearest-same (field_units (suc x) t) (2 ^ 1074) (2 ^ 52 + t) (2 * p) (pow_pos 1074) (mul-pos (pow_pos 1) (pow_pos (1074 - suc x)))
    (mul_assoc (2 ^ 52 + t) (2 ^ x) (2 * p) ∙ ap (λ (n : ℕ). (2 ^ 52 + t) * n) (ap (λ (n : ℕ). 2 ^ x * n) (sym (pow-succ' 2 (1074 - suc x))) ∙ sym (pow-add 2 x (suc (1074 - suc x))) ∙ ap (λ (n : ℕ). 2 ^ n) (join x h)))
    ∙ nearest-halved (2 ^ 52 + t) p (pow_pos (1074 - suc x))
  where
    join : (x : ℕ) → suc x ≤ 1074 → x + suc (1074 - suc x) ≡ 1074
    join x h = omega arith

pub upper-field : (x t : ℕ) → 1022 ≤ x → x ≤ 1074 → nearest_whole (field_units x t) (2 ^ 1074) ≡ ((2 ^ 52 + t) / 2 ^ (1074 - x) + 1) / 2
upper-field zero t h k = absurd (none h)
  where
    none : 1022 ≤ 0 → ⊥
    none h = omega arith
upper-field (suc x) t h k = mid-field x t k

-- which stays far below 2 ^ 53
pub upper-bound : (t h : ℕ) → t < 2 ^ 52 → (2 ^ 52 + t) / 2 ^ h < 2 ^ 53
upper-bound t h k = let l : (2 ^ 52 + t) / 2 ^ h ≤ 2 ^ 52 + t = shr_le (2 ^ 52 + t) h in omega arith
