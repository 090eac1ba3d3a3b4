-- A subnormal's pattern, shifted by its count of leading zeros less 11, has its leading digit at place 52; and the patterns of a mantissa and of a piece's middle
-- are those of numbers near 1. Assumes nothing.
use mathlib.Core.Path.{◌≡◌, sym, ap, ◌∙◌}
use Prim.Native.Nat.{ℕ, suc, ◌+◌, ◌-◌, ◌*◌, ◌/◌, ◌%◌, ◌^◌, ◌≤◌, ◌<◌}
use native.Mathlib.Nat.{le_trans, le_of_eq, lt_of_lt_of_le, lt_of_not-le, not-le_of_lt, mul-le-mul_right, mul-lt-mul_of_pos_right}
use native.Mathlib.Omega.{arith}
use lib.Dec.{lit≤}
use lib.Pow.{pow-add, pow_pos, pow_mono}
use lib.Count.{count_leading_zeros, leading_top}
use Rattle.laws.proofs.Bits.{inf_bits}

-- the shift is from 1 to 52, and no digit is lost
pub record Shifted (bits : ℕ) : Type 0 where
  pub some : 12 ≤ count_leading_zeros 64 bits
  pub few : count_leading_zeros 64 bits ≤ 63
  pub low : 2 ^ 52 ≤ bits * 2 ^ (count_leading_zeros 64 bits - 11)
  pub high : bits * 2 ^ (count_leading_zeros 64 bits - 11) < 2 ^ 53

pub shifted : (bits : ℕ) → 0 < bits → bits < 2 ^ 52 → Shifted bits
shifted bits p h = go (leading_top 64 bits p (lt_of_lt_of_le h (lit≤ tt)))
  where
    place : (j : ℕ) → 2 ^ j ≤ bits → j < 52
    place j l = lt_of_not-le (λ (g : 52 ≤ j). not-le_of_lt h (le_trans (pow_mono g) l))

    fill : (z j : ℕ) → z + suc j ≡ 64 → j < 52 → j + (z - 11) ≡ 52
    fill z j e l = omega arith

    above : (z j : ℕ) → z + suc j ≡ 64 → j < 52 → suc j + (z - 11) ≡ 53
    above z j e l = omega arith

    many : (z j : ℕ) → z + suc j ≡ 64 → j < 52 → 12 ≤ z
    many z j e l = omega arith

    bounded : (z j : ℕ) → z + suc j ≡ 64 → z ≤ 63
    bounded z j e = omega arith

    go : (j : ℕ) × (count_leading_zeros 64 bits + suc j ≡ 64) × (2 ^ j ≤ bits) × (bits < 2 ^ suc j) → Shifted bits
    go t =
        let z = count_leading_zeros 64 bits in
        let j = t.0 in
        let l : j < 52 = place j t.2 in
        record {
          some = many z j t.1 l;
          few = bounded z j t.1;
          low = le_trans (le_of_eq (ap (λ (n : ℕ). 2 ^ n) (sym (fill z j t.1 l)) ∙ pow-add 2 j (z - 11))) (mul-le-mul_right (2 ^ (z - 11)) t.2);
          high = lt_of_lt_of_le (mul-lt-mul_of_pos_right t.3 (pow_pos (z - 11))) (le_of_eq (sym (pow-add 2 (suc j) (z - 11)) ∙ ap (λ (n : ℕ). 2 ^ n) (above z j t.1 l)));
        }

-- ---- the patterns that the code reads, from 1 - 2^-9 to 2
pub mantissa-high : (bits : ℕ) → bits + 0x3FF0000000000000 - (bits + 2 ^ 44) / 2 ^ 52 * 2 ^ 52 ≤ 0x4000000000000000
mantissa-high bits = omega arith

pub mantissa-low : (bits : ℕ) → 0x3FEFF00000000000 ≤ bits + 0x3FF0000000000000 - (bits + 2 ^ 44) / 2 ^ 52 * 2 ^ 52
mantissa-low bits = omega arith

pub middle-high : (bits : ℕ) → 0x3FF0000000000000 + (bits + 2 ^ 44) / 2 ^ 45 % 128 * 2 ^ 45 ≤ 0x4000000000000000
middle-high bits = omega arith

pub middle-low : (bits : ℕ) → 0x3FF0000000000000 ≤ 0x3FF0000000000000 + (bits + 2 ^ 44) / 2 ^ 45 % 128 * 2 ^ 45
middle-low bits = omega arith

pub field-high : (bits : ℕ) → bits < inf_bits → (bits + 2 ^ 44) / 2 ^ 52 ≤ 2047
field-high bits h = omega arith
