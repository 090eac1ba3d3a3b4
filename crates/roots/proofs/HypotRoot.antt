-- hypot's root of a normal value: its square is within one part in 2^49 of the value. Assumes nothing.
use mathlib.Core.Path.{◌≡◌, sym, ap, ◌∙◌, subst}
use mathlib.Core.Logic.{inl, inr}
use mathlib.Core.Bool.{false}
use Prim.Native.Nat.{ℕ, zero, suc, ◌+◌, ◌-◌, ◌*◌, ◌/◌, ◌^◌, ◌≤◌, ◌<◌}
use native.Mathlib.Nat.{le_trans, le_of_eq, lt_of_lt_of_le, lt_irrefl, mul_assoc, mul_comm, mul_left_comm, mul_right_comm, mul-mul-mul_comm, mul-pos, mul-le-mul, mul-le-mul_left, mul-le-mul_right, le_of_mul-le-mul_right, eq_of_mul-eq-mul_right, mod-eq_of_lt, not-le_of_lt, pow-suc}
use native.Mathlib.Omega.{arith}
use lib.Dec.{T, lit<, lit≤}
use lib.Pow.{pow-add, pow_pos, pow_mono}
use lib.Ieee.{Float, binary64, mul, of_bits, to_bits, fits}
use lib.Ieee.Exact.{HasValue}
use lib.Ieee.Positive.{num, den, positive, den_pos, positive-finite, own_value, value→cross, positive_of_value}
use Rattle.laws.proofs.Value.{value_same, value-sign}
use Rattle.laws.proofs.Bits.{inf_bits, units_of, field_units, pattern-value, units-le-back, to_bits-finite, to_bits-value}
use Rattle.laws.proofs.Relative.{Rat, Close, largest, rat-mul, rat-trans, rat-weaken, rat-of-eq, rat-left, rat-right, rat-le, rat-ge, mul-finite, mul-close}
use Rattle.roots.specs.Seed.{folded, twice_root}
use Rattle.roots.specs.Sqrt.{scaled}
use Rattle.roots.specs.Hypot.{root_at}
use Rattle.roots.proofs.WholeRoot.{which}
use Rattle.roots.proofs.Nearest.{square-lt}
use Rattle.roots.proofs.RootPattern.{normal_field, normal-split}
use Rattle.roots.proofs.Significand.{scaled-range}
use Rattle.roots.proofs.Heron.{twice-close}

-- ---- the power of two with the field F
field-value : (F : ℕ) → 0 < F → F < 2047 → HasValue (of_bits binary64 (F * 2 ^ 52)) false (2 ^ F) (2 ^ 1023)
field-value zero h k = absurd (lt_irrefl 0 h)
field-value (suc G) h k =
    let e : suc G * 2 ^ 52 + 0 ≡ suc G * 2 ^ 52 = omega arith in
    let g : (2 ^ 52 + 0) * 2 ^ G * 2 ^ 1023 ≡ 2 ^ suc G * 2 ^ 1074 =
    ap (λ (t : ℕ). t * 2 ^ 1023) (mul_comm (2 ^ 52) (2 ^ G)) ∙ mul_assoc (2 ^ G) (2 ^ 52) (2 ^ 1023) ∙ sym (ap (λ (t : ℕ). t * 2 ^ 1074) (pow-suc 2 G) ∙ mul_assoc (2 ^ G) 2 (2 ^ 1074)) in
    value_same (of_bits binary64 (suc G * 2 ^ 52)) false ((2 ^ 52 + 0) * 2 ^ G) (2 ^ 1074) (2 ^ suc G) (2 ^ 1023) (pow_pos 1074) g
    (subst (λ (b : ℕ). HasValue (of_bits binary64 b) false (field_units (suc G) 0) (2 ^ 1074)) e (pattern-value (suc G) 0 k (pow_pos 52)))

-- ---- twice the root is from 1 to 5
pub from-squares : (a b : ℕ) → a * a ≤ b * b → a ≤ b
from-squares a b h = elim (which b a) [ inl k ↦ absurd (not-le_of_lt (square-lt b a k) h) | inr k ↦ k ]

doubled-range : (u : ℕ) → (den (twice_root u) ≤ num (twice_root u)) × (num (twice_root u) ≤ 5 * den (twice_root u))
doubled-range u =
    let d = twice_root u in
    let c = (twice-close u).close in
    let s = scaled-range (folded u) (omega arith) in
    let n = scaled (folded u) in
    let lo : 2 * 2 ^ 52 ≤ 4 * n * 1 = omega (arith, s.0) in
    let hi : 4 * n * 1 ≤ 16 * 2 ^ 52 = omega (arith, s.1) in (
      from-squares (den d) (num d) (under (num d * num d) (den d * den d) (rat-ge 2 1 (pow_pos 52) c lo)),
      from-squares (num d) (5 * den d) (le_trans (over (num d * num d) (den d * den d) (rat-le 16 1 (pow_pos 52) c hi)) (le_of_eq (simp (mul_assoc, mul_comm, mul_left_comm) (omega arith)))),
    )
  where
    under : (a b : ℕ) → (2 ^ 60 - 513) * 2 * b ≤ a * (2 ^ 60 * 1) → b ≤ a
    under a b h = omega arith

    over : (a b : ℕ) → a * (2 ^ 60 * 1) ≤ (2 ^ 60 + 608) * 16 * b → a ≤ 25 * b
    over a b h = omega arith

-- ---- the root of a finite normal pattern
opened : (u : ℕ) → u < inf_bits → root_at u ≡ mul binary64 (twice_root u) (of_bits binary64 (normal_field u * 2 ^ 52))
unfolding root_at
opened u h = ap (λ (t : ℕ). mul binary64 (twice_root u) (of_bits binary64 ((t / 2 ^ 52 + 1021) / 2 * 2 ^ 52))) (mod-eq_of_lt (lt_of_lt_of_le h (lit≤ tt)))

module _ (u : ℕ) (l : 2 ^ 52 ≤ u) (h : u < inf_bits) where
  fields : (511 ≤ normal_field u) × (normal_field u ≤ 1533)
  fields = (omega arith, omega arith)

  power : HasValue (of_bits binary64 (normal_field u * 2 ^ 52)) false (2 ^ normal_field u) (2 ^ 1023)
  power = let f = fields in field-value (normal_field u) (omega (arith, f.0)) (omega (arith, f.1))

  positive-power : T (positive (of_bits binary64 (normal_field u * 2 ^ 52)))
  positive-power = positive_of_value (of_bits binary64 (normal_field u * 2 ^ 52)) (2 ^ normal_field u) (2 ^ 1023) power (pow_pos (normal_field u))

  -- 2 ^ -512 to 2 ^ 510
  power-low : den (of_bits binary64 (normal_field u * 2 ^ 52)) ≤ num (of_bits binary64 (normal_field u * 2 ^ 52)) * 2 ^ 512
  power-low =
      let φ = of_bits binary64 (normal_field u * 2 ^ 52) in
      le_of_mul-le-mul_right
      (le_trans (mul-le-mul_left (den φ) (le_trans (pow_mono {i = 1023} {j = normal_field u + 512} (let f = fields in omega (arith, f.0))) (le_of_eq (pow-add 2 (normal_field u) 512))))
      (le_of_eq (sym (mul_assoc (den φ) (2 ^ normal_field u) (2 ^ 512)) ∙ ap (λ (t : ℕ). t * 2 ^ 512) (mul_comm (den φ) (2 ^ normal_field u) ∙ sym (value→cross φ (2 ^ normal_field u) (2 ^ 1023) power)) ∙ mul_right_comm (num φ) (2 ^ 1023) (2 ^ 512))))
      (pow_pos 1023)

  power-high : num (of_bits binary64 (normal_field u * 2 ^ 52)) ≤ 2 ^ 510 * den (of_bits binary64 (normal_field u * 2 ^ 52))
  power-high =
      let φ = of_bits binary64 (normal_field u * 2 ^ 52) in
      le_of_mul-le-mul_right
      (le_trans (le_of_eq (value→cross φ (2 ^ normal_field u) (2 ^ 1023) power))
      (le_trans (mul-le-mul_right (den φ) (le_trans (pow_mono {i = normal_field u} {j = 1533} fields.1) (lit≤ {m = 2 ^ 1533} {n = 2 ^ 510 * 2 ^ 1023} tt))) (le_of_eq (mul_right_comm (2 ^ 510) (2 ^ 1023) (den φ)))))
      (pow_pos 1023)

  scaled-root : T (positive (root_at u))
      × Close binary64 (num (root_at u)) (den (root_at u)) (num (twice_root u) * num (of_bits binary64 (normal_field u * 2 ^ 52))) (den (twice_root u) * den (of_bits binary64 (normal_field u * 2 ^ 52)))
  scaled-root =
      let φ = of_bits binary64 (normal_field u * 2 ^ 52) in
      let d = twice_root u in
      let P = (twice-close u).is_positive in
      let r = doubled-range u in
      let N : den d * den φ ≤ num d * num φ * 2 ^ 1022 =
      le_trans (mul-le-mul r.0 power-low) (le_trans (le_of_eq (sym (mul_assoc (num d) (num φ) (2 ^ 512)))) (mul-le-mul_left (num d * num φ) (lit≤ tt))) in
      let U : num d * num φ ≤ largest binary64 * (den d * den φ) =
      le_trans (mul-le-mul r.1 power-high) (le_trans (le_of_eq (mul-mul-mul_comm 5 (den d) (2 ^ 510) (den φ))) (mul-le-mul_right (den d * den φ) (lit≤ {m = 5 * 2 ^ 510} {n = largest binary64} tt))) in
      subst
      (λ (z : Float). T (positive z) × Close binary64 (num z) (den z) (num d * num φ) (den d * den φ))
      (sym (opened u h))
      (mul-close binary64 d φ P positive-power N (mul-finite binary64 d φ P positive-power U))

-- ---- a normal value S
module _ (S : Float) (H : T (fits binary64 S)) (p : T (positive S)) (n : den S ≤ num S * 2 ^ 1022) where
  value : HasValue S false (units_of (to_bits binary64 S)) (2 ^ 1074)
  value = to_bits-value S H (positive-finite S p) (value-sign S false (num S) (den S) (own_value S p))

  finite-pattern : to_bits binary64 S < inf_bits
  finite-pattern = to_bits-finite S H (positive-finite S p) (value-sign S false (num S) (den S) (own_value S p))

  -- the pattern is that of a normal value
  normal-pattern : 2 ^ 52 ≤ to_bits binary64 S
  normal-pattern =
      let e = value→cross S (units_of (to_bits binary64 S)) (2 ^ 1074) value in
      units-le-back (2 ^ 52) (to_bits binary64 S)
      (le_of_mul-le-mul_right (le_trans (le_of_eq (mul_comm (2 ^ 52) (den S))) (le_trans (mul-le-mul_right (2 ^ 52) n) (le_of_eq (mul_assoc (num S) (2 ^ 1022) (2 ^ 52) ∙ e)))) (den_pos S))

  -- 4 w * 4 ^ F / 2 ^ 2098, with w the scaled significand, is S
  as-value : (w F m : ℕ) → w * 2 ^ 52 * (2 ^ F * 2 ^ F) ≡ m * 2 ^ 1074 → num S * 2 ^ 1074 ≡ m * den S → num S * (2 ^ 52 * (2 ^ 1023 * 2 ^ 1023)) ≡ 4 * w * (2 ^ F * 2 ^ F) * den S
  as-value w F m e g =
      let Q = 2 ^ F * 2 ^ F in
      let K = 2 ^ 52 in
      let D = 2 ^ 1074 in
      eq_of_mul-eq-mul_right K (pow_pos 52) (num S * (2 ^ 52 * (2 ^ 1023 * 2 ^ 1023))) (4 * w * Q * den S)
      (mul_assoc (num S) (2 ^ 52 * (2 ^ 1023 * 2 ^ 1023)) K
      ∙ sym
      (mul_right_comm (4 * w * Q) (den S) K
      ∙ ap (λ (t : ℕ). t * den S) (mul_right_comm (4 * w) Q K ∙ ap (λ (t : ℕ). t * Q) (mul_assoc 4 w K) ∙ mul_assoc 4 (w * K) Q ∙ ap (λ (t : ℕ). 4 * t) e)
      ∙ mul_assoc 4 (m * D) (den S)
      ∙ ap (λ (t : ℕ). 4 * t) (mul_right_comm m D (den S) ∙ ap (λ (t : ℕ). t * D) (sym g))
      ∙ mul_comm 4 (num S * D * D)
      ∙ mul_assoc (num S * D) D 4
      ∙ mul_assoc (num S) D (D * 4)))

  pub root-close : T (positive (root_at (to_bits binary64 S)))
      × Rat (2 ^ 49 - 1) (2 ^ 49 + 1) (2 ^ 49) (num (root_at (to_bits binary64 S)) * num (root_at (to_bits binary64 S))) (den (root_at (to_bits binary64 S)) * den (root_at (to_bits binary64 S))) (num S) (den S)
  root-close =
      let u = to_bits binary64 S in
      let φ = of_bits binary64 (normal_field u * 2 ^ 52) in
      let d = twice_root u in
      let r = scaled-root u normal-pattern finite-pattern in
      let c = (twice-close u).close in
      let F = 2 ^ normal_field u in
      let e = value→cross φ F (2 ^ 1023) (power u normal-pattern finite-pattern) in
      let f : Rat 1 1 1 (num φ * num φ) (den φ * den φ) (F * F) (2 ^ 1023 * 2 ^ 1023) = rat-of-eq (num φ * num φ) (den φ * den φ) (F * F) (2 ^ 1023 * 2 ^ 1023) (mul-mul-mul_comm (num φ) (num φ) (2 ^ 1023) (2 ^ 1023) ∙ ap (λ (t : ℕ). t * t) e ∙ mul-mul-mul_comm F (den φ) F (den φ)) in
      let g = rat-mul c f in
      let k = rat-left (num d * num φ * (num d * num φ)) (den d * den φ * (den d * den φ)) (mul-pos (mul-pos (den_pos d) (den_pos d)) (mul-pos (den_pos φ) (den_pos φ))) (simp (mul_assoc, mul_comm, mul_left_comm)) g in
      let q = rat-right (num S) (den S) (mul-pos (pow_pos 52) (mul-pos (pow_pos 1023) (pow_pos 1023))) (as-value (scaled (folded u)) (normal_field u) (units_of u) (normal-split u normal-pattern finite-pattern) (value→cross S (units_of u) (2 ^ 1074) value)) k in
      (r.0, rat-weaken (lit< tt) (lit≤ tt) (lit≤ tt) (rat-trans (mul-pos (mul-pos (den_pos d) (den_pos φ)) (mul-pos (den_pos d) (den_pos φ))) (rat-mul r.1 r.1) q))
