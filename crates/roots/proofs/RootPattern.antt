-- The root of a pattern, normal or subnormal: the digits that `sqrt_of` gives and the exponent's field, by the pattern's own numbers. Assumes nothing.
use mathlib.Core.Path.{◌≡◌, refl, sym, ap, ◌∙◌, subst}
use mathlib.Core.Logic.{inl, inr}
use mathlib.Core.Bool.{false}
use Prim.Native.Nat.{ℕ, zero, suc, ◌+◌, ◌-◌, ◌*◌, ◌/◌, ◌%◌, ◌^◌, ◌≤◌, ◌<◌}
use native.Mathlib.Nat.{le_trans, le_of_eq, lt_of_lt_of_le, lt_trans, zero-lt-suc, mul-one, mul_assoc, mul-le-mul_right, mul-lt-mul_of_pos_right, mod-eq_of_lt, div-eq_of_lt, not-le_of_lt}
use native.Mathlib.Omega.{arith}
use lib.Dec.{T, lit<}
use lib.Pow.{pow-add, pow_pos, pow_mono}
use lib.Count.{count_leading_zeros, leading_top}
use lib.Ieee.{Float, binary64, of_bits, to_bits, fits}
use lib.Ieee.Bits.{of_bits-to_bits}
use lib.Ieee.Exact.{HasValue}
use lib.Ieee.Positive.{num, den, positive, positive-finite, own_value}
use Rattle.laws.proofs.Value.{value-sign}
use Rattle.laws.proofs.Bits.{inf_bits, units_of, field_units, bits-value, bits_positive, to_bits-finite}
use Rattle.roots.specs.Seed.{folded}
use Rattle.roots.specs.Sqrt.{scaled, nearest_root, sqrt_of, NearestRoot}
use Rattle.roots.proofs.WholeRoot.{which}
use Rattle.roots.proofs.Significand.{low-scaled, high-scaled, scaled-range}
use Rattle.roots.proofs.Shape.{half, kept, taken-least, taken-most, taken-value, root-most, sqrt-pattern}
use Rattle.roots.proofs.Nearest.{pattern-nearest, nearest-one}

-- ---- k digits: where k is odd the significand M is taken as it is, where k is even doubled
kept-scaled : (M k v : ℕ) → 2 ^ 52 ≤ M → M < 2 ^ 53 → (k % 2 ≡ 1 → v % 2 ^ 53 ≡ M) → (k % 2 ≡ 0 → v % 2 ^ 53 + 2 ^ 52 ≡ M) → kept M k ≡ scaled (folded v) * 2 ^ 52
kept-scaled M k v l u odd even =
    elim (which (k % 2) 1) [
      | inl h ↦
          let z : k % 2 ≡ 0 = omega arith in
          let e : 53 + k - (half k + half k) ≡ 53 = omega arith in
          let w : folded v ≡ M = omega (arith, even z) in
          ap (λ (t : ℕ). M * 2 ^ t) e ∙ sym (ap (λ (t : ℕ). scaled t * 2 ^ 52) w ∙ ap (λ (t : ℕ). t * 2 ^ 52) (high-scaled M l) ∙ mul_assoc M 2 (2 ^ 52))
      | inr h ↦
          let z : k % 2 ≡ 1 = omega arith in
          let e : 53 + k - (half k + half k) ≡ 52 = omega arith in
          let w : folded v ≡ M - 2 ^ 52 = omega (arith, odd z) in
          let b : M - 2 ^ 52 < 2 ^ 52 = omega arith in
          let g : M - 2 ^ 52 + 2 ^ 52 ≡ M = omega arith in
          ap (λ (t : ℕ). M * 2 ^ t) e
          ∙ sym (ap (λ (t : ℕ). scaled t * 2 ^ 52) w ∙ ap (λ (t : ℕ). t * 2 ^ 52) (low-scaled (M - 2 ^ 52) b ∙ g))
    ]

nearest-split : (x : Float) (n M s j k : ℕ) → T (positive x) → HasValue x false n (2 ^ 1074) → n * 2 ^ s ≡ M * 2 ^ j → k + s ≡ 53 + j → 2 ^ 52 ≤ M → M < 2 ^ 53 → 0 < k → k < 2200 → NearestRoot x (sqrt_of x)
nearest-split x n M s j k p v e d l u q f =
    subst (λ (r : Float). NearestRoot x r) (sym (sqrt-pattern x n M s j k p v e d l u q f))
    (pattern-nearest x n (kept M k) (half k + 484) v (taken-value n M s j k e d l u q) (taken-least n M s j k e d l u q) (taken-most n M s j k e d l u q) (omega arith))

-- ---- a normal number
abbrev pub normal_digits : ℕ → ℕ
normal_digits u = scaled (folded u) * 2 ^ 52

abbrev pub normal_field : ℕ → ℕ
normal_field u = (u / 2 ^ 52 + 1021) / 2

-- the root of the significand has 53 digits at most
pub digits_lt : (u : ℕ) → nearest_root 53 (normal_digits u) < 2 ^ 53
digits_lt u =
    let w = folded u in
    let r = scaled-range w (omega arith) in
    root-most (scaled w * 2 ^ 52) (omega (arith, r)) (omega (arith, r))

module _ (u : ℕ) (l : 2 ^ 52 ≤ u) (f : u < inf_bits) where
  normal-value : HasValue (of_bits binary64 u) false ((2 ^ 52 + u % 2 ^ 52) * 2 ^ (u / 2 ^ 52 - 1)) (2 ^ 1074)
  normal-value =
      let e : u / 2 ^ 52 ≡ suc (u / 2 ^ 52 - 1) = omega arith in
      subst (λ (n : ℕ). HasValue (of_bits binary64 u) false n (2 ^ 1074)) (ap (λ (x : ℕ). field_units x (u % 2 ^ 52)) e) (bits-value u f)

  normal-same : (2 ^ 52 + u % 2 ^ 52) * 2 ^ (u / 2 ^ 52 - 1) * 2 ^ 0 ≡ (2 ^ 52 + u % 2 ^ 52) * 2 ^ (u / 2 ^ 52 - 1)
  normal-same = mul-one ((2 ^ 52 + u % 2 ^ 52) * 2 ^ (u / 2 ^ 52 - 1))

  normal-kept : kept (2 ^ 52 + u % 2 ^ 52) (52 + u / 2 ^ 52) ≡ normal_digits u
  normal-kept = kept-scaled (2 ^ 52 + u % 2 ^ 52) (52 + u / 2 ^ 52) u (omega arith) (omega arith) (λ h. omega arith) (λ h. omega arith)

  normal-field : half (52 + u / 2 ^ 52) + 484 ≡ normal_field u
  normal-field = omega arith

  pub sqrt-normal : sqrt_of (of_bits binary64 u) ≡ of_bits binary64 (nearest_root 53 (normal_digits u) + normal_field u * 2 ^ 52)
  sqrt-normal =
      sqrt-pattern (of_bits binary64 u) ((2 ^ 52 + u % 2 ^ 52) * 2 ^ (u / 2 ^ 52 - 1)) (2 ^ 52 + u % 2 ^ 52) 0 (u / 2 ^ 52 - 1) (52 + u / 2 ^ 52) (bits_positive u (omega arith) f) normal-value normal-same (omega arith) (omega arith) (omega arith) (omega arith) (omega arith)
      ∙ ap (λ (t : ℕ). of_bits binary64 (nearest_root 53 t + (half (52 + u / 2 ^ 52) + 484) * 2 ^ 52)) normal-kept
      ∙ ap (λ (t : ℕ). of_bits binary64 (nearest_root 53 (normal_digits u) + t * 2 ^ 52)) normal-field

  -- the value itself, in units of 2 ^ -2148
  pub normal-split : normal_digits u * (2 ^ normal_field u * 2 ^ normal_field u) ≡ units_of u * 2 ^ 1074
  normal-split =
      let e : u / 2 ^ 52 ≡ suc (u / 2 ^ 52 - 1) = omega arith in
      ap (λ (t : ℕ). t * (2 ^ normal_field u * 2 ^ normal_field u)) (sym normal-kept)
      ∙ ap (λ (t : ℕ). kept (2 ^ 52 + u % 2 ^ 52) (52 + u / 2 ^ 52) * (2 ^ t * 2 ^ t)) (sym normal-field)
      ∙ taken-value ((2 ^ 52 + u % 2 ^ 52) * 2 ^ (u / 2 ^ 52 - 1)) (2 ^ 52 + u % 2 ^ 52) 0 (u / 2 ^ 52 - 1) (52 + u / 2 ^ 52) normal-same (omega arith) (omega arith) (omega arith) (omega arith)
      ∙ ap (λ (t : ℕ). t * 2 ^ 1074) (sym (ap (λ (x : ℕ). field_units x (u % 2 ^ 52)) e))

  normal-nearest : NearestRoot (of_bits binary64 u) (sqrt_of (of_bits binary64 u))
  normal-nearest =
      nearest-split (of_bits binary64 u) ((2 ^ 52 + u % 2 ^ 52) * 2 ^ (u / 2 ^ 52 - 1)) (2 ^ 52 + u % 2 ^ 52) 0 (u / 2 ^ 52 - 1) (52 + u / 2 ^ 52) (bits_positive u (omega arith) f) normal-value normal-same (omega arith) (omega arith) (omega arith) (omega arith) (omega arith)

-- ---- a subnormal number: its leading zeros bring it to 53 digits
abbrev pub shift : ℕ → ℕ
shift u = count_leading_zeros 64 u - 11

abbrev pub brought : ℕ → ℕ
brought u = u * 2 ^ shift u + shift u % 2 * 2 ^ 52

module _ (u : ℕ) (l : 0 < u) (f : u < 2 ^ 52) where
  -- the place of the leading digit, below 52
  place : (i : ℕ) × (count_leading_zeros 64 u + suc i ≡ 64) × (2 ^ i ≤ u) × (u < 2 ^ suc i)
  place = leading_top 64 u l (lt_trans f (lit< tt))

  place-lt : place.0 < 52
  place-lt = elim (which place.0 52) [ inl h ↦ h | inr h ↦ absurd (not-le_of_lt f (le_trans (pow_mono h) place.2)) ]

  pub shift-range : (11 ≤ count_leading_zeros 64 u) × (0 < shift u) × (shift u ≤ 52)
  shift-range = let p : count_leading_zeros 64 u + suc place.0 ≡ 64 = place.1 in let q : place.0 < 52 = place-lt in (omega arith, omega arith, omega arith)

  shift_is : place.0 + shift u ≡ 52
  shift_is = let p : count_leading_zeros 64 u + suc place.0 ≡ 64 = place.1 in let q : place.0 < 52 = place-lt in omega arith

  brought-least : 2 ^ 52 ≤ u * 2 ^ shift u
  brought-least = le_trans (le_of_eq (ap (λ (t : ℕ). 2 ^ t) (sym (shift_is)) ∙ pow-add 2 place.0 (shift u))) (mul-le-mul_right (2 ^ shift u) place.2)

  pub brought-most : u * 2 ^ shift u < 2 ^ 53
  brought-most =
      let e : suc place.0 + shift u ≡ 53 = omega (arith, shift_is) in
      lt_of_lt_of_le (mul-lt-mul_of_pos_right place.3 (pow_pos (shift u))) (le_of_eq (sym (pow-add 2 (suc place.0) (shift u)) ∙ ap (λ (t : ℕ). 2 ^ t) e))

  subnormal-value : HasValue (of_bits binary64 u) false u (2 ^ 1074)
  subnormal-value =
      subst (λ (n : ℕ). HasValue (of_bits binary64 u) false n (2 ^ 1074)) (ap (λ (x : ℕ). field_units x (u % 2 ^ 52)) (div-eq_of_lt f) ∙ mod-eq_of_lt f) (bits-value u (lt_trans f (lit< tt)))

  subnormal-same : u * 2 ^ shift u ≡ u * 2 ^ shift u * 2 ^ 0
  subnormal-same = sym (mul-one (u * 2 ^ shift u))

  digits_of : suc place.0 + shift u ≡ 53 + 0
  digits_of = omega (arith, shift_is)

  subnormal-kept : kept (u * 2 ^ shift u) (suc place.0) ≡ normal_digits (brought u)
  subnormal-kept =
      let d = digits_of in
      let a = brought-least in
      let b = brought-most in
      kept-scaled (u * 2 ^ shift u) (suc place.0) (brought u) a b (λ h. omega arith) (λ h. omega arith)

  subnormal-field : half (suc place.0) + 484 ≡ 511 - (shift u + 1) / 2
  subnormal-field = let d = digits_of in omega arith

  pub sqrt-subnormal : sqrt_of (of_bits binary64 u) ≡ of_bits binary64 (nearest_root 53 (normal_digits (brought u)) + (511 - (shift u + 1) / 2) * 2 ^ 52)
  sqrt-subnormal =
      let q = place-lt in
      sqrt-pattern (of_bits binary64 u) u (u * 2 ^ shift u) (shift u) 0 (suc place.0) (bits_positive u l (lt_trans f (lit< tt))) subnormal-value subnormal-same digits_of brought-least brought-most (omega arith) (omega arith)
      ∙ ap (λ (t : ℕ). of_bits binary64 (nearest_root 53 t + (half (suc place.0) + 484) * 2 ^ 52)) subnormal-kept
      ∙ ap (λ (t : ℕ). of_bits binary64 (nearest_root 53 (normal_digits (brought u)) + t * 2 ^ 52)) subnormal-field

  subnormal-nearest : NearestRoot (of_bits binary64 u) (sqrt_of (of_bits binary64 u))
  subnormal-nearest =
      let q = place-lt in
      nearest-split (of_bits binary64 u) u (u * 2 ^ shift u) (shift u) 0 (suc place.0) (bits_positive u l (lt_trans f (lit< tt))) subnormal-value subnormal-same digits_of brought-least brought-most (omega arith) (omega arith)

-- ---- every number above zero, subnormal or not
zero-not : T (positive (of_bits binary64 0)) → ⊥
unfolding of_bits
zero-not h = h

positive-pattern : (x : Float) → T (fits binary64 x) → T (positive x) → (0 < to_bits binary64 x) × (to_bits binary64 x < inf_bits)
positive-pattern x F p = (pos_of (to_bits binary64 x) refl, to_bits-finite x F (positive-finite x p) (value-sign x false (num x) (den x) (own_value x p)))
  where
    pos_of : (b : ℕ) → to_bits binary64 x ≡ b → 0 < to_bits binary64 x
    pos_of zero e = absurd (zero-not (subst (λ (z : Float). T (positive z)) (sym (of_bits-to_bits binary64 x F) ∙ ap (of_bits binary64) e) p))
    pos_of (suc b) e = subst (λ (t : ℕ). 0 < t) (sym e) (zero-lt-suc b)

pub sqrt-nearest : (x : Float) → T (fits binary64 x) → T (positive x) → NearestRoot x (sqrt_of x)
sqrt-nearest x F p =
    let r = positive-pattern x F p in
    subst (λ (z : Float). NearestRoot z (sqrt_of z)) (of_bits-to_bits binary64 x F)
    (elim (which (to_bits binary64 x) (2 ^ 52)) [ inl h ↦ subnormal-nearest (to_bits binary64 x) r.0 h | inr h ↦ normal-nearest (to_bits binary64 x) h r.1 ])

-- whoever is nearest is the definition's value
pub sqrt-unique : (x r : Float) → T (fits binary64 x) → T (positive x) → NearestRoot x r → r ≡ sqrt_of x
sqrt-unique x r F p n = nearest-one x r (sqrt_of x) n (sqrt-nearest x F p)
