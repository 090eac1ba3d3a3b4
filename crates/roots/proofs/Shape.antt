-- A number above zero as X * 4 ^ F of the square's units, X a whole number of 105 or 106 digits: what `sqrt_of` takes the root of, and the pattern that it gives. Assumes nothing.
use mathlib.Core.Path.{◌≡◌, refl, sym, ap, ◌∙◌, subst}
use mathlib.Core.Logic.{inl, inr}
use mathlib.Core.Bool.{true, false}
use Prim.Native.Nat.{ℕ, zero, suc, ◌+◌, ◌-◌, ◌*◌, ◌/◌, ◌^◌, ◌≤◌, ◌<◌}
use native.Mathlib.Nat.{le_trans, le_of_eq, le_antisymm, lt_of_lt_of_le, lt_of_le_of_lt, mul_assoc, mul_right_comm, mul-le-mul, mul-le-mul_right, mul-lt-mul_of_pos_right, le_of_mul-le-mul_right, lt_of_mul-lt-mul_right, mul-div_cancel, eq_of_mul-eq-mul_right, pow-suc, pow-zero, not-le_of_lt}
use native.Mathlib.Omega.{arith}
use lib.Dec.{T, lit<}
use lib.Pow.{pow-add, pow_pos, pow_mono}
use lib.Ieee.{Float, nan, inf, fin, binary64, down, size, round, of_bits}
use lib.Ieee.Digits.{size-lt, size-le}
use lib.Ieee.Bits.{of_bits-fits}
use lib.Ieee.Fits.{round-fits, down_pos}
use lib.Ieee.Exact.{HasValue, round_exact}
use lib.Ieee.Positive.{num, den, positive}
use Rattle.laws.proofs.Bits.{pattern-value}
use Rattle.laws.proofs.Power.{unique}
use Rattle.roots.specs.Sqrt.{nearest_root, sqrt_of}
use Rattle.roots.proofs.WholeRoot.{Nearest, which, nearest-root, above-below, not-above}

-- ---- powers
pub four : (h : ℕ) → 4 ^ h ≡ 2 ^ (h + h)
four zero = pow-zero 4
four (suc h) =
    let e : suc h + suc h ≡ h + h + 2 = omega arith in
    pow-suc 4 h ∙ ap (λ (x : ℕ). x * 4) (four h) ∙ sym (ap (λ (x : ℕ). 2 ^ x) e ∙ pow-add 2 (h + h) 2)

size_is : (n a : ℕ) → 2 ^ a ≤ n → n < 2 ^ (a + 1) → size n ≡ a + 1
size_is n a l u =
    elim (which (size n) (a + 1)) [
      | inl h ↦ absurd (not-le_of_lt (lt_of_lt_of_le (size-lt n) (pow_mono {i = size n} {j = a} (omega arith))) l)
      | inr h ↦ le_antisymm (size-le n (a + 1) u) h
    ]

-- ---- n * 2 ^ s = M * 2 ^ j with an M of 53 digits, so that n has k = 53 + j - s; with h half of these, rounded up, n * 2 ^ 106 / 4 ^ h is M * 2 ^ 52 or M * 2 ^ 53
abbrev pub half : ℕ → ℕ
half k = (k + 1) / 2

abbrev pub kept : ℕ → ℕ → ℕ
kept M k = M * 2 ^ (53 + k - (half k + half k))

module _ (n M s j k : ℕ) (e : n * 2 ^ s ≡ M * 2 ^ j) (d : k + s ≡ 53 + j) (least : 2 ^ 52 ≤ M) (most : M < 2 ^ 53) (some : 0 < k) where
  digits : size n ≡ k
  digits =
      let a = k - 1 in
      let x : a + s ≡ 52 + j = omega arith in
      let y : a + 1 + s ≡ 53 + j = omega arith in
      let l : 2 ^ a * 2 ^ s ≤ n * 2 ^ s =
      le_trans (le_of_eq (sym (pow-add 2 a s) ∙ ap (λ (t : ℕ). 2 ^ t) x ∙ pow-add 2 52 j)) (le_trans (mul-le-mul_right (2 ^ j) least) (le_of_eq (sym e))) in
      let u : n * 2 ^ s < 2 ^ (a + 1) * 2 ^ s =
      lt_of_le_of_lt (le_of_eq e) (lt_of_lt_of_le (mul-lt-mul_of_pos_right most (pow_pos j)) (le_of_eq (sym (pow-add 2 53 j) ∙ ap (λ (t : ℕ). 2 ^ t) (sym y) ∙ pow-add 2 (a + 1) s))) in
      size_is n a (le_of_mul-le-mul_right l (pow_pos s)) (lt_of_mul-lt-mul_right (2 ^ s) u) ∙ omega arith

  whole : n * 2 ^ 106 ≡ M * 2 ^ (53 + k)
  whole =
      let x : 53 + k + s ≡ 106 + j = omega arith in
      eq_of_mul-eq-mul_right (2 ^ s) (pow_pos s) (n * 2 ^ 106) (M * 2 ^ (53 + k))
      (mul_right_comm n (2 ^ 106) (2 ^ s)
      ∙ ap (λ (t : ℕ). t * 2 ^ 106) e
      ∙ mul_right_comm M (2 ^ j) (2 ^ 106)
      ∙ mul_assoc M (2 ^ 106) (2 ^ j)
      ∙ ap (λ (t : ℕ). M * t) (sym (pow-add 2 106 j) ∙ ap (λ (t : ℕ). 2 ^ t) (sym x) ∙ pow-add 2 (53 + k) s)
      ∙ sym (mul_assoc M (2 ^ (53 + k)) (2 ^ s)))

  quarter : kept M k * 4 ^ half k ≡ n * 2 ^ 106
  quarter =
      let x : 53 + k - (half k + half k) + (half k + half k) ≡ 53 + k = omega arith in
      ap (λ (t : ℕ). kept M k * t) (four (half k))
      ∙ mul_assoc M (2 ^ (53 + k - (half k + half k))) (2 ^ (half k + half k))
      ∙ ap (λ (t : ℕ). M * t) (sym (pow-add 2 (53 + k - (half k + half k)) (half k + half k)) ∙ ap (λ (t : ℕ). 2 ^ t) x)
      ∙ sym whole

  -- what `sqrt_of` takes the root of
  taken : n * 2 ^ 106 / 4 ^ half (size n) ≡ kept M k
  taken = ap (λ (t : ℕ). n * 2 ^ 106 / 4 ^ half t) digits ∙ ap (λ (t : ℕ). t / 4 ^ half k) (sym quarter) ∙ mul-div_cancel (kept M k) (subst (λ (t : ℕ). 0 < t) (sym (four (half k))) (pow_pos (half k + half k)))

  pub taken-least : 2 ^ 104 ≤ kept M k
  taken-least = mul-le-mul least (pow_mono {i = 52} {j = 53 + k - (half k + half k)} (omega arith))

  pub taken-most : kept M k ≤ 2 ^ 106 - 2 ^ 53
  taken-most =
      let m : M ≤ 2 ^ 53 - 1 = omega arith in
      mul-le-mul m (pow_mono {i = 53 + k - (half k + half k)} {j = 53} (omega arith))

  -- in units of 2 ^ -2148, the square of the format's smallest value
  pub taken-value : kept M k * (2 ^ (half k + 484) * 2 ^ (half k + 484)) ≡ n * 2 ^ 1074
  taken-value =
      let x : half k + 484 + (half k + 484) ≡ half k + half k + 968 = omega arith in
      ap (λ (t : ℕ). kept M k * t) (sym (pow-add 2 (half k + 484) (half k + 484)) ∙ ap (λ (t : ℕ). 2 ^ t) x ∙ pow-add 2 (half k + half k) 968)
      ∙ sym (mul_assoc (kept M k) (2 ^ (half k + half k)) (2 ^ 968))
      ∙ ap (λ (t : ℕ). t * 2 ^ 968) (ap (λ (t : ℕ). kept M k * t) (sym (four (half k))) ∙ quarter)
      ∙ mul_assoc n (2 ^ 106) (2 ^ 968)

-- ---- the root of an X of 105 or 106 digits has 53 digits
pub root-nearest : (X : ℕ) → 2 ^ 104 ≤ X → X ≤ 2 ^ 106 - 2 ^ 53 → Nearest X (nearest_root 53 X)
root-nearest X l u = nearest-root 53 X (omega arith) (omega arith)

pub root-least : (X : ℕ) → 2 ^ 104 ≤ X → X ≤ 2 ^ 106 - 2 ^ 53 → 2 ^ 52 ≤ nearest_root 53 X
root-least X l u = above-below X (nearest_root 53 X) (2 ^ 52 - 1) (root-nearest X l u) (omega arith)

pub root-most : (X : ℕ) → 2 ^ 104 ≤ X → X ≤ 2 ^ 106 - 2 ^ 53 → nearest_root 53 X < 2 ^ 53
root-most X l u = lt_of_le_of_lt (not-above X (nearest_root 53 X) (2 ^ 53 - 1) (root-nearest X l u) (omega arith)) (lit< tt)

-- ---- 53 digits S with the field F before them: S * 2 ^ F units of the smallest value
pub pattern-at : (S F : ℕ) → 2 ^ 52 ≤ S → S < 2 ^ 53 → F < 2046 → HasValue (of_bits binary64 (S + F * 2 ^ 52)) false (S * 2 ^ F) (2 ^ 1074)
pattern-at S F l u f =
    let t = S - 2 ^ 52 in
    let e : suc F * 2 ^ 52 + t ≡ S + F * 2 ^ 52 = omega arith in
    let g : 2 ^ 52 + t ≡ S = omega arith in
    subst (λ (b : ℕ). HasValue (of_bits binary64 b) false (S * 2 ^ F) (2 ^ 1074)) e
    (subst (λ (m : ℕ). HasValue (of_bits binary64 (suc F * 2 ^ 52 + t)) false (m * 2 ^ F) (2 ^ 1074)) g (pattern-value (suc F) t (omega arith) (omega arith)))

-- the same number, rounded from its fraction
written : (S h : ℕ) → 2 ^ 52 ≤ S → S < 2 ^ 53 → h < 1500 → round binary64 false (S * 2 ^ h) (2 ^ 590) ≡ of_bits binary64 (S + (h + 484) * 2 ^ 52)
written S h l u f =
    let x : S * 2 ^ h * 2 ^ 1074 ≡ S * 2 ^ (h + 484) * 2 ^ 590 =
    mul_assoc S (2 ^ h) (2 ^ 1074) ∙ ap (λ (t : ℕ). S * t) (sym (mul_assoc (2 ^ h) (2 ^ 484) (2 ^ 590)) ∙ ap (λ (t : ℕ). t * 2 ^ 590) (sym (pow-add 2 h 484))) ∙ sym (mul_assoc S (2 ^ (h + 484)) (2 ^ 590)) in
    let y : S * 2 ^ (h + 484) < 2 ^ 2098 =
    lt_of_lt_of_le (mul-lt-mul_of_pos_right u (pow_pos (h + 484))) (le_trans (le_of_eq (sym (pow-add 2 53 (h + 484)))) (pow_mono {i = 53 + (h + 484)} {j = 2098} (omega arith))) in
    unique binary64 (round binary64 false (S * 2 ^ h) (2 ^ 590)) (of_bits binary64 (S + (h + 484) * 2 ^ 52)) false (S * 2 ^ h) (2 ^ 590) (S * 2 ^ (h + 484)) (2 ^ 1074) (pow_pos 590) (pow_pos 1074)
    (round-fits binary64 false (S * 2 ^ h) (2 ^ 590)) (of_bits-fits binary64 (S + (h + 484) * 2 ^ 52))
    (round_exact binary64 false (S * 2 ^ h) (2 ^ 590) S (h + 484) (pow_pos 590) u y x)
    (pattern-at S (h + 484) l u (omega arith))
    x

-- ---- the root of x = n * 2 ^ -1074, as a pattern
units_of : (x : Float) (n : ℕ) → HasValue x false n (2 ^ 1074) → num x * 2 ^ 1074 / den x ≡ n
units_of nan n v = absurd v
units_of (inf s) n v = absurd v
units_of (fin s m e) n v = ap (λ (t : ℕ). t / down e) v.1 ∙ mul-div_cancel n (down_pos e)

opened : (x : Float) → T (positive x) → sqrt_of x ≡ (let n = num x * 2 ^ 1074 / den x in round binary64 false (nearest_root 53 (n * 2 ^ 106 / 4 ^ half (size n)) * 2 ^ half (size n)) (2 ^ 590))
unfolding sqrt_of
opened nan p = absurd p
opened (inf s) p = absurd p
opened (fin true m e) p = absurd p
opened (fin false zero e) p = absurd p
opened (fin false (suc m) e) p = refl

pub sqrt-pattern : (x : Float) (n M s j k : ℕ) → T (positive x) → HasValue x false n (2 ^ 1074) → n * 2 ^ s ≡ M * 2 ^ j → k + s ≡ 53 + j → 2 ^ 52 ≤ M → M < 2 ^ 53 → 0 < k → k < 2200
    → sqrt_of x ≡ of_bits binary64 (nearest_root 53 (kept M k) + (half k + 484) * 2 ^ 52)
sqrt-pattern x n M s j k p v e d l u q f =
    opened x p
    ∙ ap (λ (t : ℕ). round binary64 false (nearest_root 53 (t * 2 ^ 106 / 4 ^ half (size t)) * 2 ^ half (size t)) (2 ^ 590)) (units_of x n v)
    ∙ ap (λ (t : ℕ). round binary64 false (nearest_root 53 t * 2 ^ half (size n)) (2 ^ 590)) (taken n M s j k e d l u q)
    ∙ ap (λ (t : ℕ). round binary64 false (nearest_root 53 (kept M k) * 2 ^ half t) (2 ^ 590)) (digits n M s j k e d l u q)
    ∙ written (nearest_root 53 (kept M k)) (half k) (root-least (kept M k) (taken-least n M s j k e d l u q) (taken-most n M s j k e d l u q)) (root-most (kept M k) (taken-least n M s j k e d l u q) (taken-most n M s j k e d l u q)) (omega arith)
