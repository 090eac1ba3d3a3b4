-- `sqrt_of` of a number above zero is nearer to its root than any other f64 (`sqrt-nearest`), and nothing else is (`sqrt-unique`). Assumes nothing.
use mathlib.Core.Path.{◌≡◌, sym, ap, ◌∙◌, subst}
use mathlib.Core.Logic.{inl, inr}
use mathlib.Core.Bool.{false}
use Prim.Native.Nat.{ℕ, suc, ◌+◌, ◌-◌, ◌*◌, ◌^◌, ◌≤◌, ◌<◌}
use native.Mathlib.Nat.{le_trans, le_of_eq, le_antisymm, lt_of_lt_of_le, lt_of_le_of_lt, lt_irrefl, lt_trans, add_comm, mul-one, one-mul, add_assoc, mul-mul-mul_comm, mul_assoc, mul_comm, mul_left_comm, mul_right_comm, add-mul, mul-add, mul-pos, mul-le-mul, mul-le-mul_left, mul-le-mul_right, mul-lt-mul_of_pos_right, lt_of_mul-lt-mul_right}
use native.Mathlib.Omega.{arith}
use lib.Dec.{T, lit<, lit≤}
use lib.Pow.{pow-add, pow_pos}
use lib.Ieee.{Float, binary64, of_bits, to_bits, lt, fits}
use lib.Ieee.Bits.{of_bits-fits}
use lib.Ieee.Exact.{HasValue}
use lib.Ieee.Positive.{num, den, positive, den_pos, positive-finite, own_value, value→cross, positive_of_value}
use Rattle.laws.proofs.Value.{lt-of-values, lt-values, value-sign}
use Rattle.laws.proofs.Bits.{units_of, units-at, units-le, units-lt-back, to_bits-value}
use Rattle.laws.proofs.Power.{unique}
use Rattle.roots.specs.Sqrt.{square, nearest_root, NearestRoot}
use Rattle.roots.proofs.WholeRoot.{Nearest, which}
use Rattle.roots.proofs.Shape.{root-nearest, root-least, root-most, pattern-at}

-- ---- from units to fractions: A / q = P / D and n / d = N / D, so (A / q) ^ 2 against 4 n / d is P * P against 4 N D
crossed : (A D P q n N d : ℕ) → A * D ≡ P * q → n * D ≡ N * d → (square A * d * (D * D * D) ≡ P * P * D * (q * q * d)) × (4 * n * square q * (D * D * D) ≡ 4 * N * D * D * (q * q * d))
crossed A D P q n N d e f = (
  simp (mul_assoc, mul_comm, mul_left_comm) (simp (mul_assoc, mul_comm, mul_left_comm) at (ap (λ (t : ℕ). t * t * (d * D)) e)),
  simp (mul_assoc, mul_comm, mul_left_comm) (simp (mul_assoc, mul_comm, mul_left_comm) at (ap (λ (t : ℕ). 4 * t * (q * q * (D * D))) f)),
)

cross-below : (A D P q n N d : ℕ) → 0 < D → 0 < q → 0 < d → A * D ≡ P * q → n * D ≡ N * d → P * P < 4 * N * D → square A * d < 4 * n * square q
cross-below A D P q n N d C Q E e f h =
    let c = crossed A D P q n N d e f in
    lt_of_mul-lt-mul_right (D * D * D)
    (lt_of_le_of_lt (le_of_eq c.0) (lt_of_lt_of_le (mul-lt-mul_of_pos_right (mul-lt-mul_of_pos_right h C) (mul-pos (mul-pos Q Q) E)) (le_of_eq (sym c.1))))

cross-above : (A D P q n N d : ℕ) → 0 < D → 0 < q → 0 < d → A * D ≡ P * q → n * D ≡ N * d → 4 * N * D < P * P → 4 * n * square q < square A * d
cross-above A D P q n N d C Q E e f h =
    let c = crossed A D P q n N d e f in
    lt_of_mul-lt-mul_right (D * D * D)
    (lt_of_le_of_lt (le_of_eq c.1) (lt_of_lt_of_le (mul-lt-mul_of_pos_right (mul-lt-mul_of_pos_right h C) (mul-pos (mul-pos Q Q) E)) (le_of_eq (sym c.0))))

sum-cross : (a b c d D R Z : ℕ) → a * D ≡ R * c → b * D ≡ Z * d → (a * d + b * c) * D ≡ (R + Z) * (c * d)
sum-cross a b c d D R Z e f =
    add-mul (a * d) (b * c) D
    ∙ ap (λ (t : ℕ). t + b * c * D) (mul_right_comm a d D ∙ ap (λ (t : ℕ). t * d) e ∙ mul_assoc R c d)
    ∙ ap (λ (t : ℕ). R * (c * d) + t) (mul_right_comm b c D ∙ ap (λ (t : ℕ). t * c) f ∙ mul_assoc Z d c ∙ ap (λ (t : ℕ). Z * t) (mul_comm d c))
    ∙ sym (add-mul R Z (c * d))

-- ---- the neighbours of a pattern with 53 digits
pub units-digits : (S F : ℕ) → 2 ^ 52 ≤ S → S < 2 ^ 53 → units_of (S + F * 2 ^ 52) ≡ S * 2 ^ F
units-digits S F l u =
    let t = S - 2 ^ 52 in
    let e : S + F * 2 ^ 52 ≡ suc F * 2 ^ 52 + t = omega arith in
    let g : 2 ^ 52 + t ≡ S = omega arith in
    ap units_of e ∙ units-at (suc F) t (omega arith) ∙ ap (λ (m : ℕ). m * 2 ^ F) g

next-above : (S F : ℕ) → 2 ^ 52 ≤ S → S < 2 ^ 53 → units_of (S + F * 2 ^ 52 + 1) ≡ (S + 1) * 2 ^ F
next-above S F l u =
    elim (which (S + 1) (2 ^ 53)) [
      | inl h ↦
          let e : S + F * 2 ^ 52 + 1 ≡ S + 1 + F * 2 ^ 52 = omega arith in
          ap units_of e ∙ units-digits (S + 1) F (omega arith) h
      | inr h ↦
          let e : S + F * 2 ^ 52 + 1 ≡ 2 ^ 52 + (1 + F) * 2 ^ 52 = omega arith in
          let g : 2 ^ 53 ≡ S + 1 = omega arith in
          ap units_of e ∙ units-digits (2 ^ 52) (1 + F) (lit≤ tt) (lit< tt) ∙ ap (λ (m : ℕ). 2 ^ 52 * m) (pow-add 2 1 F) ∙ sym (mul_assoc (2 ^ 52) 2 (2 ^ F)) ∙ ap (λ (m : ℕ). m * 2 ^ F) g
    ]

next-below : (S F : ℕ) → 2 ^ 52 < S → S < 2 ^ 53 → units_of (S + F * 2 ^ 52 - 1) ≡ (S - 1) * 2 ^ F
next-below S F l u =
    let e : S + F * 2 ^ 52 - 1 ≡ S - 1 + F * 2 ^ 52 = omega arith in
    ap units_of e ∙ units-digits (S - 1) F (omega arith) (omega arith)

-- ---- the middle of S and its neighbour, squared, against X: g is the unit
pub square-lt : (a b : ℕ) → a < b → a * a < b * b
square-lt a b h = lt_of_le_of_lt (mul-le-mul_left a (le_trans (omega arith) h)) (mul-lt-mul_of_pos_right h (le_trans (omega arith) h))

times-unit : (X P g : ℕ) → 0 < g → P * P < 4 * X → P * g * (P * g) < 4 * (X * (g * g))
times-unit X P g G h = lt_of_le_of_lt (le_of_eq (mul-mul-mul_comm P g P g)) (lt_of_lt_of_le (mul-lt-mul_of_pos_right h (mul-pos G G)) (le_of_eq (mul_assoc 4 X (g * g))))

unit-times : (X P g : ℕ) → 0 < g → 4 * X < P * P → 4 * (X * (g * g)) < P * g * (P * g)
unit-times X P g G h = lt_of_le_of_lt (le_of_eq (sym (mul_assoc 4 X (g * g)))) (lt_of_lt_of_le (mul-lt-mul_of_pos_right h (mul-pos G G)) (le_of_eq (sym (mul-mul-mul_comm P g P g))))

middle-below : (X S g Z : ℕ) → 0 < g → 0 < S → Nearest X S → Z ≤ (S - 1) * g → (S * g + Z) * (S * g + Z) < 4 * (X * (g * g))
middle-below X S g Z G p N h =
    let T = S - 1 in
    let s : S ≡ T + 1 = omega arith in
    let m : S + T ≡ T + T + 1 = omega arith in
    let q : S * g + T * g ≡ (T + T + 1) * g = sym (add-mul S T g) ∙ ap (λ (t : ℕ). t * g) m in
    let a : S * g + Z ≤ (T + T + 1) * g = omega arith in
    let e : S * S ≡ T * T + T + T + 1 = ap (λ (t : ℕ). t * t) s ∙ simp (add-mul, mul-add, mul-one, one-mul, add_assoc) in
    let f : (T + T + 1) * (T + T + 1) ≡ 4 * (T * T) + 4 * T + 1 = simp (add-mul, mul-add, mul-one, one-mul) (omega arith) in
    lt_of_le_of_lt (mul-le-mul a a) (times-unit X (T + T + 1) g G (omega (arith, N.1)))

middle-edge : (X S g Z : ℕ) → S * S ≤ X → Z < S * g → (S * g + Z) * (S * g + Z) < 4 * (X * (g * g))
middle-edge X S g Z l h =
    let q : S * g + S * g ≡ (S + S) * g = sym (add-mul S S g) in
    let a : S * g + Z < (S + S) * g = omega arith in
    let e : (S + S) * (S + S) ≡ 4 * (S * S) = simp (add-mul, mul-add) (omega arith) in
    let b : (S + S) * (S + S) ≤ 4 * X = omega arith in
    lt_of_lt_of_le (square-lt (S * g + Z) ((S + S) * g) a) (le_trans (le_of_eq (mul-mul-mul_comm (S + S) g (S + S) g)) (le_trans (mul-le-mul_right (g * g) b) (le_of_eq (mul_assoc 4 X (g * g)))))

middle-above : (X S g Z : ℕ) → 0 < g → Nearest X S → (S + 1) * g ≤ Z → 4 * (X * (g * g)) < (S * g + Z) * (S * g + Z)
middle-above X S g Z G N h =
    let m : S + (S + 1) ≡ S + S + 1 = omega arith in
    let q : S * g + (S + 1) * g ≡ (S + S + 1) * g = sym (add-mul S (S + 1) g) ∙ ap (λ (t : ℕ). t * g) m in
    let a : (S + S + 1) * g ≤ S * g + Z = omega arith in
    let f : (S + S + 1) * (S + S + 1) ≡ 4 * (S * S) + 4 * S + 1 = simp (add-mul, mul-add, mul-one, one-mul) (omega arith) in
    lt_of_lt_of_le (unit-times X (S + S + 1) g G (omega (arith, N.0))) (mul-le-mul a a)

-- ---- the pattern of the nearest whole root is the nearest value
abbrev root_units : ℕ → ℕ → ℕ
root_units X F = nearest_root 53 X * 2 ^ F

abbrev root_pattern : ℕ → ℕ → ℕ
root_pattern X F = nearest_root 53 X + F * 2 ^ 52

abbrev pub z_units : Float → ℕ
z_units z = units_of (to_bits binary64 z)

pub units-value : (z : Float) → T (fits binary64 z) → T (positive z) → HasValue z false (z_units z) (2 ^ 1074)
units-value z G p = to_bits-value z G (positive-finite z p) (value-sign z false (num z) (den z) (own_value z p))

module _ (x : Float) (n X F : ℕ) (v : HasValue x false n (2 ^ 1074)) (e : X * (2 ^ F * 2 ^ F) ≡ n * 2 ^ 1074) (l : 2 ^ 104 ≤ X) (u : X ≤ 2 ^ 106 - 2 ^ 53) (f : F < 2046) where
  value : HasValue (of_bits binary64 (root_pattern X F)) false (root_units X F) (2 ^ 1074)
  value = pattern-at (nearest_root 53 X) F (root-least X l u) (root-most X l u) f

  own-units : units_of (root_pattern X F) ≡ root_units X F
  own-units = units-digits (nearest_root 53 X) F (root-least X l u) (root-most X l u)

  four-times : 4 * (X * (2 ^ F * 2 ^ F)) ≡ 4 * n * 2 ^ 1074
  four-times = ap (λ (t : ℕ). 4 * t) e ∙ sym (mul_assoc 4 n (2 ^ 1074))

  under : (z : Float) → T (fits binary64 z) → T (positive z) → T (lt z (of_bits binary64 (root_pattern X F))) → (root_units X F + z_units z) * (root_units X F + z_units z) < 4 * n * 2 ^ 1074
  under z G p h =
      let S = nearest_root 53 X in
      let a : z_units z * 2 ^ 1074 < root_units X F * 2 ^ 1074 =
      lt-values z (of_bits binary64 (root_pattern X F)) (z_units z) (2 ^ 1074) (root_units X F) (2 ^ 1074) (pow_pos 1074) (pow_pos 1074) (units-value z G p) value h in
      let b : z_units z < root_units X F = lt_of_mul-lt-mul_right (2 ^ 1074) a in
      let c : to_bits binary64 z < root_pattern X F = units-lt-back (to_bits binary64 z) (root_pattern X F) (lt_of_lt_of_le b (le_of_eq (sym own-units))) in
      let less : to_bits binary64 z ≤ root_pattern X F - 1 = omega (arith, c) in
      let middle : (root_units X F + z_units z) * (root_units X F + z_units z) < 4 * (X * (2 ^ F * 2 ^ F)) =
      elim (which (2 ^ 52) S) [
        | inl k ↦
            middle-below X S (2 ^ F) (z_units z) (pow_pos F) (lt_of_le_of_lt (lit≤ tt) k) (root-nearest X l u)
            (le_trans (units-le (to_bits binary64 z) (root_pattern X F - 1) less) (le_of_eq (next-below S F k (root-most X l u))))
        | inr k ↦ middle-edge X S (2 ^ F) (z_units z) (le_trans (mul-le-mul k k) l) b
      ] in
      lt_of_lt_of_le middle (le_of_eq four-times)

  over : (z : Float) → T (fits binary64 z) → T (positive z) → T (lt (of_bits binary64 (root_pattern X F)) z) → 4 * n * 2 ^ 1074 < (root_units X F + z_units z) * (root_units X F + z_units z)
  over z G p h =
      let S = nearest_root 53 X in
      let a : root_units X F * 2 ^ 1074 < z_units z * 2 ^ 1074 =
      lt-values (of_bits binary64 (root_pattern X F)) z (root_units X F) (2 ^ 1074) (z_units z) (2 ^ 1074) (pow_pos 1074) (pow_pos 1074) value (units-value z G p) h in
      let b : root_units X F < z_units z = lt_of_mul-lt-mul_right (2 ^ 1074) a in
      let c : root_pattern X F < to_bits binary64 z = units-lt-back (root_pattern X F) (to_bits binary64 z) (lt_of_le_of_lt (le_of_eq own-units) b) in
      let more : root_pattern X F + 1 ≤ to_bits binary64 z = omega (arith, c) in
      lt_of_le_of_lt (le_of_eq (sym four-times))
      (middle-above X S (2 ^ F) (z_units z) (pow_pos F) (root-nearest X l u)
      (le_trans (le_of_eq (sym (next-above S F (root-least X l u) (root-most X l u)))) (units-le (root_pattern X F + 1) (to_bits binary64 z) more)))

  joined : (z : Float) → T (fits binary64 z) → T (positive z)
      → (num (of_bits binary64 (root_pattern X F)) * den z + num z * den (of_bits binary64 (root_pattern X F))) * 2 ^ 1074 ≡ (root_units X F + z_units z) * (den (of_bits binary64 (root_pattern X F)) * den z)
  joined z G p =
      let r = of_bits binary64 (root_pattern X F) in
      sum-cross (num r) (num z) (den r) (den z) (2 ^ 1074) (root_units X F) (z_units z) (value→cross r (root_units X F) (2 ^ 1074) value) (value→cross z (z_units z) (2 ^ 1074) (units-value z G p))

  pub pattern-nearest : NearestRoot x (of_bits binary64 (root_pattern X F))
  pattern-nearest =
      let r = of_bits binary64 (root_pattern X F) in
      record {
        holds = of_bits-fits binary64 (root_pattern X F);
        is_positive = positive_of_value r (root_units X F) (2 ^ 1074) value (mul-pos (lt_of_lt_of_le (lit< tt) (root-least X l u)) (pow_pos F));
        below = λ z G p h.
            cross-below (num r * den z + num z * den r) (2 ^ 1074) (root_units X F + z_units z) (den r * den z) (num x) n (den x) (pow_pos 1074) (mul-pos (den_pos r) (den_pos z)) (den_pos x) (joined z G p)
            (value→cross x n (2 ^ 1074) v) (under z G p h);
        above = λ z G p h.
            cross-above (num r * den z + num z * den r) (2 ^ 1074) (root_units X F + z_units z) (den r * den z) (num x) n (den x) (pow_pos 1074) (mul-pos (den_pos r) (den_pos z)) (den_pos x) (joined z G p)
            (value→cross x n (2 ^ 1074) v) (over z G p h);
      }

-- ---- two that are nearest are one
never_less : (x r q : Float) → NearestRoot x r → NearestRoot x q → num r * den q < num q * den r → ⊥
never_less x r q a b h =
    let l : T (lt r q) = lt-of-values r q (num r) (den r) (num q) (den q) (den_pos r) (den_pos q) (own_value r a.is_positive) (own_value q b.is_positive) h in
    let s : num q * den r + num r * den q ≡ num r * den q + num q * den r = add_comm (num q * den r) (num r * den q) in
    let lower : square (num r * den q + num q * den r) * den x < 4 * num x * square (den r * den q) =
    subst (λ (t : ℕ). square (num r * den q + num q * den r) * den x < 4 * num x * square t) (mul_comm (den q) (den r))
    (subst (λ (t : ℕ). square t * den x < 4 * num x * square (den q * den r)) s (b.below r a.holds a.is_positive l)) in
    lt_irrefl (square (num r * den q + num q * den r) * den x) (lt_trans lower (a.above q b.holds b.is_positive l))

pub nearest-one : (x r q : Float) → NearestRoot x r → NearestRoot x q → r ≡ q
nearest-one x r q a b =
    elim (which (num r * den q) (num q * den r)) [
      | inl h ↦ absurd (never_less x r q a b h)
      | inr h ↦
          elim (which (num q * den r) (num r * den q)) [
            | inl g ↦ absurd (never_less x q r b a g)
            | inr g ↦ unique binary64 r q false (num r) (den r) (num q) (den q) (den_pos r) (den_pos q) a.holds b.holds (own_value r a.is_positive) (own_value q b.is_positive) (le_antisymm g h)
          ]
    ]
