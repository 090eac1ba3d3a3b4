-- The whole number nearest to a fraction, a half up: which number it is, that there is only one, and that it is the fraction's and not its terms'.
-- Nothing here is about floats. Assumes nothing.
use mathlib.Core.Path.{◌≡◌, sym, ap, ◌∙◌}
use Prim.Native.Nat.{ℕ, ◌+◌, ◌*◌, ◌/◌, ◌≤◌, ◌<◌}
use native.Mathlib.Nat.{mul_comm, mul_assoc, mul_left_comm, mul-mul-mul_comm, add-mul, mul-pos, zero-lt-suc, div-eq_of_lt, div-eq_of_lt-le, div-div-eq-div-mul, add-div_right, div-mul-le_self, lt-div-mul-add}
use native.Mathlib.Omega.{arith}
use lib.Ieee.Nearest.{div_same}
use Rattle.rounding.specs.Round.{nearest_whole}

twice-pos : (c : ℕ) → 0 < c → 0 < 2 * c
twice-pos c h = omega arith

-- 2 a + c against 2 d, written without a product of sums
cross : (a c d : ℕ) → (2 * a + c) * (2 * d) ≡ 4 * (a * d) + 2 * (c * d)
cross a c d =
    let p : 2 * a * (2 * d) ≡ 4 * (a * d) = mul-mul-mul_comm 2 a 2 d in
    let q : c * (2 * d) ≡ 2 * (c * d) = mul_left_comm c 2 d in
    let r : (2 * a + c) * (2 * d) ≡ 2 * a * (2 * d) + c * (2 * d) = add-mul (2 * a) c (2 * d) in
    omega arith

-- equal fractions have one nearest whole number
pub nearest-same : (a c b d : ℕ) → 0 < c → 0 < d → a * d ≡ b * c → nearest_whole a c ≡ nearest_whole b d
unfolding nearest_whole
nearest-same a c b d C D e = div_same (2 * a + c) (2 * c) (2 * b + d) (2 * d) (twice-pos c C) (twice-pos d D) same
  where
    same : (2 * a + c) * (2 * d) ≡ (2 * b + d) * (2 * c)
    same =
        let p = cross a c d in
        let q = cross b d c in
        let r : c * d ≡ d * c = mul_comm c d in
        omega arith

-- below a half it is 0
pub nearest-small : (a c : ℕ) → 2 * a < c → nearest_whole a c ≡ 0
unfolding nearest_whole
nearest-small a c h = div-eq_of_lt (under a c h)
  where
    under : (a c : ℕ) → 2 * a < c → 2 * a + c < 2 * c
    under a c h = omega arith

-- k is within a half of a / c, and a half above counts: 2 k - 1 ≤ 2 a / c < 2 k + 1
pub within : (a c : ℕ) → 0 < c → (2 * (nearest_whole a c * c) ≤ 2 * a + c) × (2 * a < 2 * (nearest_whole a c * c) + c)
unfolding nearest_whole
within a c C =
    let k = (2 * a + c) / (2 * c) in
    let p : k * (2 * c) ≤ 2 * a + c = div-mul-le_self (2 * a + c) (2 * c) in
    let q : 2 * a + c < k * (2 * c) + 2 * c = lt-div-mul-add (twice-pos c C) in
    let r : k * (2 * c) ≡ 2 * (k * c) = mul_left_comm k 2 c in
    (omega arith, omega arith)

pub within-unique : (a c k : ℕ) → 0 < c → 2 * (k * c) ≤ 2 * a + c → 2 * a < 2 * (k * c) + c → nearest_whole a c ≡ k
unfolding nearest_whole
within-unique a c k C low high =
    let r : k * (2 * c) ≡ 2 * (k * c) = mul_left_comm k 2 c in
    let t : (k + 1) * (2 * c) ≡ k * (2 * c) + 1 * (2 * c) = add-mul k 1 (2 * c) in
    div-eq_of_lt-le (2 * c) (omega arith) (omega arith)

-- a whole number is its own
pub nearest-exact : (w c : ℕ) → 0 < c → nearest_whole (w * c) c ≡ w
nearest-exact w c C = within-unique (w * c) c w C (omega arith) (omega arith)

-- of a number over 2 p: half of one more than its whole part over p
pub nearest-halved : (q p : ℕ) → 0 < p → nearest_whole q (2 * p) ≡ (q / p + 1) / 2
unfolding nearest_whole
nearest-halved q p P =
    div_same (2 * q + 2 * p) (2 * (2 * p)) (q + p) (p * 2) (twice-pos (2 * p) (twice-pos p P)) (mul-pos P (zero-lt-suc 1)) same
    ∙ sym (div-div-eq-div-mul (q + p) p 2)
    ∙ ap (λ (n : ℕ). n / 2) (add-div_right q P)
  where
    same : (2 * q + 2 * p) * (p * 2) ≡ (q + p) * (2 * (2 * p))
    same =
        let a : (2 * q + 2 * p) * (p * 2) ≡ 2 * q * (p * 2) + 2 * p * (p * 2) = add-mul (2 * q) (2 * p) (p * 2) in
        let b : (q + p) * (2 * (2 * p)) ≡ q * (2 * (2 * p)) + p * (2 * (2 * p)) = add-mul q p (2 * (2 * p)) in
        let c : 2 * q * (p * 2) ≡ 4 * (q * p) = ap (λ (z : ℕ). 2 * q * z) (mul_comm p 2) ∙ mul-mul-mul_comm 2 q 2 p in
        let d : 2 * p * (p * 2) ≡ 4 * (p * p) = ap (λ (z : ℕ). 2 * p * z) (mul_comm p 2) ∙ mul-mul-mul_comm 2 p 2 p in
        let e : q * (2 * (2 * p)) ≡ 4 * (q * p) = ap (λ (z : ℕ). q * z) (sym (mul_assoc 2 2 p)) ∙ mul_left_comm q 4 p in
        let f : p * (2 * (2 * p)) ≡ 4 * (p * p) = ap (λ (z : ℕ). p * z) (sym (mul_assoc 2 2 p)) ∙ mul_left_comm p 4 p in
        omega arith
