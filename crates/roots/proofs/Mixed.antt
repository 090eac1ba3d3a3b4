-- One rounding wherever it falls: within one part in 2^53 of the fraction and two halves of the smallest value, 2 / E with E = 2^1075. Sums of such values, and what is left where the value is normal. Assumes nothing.
use mathlib.Core.Path.{◌≡◌, sym, ap, ◌∙◌}
use mathlib.Core.Logic.{inl, inr}
use mathlib.Core.Bool.{false}
use Prim.Native.Nat.{ℕ, ◌+◌, ◌-◌, ◌*◌, ◌^◌, ◌≤◌, ◌<◌}
use native.Mathlib.Nat.{le_trans, le_of_eq, le_of_lt, mul_assoc, mul_comm, mul_left_comm, mul_right_comm, add-mul, mul-le-mul_right, le_of_mul-le-mul_right}
use native.Mathlib.Omega.{arith}
use lib.Dec.{T, lit≤}
use lib.Ieee.{Float, binary64, round}
use lib.Ieee.Positive.{num, den}
use lib.Ieee.Scale.{finite}
use Rattle.laws.proofs.Relative.{Rat, Near, round-half, round-close}
use Rattle.roots.proofs.WholeRoot.{which}

pub record Mixed (E n m a c : ℕ) : Type 0 where
  pub above : 2 ^ 53 * (n * c * E) ≤ (2 ^ 53 + 1) * (a * m * E) + 2 ^ 54 * (m * c)
  pub below : (2 ^ 53 - 1) * (a * m * E) ≤ 2 ^ 53 * (n * c * E) + 2 ^ 54 * (m * c)

of-near : (E n m a c : ℕ) → Near 1 E n m a c → Mixed E n m a c
of-near E n m a c h = let x = h.above in let y = h.below in record { above = omega arith; below = omega arith }

of-close : (E n m a c : ℕ) → Rat (2 ^ 53 - 1) (2 ^ 53 + 1) (2 ^ 53) n m a c → Mixed E n m a c
of-close E n m a c r = let x = mul-le-mul_right E r.lower in let y = mul-le-mul_right E r.upper in record { above = omega arith; below = omega arith }

pub round-mixed : (a c : ℕ) (z : Float) → 0 < c → z ≡ round binary64 false a c → T (finite z) → Mixed (2 ^ 1075) (num z) (den z) a c
round-mixed a c z C e F =
    elim (which (2 * c) (a * 2 ^ 1022)) [
      | inl h ↦ of-close (2 ^ 1075) (num z) (den z) a c (round-close binary64 a c z C (le_trans (more c) (le_of_lt h)) e F)
      | inr h ↦ of-near (2 ^ 1075) (num z) (den z) a c (round-half binary64 a c 0 1022 z C (lit≤ tt) h e F)
    ]
  where
    more : (k : ℕ) → k ≤ 2 * k
    more k = omega arith

-- ---- a sum that is not small: 2 ^ 55 / E at least
sum-core : (A B C D M : ℕ) → 2 ^ 53 * A ≤ (2 ^ 53 + 1) * C + 2 ^ 54 * M → 2 ^ 53 * B ≤ (2 ^ 53 + 1) * D + 2 ^ 54 * M → (2 ^ 53 - 1) * C ≤ 2 ^ 53 * A + 2 ^ 54 * M → (2 ^ 53 - 1) * D ≤ 2 ^ 53 * B + 2 ^ 54 * M → 2 ^ 55 * M ≤ C + D
    → ((2 ^ 52 - 1) * (C + D) ≤ 2 ^ 52 * (A + B)) × (2 ^ 52 * (A + B) ≤ (2 ^ 52 + 1) * (C + D))
sum-core A B C D M a b c d h = (omega arith, omega arith)

pub mixed-sum : {E n m a c n' m' b d : ℕ} → 0 < E → Mixed E n m a c → Mixed E n' m' b d → 2 ^ 55 * (c * d) ≤ (a * d + b * c) * E → Rat (2 ^ 52 - 1) (2 ^ 52 + 1) (2 ^ 52) (n * m' + n' * m) (m * m') (a * d + b * c) (c * d)
mixed-sum {E} {n} {m} {a} {c} {n'} {m'} {b} {d} P r s h =
    let A = n * c * E * (m' * d) in
    let B = n' * d * E * (m * c) in
    let C = a * m * E * (m' * d) in
    let D = b * m' * E * (m * c) in
    let M = m * c * (m' * d) in
    let x : 2 ^ 53 * A ≤ (2 ^ 53 + 1) * C + 2 ^ 54 * M = let k = mul-le-mul_right (m' * d) r.above in omega (arith, k, add-mul ((2 ^ 53 + 1) * (a * m * E)) (2 ^ 54 * (m * c)) (m' * d)) in
    let x' : (2 ^ 53 - 1) * C ≤ 2 ^ 53 * A + 2 ^ 54 * M = let k = mul-le-mul_right (m' * d) r.below in omega (arith, k, add-mul (2 ^ 53 * (n * c * E)) (2 ^ 54 * (m * c)) (m' * d)) in
    let y : 2 ^ 53 * B ≤ (2 ^ 53 + 1) * D + 2 ^ 54 * M = let k = mul-le-mul_right (m * c) s.above in omega (arith, k, add-mul ((2 ^ 53 + 1) * (b * m' * E)) (2 ^ 54 * (m' * d)) (m * c)) in
    let y' : (2 ^ 53 - 1) * D ≤ 2 ^ 53 * B + 2 ^ 54 * M = let k = mul-le-mul_right (m * c) s.below in omega (arith, k, add-mul (2 ^ 53 * (n' * d * E)) (2 ^ 54 * (m' * d)) (m * c)) in
    let top : (a * d + b * c) * (m * m') * E ≡ C + D = simp (add-mul, mul_assoc, mul_comm, mul_left_comm) in
    let left : (n * m' + n' * m) * (c * d) * E ≡ A + B = simp (add-mul, mul_assoc, mul_comm, mul_left_comm) in
    let z : 2 ^ 55 * M ≤ C + D = le_trans (le_of_eq (simp (mul_assoc, mul_comm, mul_left_comm))) (le_trans (mul-le-mul_right (m * m') h) (le_of_eq (mul_right_comm (a * d + b * c) E (m * m') ∙ top))) in
    let k = sum-core A B C D M x y x' y' z in
    let lo : (2 ^ 52 - 1) * ((a * d + b * c) * (m * m')) * E ≤ 2 ^ 52 * ((n * m' + n' * m) * (c * d)) * E =
    le_trans (le_of_eq (mul_assoc (2 ^ 52 - 1) ((a * d + b * c) * (m * m')) E ∙ ap (λ (t : ℕ). (2 ^ 52 - 1) * t) top)) (le_trans k.0 (le_of_eq (sym (mul_assoc (2 ^ 52) ((n * m' + n' * m) * (c * d)) E ∙ ap (λ (t : ℕ). 2 ^ 52 * t) left)))) in
    let hi : 2 ^ 52 * ((n * m' + n' * m) * (c * d)) * E ≤ (2 ^ 52 + 1) * ((a * d + b * c) * (m * m')) * E =
    le_trans (le_of_eq (mul_assoc (2 ^ 52) ((n * m' + n' * m) * (c * d)) E ∙ ap (λ (t : ℕ). 2 ^ 52 * t) left)) (le_trans k.1 (le_of_eq (sym (mul_assoc (2 ^ 52 + 1) ((a * d + b * c) * (m * m')) E ∙ ap (λ (t : ℕ). (2 ^ 52 + 1) * t) top)))) in
    record { lower = le_of_mul-le-mul_right lo P; upper = le_of_mul-le-mul_right hi P }

-- ---- a normal value: 2 ^ 53 / E at least
normal-core : (A C M : ℕ) → 2 ^ 53 * A ≤ (2 ^ 53 + 1) * C + 2 ^ 54 * M → (2 ^ 53 - 1) * C ≤ 2 ^ 53 * A + 2 ^ 54 * M → 2 ^ 53 * M ≤ A → ((2 ^ 53 - 1) * C ≤ (2 ^ 53 + 2) * A) × ((2 ^ 53 - 2) * A ≤ (2 ^ 53 + 1) * C)
normal-core A C M a b h = (omega arith, omega arith)

weaker : (A C : ℕ) → (2 ^ 53 - 1) * C ≤ (2 ^ 53 + 2) * A → (2 ^ 53 - 2) * A ≤ (2 ^ 53 + 1) * C → ((2 ^ 50 - 1) * C ≤ 2 ^ 50 * A) × (2 ^ 50 * A ≤ (2 ^ 50 + 1) * C)
weaker A C a b = (omega arith, omega arith)

pub mixed-normal : {E n m a c : ℕ} → 0 < E → Mixed E n m a c → 2 ^ 53 * m ≤ n * E → Rat (2 ^ 50 - 1) (2 ^ 50 + 1) (2 ^ 50) n m a c
mixed-normal {E} {n} {m} {a} {c} P r h =
    let z : 2 ^ 53 * (m * c) ≤ n * c * E = let k = mul-le-mul_right c h in omega arith in
    let k = normal-core (n * c * E) (a * m * E) (m * c) r.above r.below z in
    let w = weaker (n * c * E) (a * m * E) k.0 k.1 in
    let lo : (2 ^ 50 - 1) * (a * m) * E ≤ 2 ^ 50 * (n * c) * E = let k' = w.0 in omega (arith, k') in
    let hi : 2 ^ 50 * (n * c) * E ≤ (2 ^ 50 + 1) * (a * m) * E = let k' = w.1 in omega (arith, k') in
    record { lower = le_of_mul-le-mul_right lo P; upper = le_of_mul-le-mul_right hi P }
