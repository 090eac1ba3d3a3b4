-- Arguments above zero: a whole one up to 100.1 is an index of the table, and one below 7 is shifted by a whole number from 0 to 7. Assumes
-- nothing.
use mathlib.Core.Path.{◌≡◌, refl, sym, ap, ◌∙◌, subst}
use Prim.Native.Nat.{ℕ, zero, suc, ◌+◌, ◌-◌, ◌*◌, ◌^◌, ◌≤◌, ◌<◌}
use native.Mathlib.Nat.{zero-lt-suc, mul-one, mul_right_comm, mul-le-mul_right, eq_of_mul-eq-mul_right}
use native.Mathlib.Omega.{arith}
use mathlib.Core.Bool.{Bool, true, false, not, ◌||◌, beq, true≢false}
use lib.IntN.{pos}
use lib.Dec.{T, leb, eqb, eqb→eq, lt→ltb, le→leb, leb→le, nleb→lt, lit<}
use lib.Ieee.{Float, nan, inf, fin, binary64, up, down, fits, le, lt, eq, sub, neg, add, sum, round, of_bits, of_int, in_float, to_unsigned, in_unsigned}
use lib.Ieee.Fits.{down_pos, and_l, and_r, round-fits}
use lib.Ieee.Exact.{HasValue}
use lib.Ieee.Back.{whole_unique, unsigned_back, round_whole}
use lib.Ieee.Scale.{finite}
use lib.Ieee.Positive.{num, den, den_pos, positive, positive-finite, own_value}
use Rattle.laws.proofs.Order.{nought, Le→le, lt→le}
use Rattle.laws.proofs.Value.{sign, le-values, lt-values}
use Rattle.machine.specs.Constants.{gamma_ln_minimum}
use Rattle.machine.specs.Small.{nothing}
use Rattle.rounding.specs.Round.{round_of, nearest_whole}
use Rattle.rounding.proofs.RoundFacts.{round-value, whole-value, nearest}
use Rattle.gamma_ln.specs.GammaLn.{is_tabulated, shift_of}

-- ---- not at most 0, and no not-a-number
pub above_zero : (x h : Float) → le x nought ≡ false → T (finite h) → T (le x h) → T (positive x)
unfolding le lt eq
above_zero nan h n F l = absurd l
above_zero (inf true) h n F l = absurd (true≢false n)
above_zero (inf false) nan n F l = absurd F
above_zero (inf false) (inf s) n F l = absurd F
above_zero (inf false) (fin s m e) n F l = absurd l
above_zero (fin true m e) h n F l = absurd (subst T n (Le→le (fin true m e) nought tt tt (omega arith)))
above_zero (fin false zero e) h n F l = absurd (subst T n (Le→le (fin false zero e) nought tt tt (omega arith)))
above_zero (fin false (suc m) e) h n F l = lt→ltb 0 (suc m) (zero-lt-suc m)

-- ---- a value equal to a whole number has its fraction
pub equal-value : (y x : Float) (k : ℕ) → HasValue y false k 1 → sign x ≡ false → T (eq y x) → HasValue x false k 1
unfolding eq
equal-value nan x k v s h = absurd v
equal-value (inf t) x k v s h = absurd v
equal-value (fin t m e) nan k v s h = absurd h
equal-value (fin t m e) (inf u) k v s h = absurd h
equal-value (fin t m e) (fin u n d) k v s h =
    let p : m * up e * down d ≡ n * up d * down e = eqb→eq (m * up e * down d) (n * up d * down e) (and_l (eqb (m * up e * down d) (n * up d * down e)) (beq t u || eqb (m * up e * down d) 0) h) in
    let q : m * up e ≡ k * down e = sym (mul-one (m * up e)) ∙ v.1 in
    (s, mul-one (n * up d) ∙ eq_of_mul-eq-mul_right (down e) (down_pos e) (n * up d) (k * down d) (sym p ∙ ap (λ (z : ℕ). z * down d) q ∙ mul_right_comm k (down e) (down d)))

pub positive-sign : (x : Float) → T (positive x) → sign x ≡ false
positive-sign nan p = absurd p
positive-sign (inf s) p = absurd p
positive-sign (fin true m e) p = absurd p
positive-sign (fin false m e) p = refl

-- ---- a whole number of the format, as an integer
whole-cast : (x : Float) (k : ℕ) → T (fits binary64 x) → HasValue x false k 1 → k < 2 ^ 32 → T (in_unsigned binary64 32 x) × (to_unsigned 32 x ≡ k)
unfolding of_int in_float
whole-cast x k F v h = subst (λ (z : Float). T (in_unsigned binary64 32 z) × (to_unsigned 32 z ≡ k)) same (unsigned_back binary64 32 k (le→leb k (2 ^ 53) (small k h)) h)
  where
    small : (k : ℕ) → k < 2 ^ 32 → k ≤ 2 ^ 53
    small k h = omega arith

    same : round binary64 false k 1 ≡ x
    same = whole_unique binary64 (round binary64 false k 1) x false k (round-fits binary64 false k 1) F (round_whole binary64 false k (small k h)) v

-- ---- the table's arguments
whole-argument : (x : Float) → T (fits binary64 x) → T (positive x) → T (is_tabulated x) → HasValue x false (nearest_whole (num x) (den x)) 1
unfolding is_tabulated
whole-argument x F P t =
    equal-value (round_of x) x (nearest_whole (num x) (den x))
    (subst (λ (s : Bool). HasValue (round_of x) s (nearest_whole (num x) (den x)) 1) (positive-sign x P) (whole-value x F (positive-finite x P)))
    (positive-sign x P)
    (and_r (le x (of_bits binary64 0x4059066666666666)) (eq (round_of x) x) t)

index-value : (x : Float) → T (fits binary64 x) → T (positive x) → T (is_tabulated x) → (k : ℕ) × HasValue x false k 1 × (k ≤ 100)
unfolding is_tabulated of_bits
index-value x F P t =
    let k = nearest_whole (num x) (den x) in
    let v = whole-argument x F P t in
    let l : k * 2 ^ 46 ≤ 0x19066666666666 * 1 =
    le-values x (of_bits binary64 0x4059066666666666) k 1 0x19066666666666 (2 ^ 46) v (refl, refl) (and_l (le x (of_bits binary64 0x4059066666666666)) (eq (round_of x) x) t) in
    (k, v, omega arith)

pub index-cast : (x : Float) → T (fits binary64 x) → T (positive x) → T (is_tabulated x) → T (in_unsigned binary64 32 x) × (to_unsigned 32 x < 101)
index-cast x F P t = go (index-value x F P t)
  where
    below : (n k : ℕ) → n ≡ k → k ≤ 100 → n < 101
    below n k e h = omega arith

    small : (k : ℕ) → k ≤ 100 → k < 2 ^ 32
    small k h = omega arith

    go : (k : ℕ) × HasValue x false k 1 × (k ≤ 100) → T (in_unsigned binary64 32 x) × (to_unsigned 32 x < 101)
    go (k, v, h) = let w = whole-cast x k F v (small k h) in (w.0, below (to_unsigned 32 x) k w.1 h)

-- ---- the shift
pub nearest-to-seven : (x : Float) → T (positive x) → T (lt x gamma_ln_minimum) → nearest_whole (num x) (den x) ≤ 7
unfolding gamma_ln_minimum of_bits
nearest-to-seven x P h =
    let k = nearest_whole (num x) (den x) in
    let l : num x * 1 < 7 * den x = lt-values x gamma_ln_minimum (num x) (den x) 7 1 (den_pos x) (lit< tt) (own_value x P) (refl, refl) h in
    go k (nearest x).low l (leb k 7) (leb→le k 7) (nleb→lt k 7)
  where
    go : (k : ℕ) → 2 * (k * den x) ≤ 2 * num x + den x → num x * 1 < 7 * den x → (b : Bool) → (T b → k ≤ 7) → (T (not b) → 7 < k) → k ≤ 7
    go k n l true p q = p tt
    go k n l false p q = let r : 8 * den x ≤ k * den x = mul-le-mul_right (den x) (q tt) in absurd (none (den x) (k * den x) (num x) r n l)
      where
        none : (d kd n : ℕ) → 8 * d ≤ kd → 2 * kd ≤ 2 * n + d → n * 1 < 7 * d → ⊥
        none d kd n r s l = omega arith

-- eight differences, each by computation
seven-less : (k : ℕ) → k ≤ 7 → sub binary64 gamma_ln_minimum (round binary64 false k 1) ≡ of_int binary64 (pos (7 - k))
unfolding sub add sum neg round of_int gamma_ln_minimum of_bits
seven-less zero h = refl
seven-less (suc zero) h = refl
seven-less (suc (suc zero)) h = refl
seven-less (suc (suc (suc zero))) h = refl
seven-less (suc (suc (suc (suc zero)))) h = refl
seven-less (suc (suc (suc (suc (suc zero))))) h = refl
seven-less (suc (suc (suc (suc (suc (suc zero)))))) h = refl
seven-less (suc (suc (suc (suc (suc (suc (suc zero))))))) h = refl
seven-less (suc (suc (suc (suc (suc (suc (suc (suc k)))))))) h = absurd (none k h)
  where
    none : (k : ℕ) → suc (suc (suc (suc (suc (suc (suc (suc k))))))) ≤ 7 → ⊥
    none k h = omega arith

pub shift-value : (x : Float) → T (positive x) → T (lt x gamma_ln_minimum) → shift_of x ≡ of_int binary64 (pos (7 - nearest_whole (num x) (den x)))
unfolding shift_of
shift-value x P h =
    ap (λ (y : Float). sub binary64 gamma_ln_minimum y) (round-value x false (num x) (den x) (den_pos x) (own_value x P))
    ∙ seven-less (nearest_whole (num x) (den x)) (nearest-to-seven x P h)

pub shift-cast : (x : Float) → T (positive x) → T (lt x gamma_ln_minimum) → T (in_unsigned binary64 32 (shift_of x))
unfolding in_float
shift-cast x P h =
    subst (λ (y : Float). T (in_unsigned binary64 32 y)) (sym (shift-value x P h))
    (unsigned_back binary64 32 (7 - nearest_whole (num x) (den x)) (le→leb (7 - nearest_whole (num x) (den x)) (2 ^ 53) (few (nearest_whole (num x) (den x)))) (fewer (nearest_whole (num x) (den x)))).0
  where
    few : (k : ℕ) → 7 - k ≤ 2 ^ 53
    few k = omega arith

    fewer : (k : ℕ) → 7 - k < 2 ^ 32
    fewer k = omega arith

-- ---- what the code's tests say of the argument
pub tabulated-positive : (x : Float) → le x nothing ≡ false → T (is_tabulated x) → T (positive x)
unfolding is_tabulated of_bits
tabulated-positive x n t = above_zero x (of_bits binary64 0x4059066666666666) n tt (and_l (le x (of_bits binary64 0x4059066666666666)) (eq (round_of x) x) t)

pub below-positive : (x : Float) → le x nothing ≡ false → T (lt x gamma_ln_minimum) → T (positive x)
unfolding gamma_ln_minimum of_bits
below-positive x n t = above_zero x gamma_ln_minimum n tt (lt→le x gamma_ln_minimum t)
