-- What rounding leaves over: x - round_of x is exact, and lies between -1/2 and 1/2. Assumes nothing.
use mathlib.Core.Path.{◌≡◌, refl, sym, ap, ◌∙◌, subst}
use Prim.Native.Nat.{ℕ, zero, suc, ◌+◌, ◌*◌, ◌%◌, ◌^◌, ◌≤◌, ◌<◌}
use native.Mathlib.Nat.{le_trans, le_of_eq, le_of_lt, le_of_suc-le-suc, lt_of_not-le, not-le_of_lt, mul_comm, mul_right_comm, mul-one, mul-le-mul_right, le_of_mul-le-mul_right, suc-mul, zero-mul}
use native.Mathlib.Omega.{arith}
use mathlib.Core.Bool.{Bool, true, false, ◌&&◌, true≢false}
use lib.IntN.{ℤ, pos, negsuc}
use lib.Dec.{T, leb, ltb, eqb, leb→le, ltb→lt, lit<}
use lib.Pow.{pow-lt}
use lib.Ieee.{Float, nan, inf, fin, binary64, up, down, fits, round, neg, sub, le, of_bits}
use lib.Ieee.Fits.{down_pos, and_l, and_r}
use lib.Ieee.Exact.{HasValue}
use lib.Ieee.Scale.{finite}
use lib.Ieee.Positive.{num, den, den_pos}
use Rattle.laws.proofs.Value.{sign}
use Rattle.laws.proofs.Order.{Rounds, plus, less, Le→le, round-zero}
use Rattle.laws.proofs.Grid.{is-plus, is-sub, round-steps}
use Rattle.rounding.specs.Round.{nearest_whole, round_of}
use Rattle.rounding.proofs.Halves.{within}
use Rattle.rounding.proofs.RoundFacts.{whole-value}

-- ---- a multiple of a value's last digit that is no larger than the value is a value too
pow_le_back : (a l : ℕ) → 2 ^ a ≤ 2 ^ l → a ≤ l
pow_le_back a l h = le_of_suc-le-suc (lt_of_not-le (λ (g : suc l ≤ a). not-le_of_lt (pow-lt g) h))

fraction-digits : (s : Bool) (m : ℕ) (a : ℕ) → T (fits binary64 (fin s (suc m) (negsuc a))) → (suc m < 2 ^ 53) × (suc a ≤ 1074)
unfolding fits
fraction-digits s m a F =
    let A = eqb (suc m % 2) 1 in
    let B = ltb (suc m) (2 ^ 53) in
    let C = leb (2 ^ suc a) (2 ^ 1074) in
    let D = ltb (suc m * 1) (2 ^ 1024 * 2 ^ suc a) in (
      ltb→lt (suc m) (2 ^ 53) (and_r A B (and_l (A && B) C (and_l (A && B && C) D F))),
      pow_le_back (suc a) 1074 (leb→le (2 ^ suc a) (2 ^ 1074) (and_r (A && B) C (and_l (A && B && C) D F))),
    )

module _ (s : Bool) where
  none : (e : ℤ) → HasValue (round binary64 s 0 (down e)) s 0 (down e)
  none e = subst (λ (z : Float). HasValue z s 0 (down e)) (sym (round-zero binary64 s (down e) (down_pos e))) (refl, zero-mul (down e))

  over : (p : ℕ) → 2 * suc p ≤ 1 → ⊥
  over p h = omega arith

  no_room : (p u : ℕ) → suc p ≤ zero * u → ⊥
  no_room p u h = let z : zero * u ≡ 0 = zero-mul u in omega arith

  room : (m p : ℕ) → suc p ≤ suc m * 1 → suc m < 2 ^ 53 → suc p ≤ 2 ^ 53
  room m p h l = omega arith

  multiple-exact : (m : ℕ) (e : ℤ) (p : ℕ) → T (fits binary64 (fin false m e)) → p ≤ m * up e → 2 * p ≤ down e → HasValue (round binary64 s p (down e)) s p (down e)
  multiple-exact m e zero F h k = none e
  multiple-exact m (pos a) (suc p) F h k = absurd (over p k)
  multiple-exact zero (negsuc a) (suc p) F h k = absurd (no_room p 1 h)
  multiple-exact (suc m) (negsuc a) (suc p) F h k =
      let d = fraction-digits false m a F in
      subst (λ (n : ℕ). HasValue (round binary64 s n (2 ^ suc a)) s n (2 ^ suc a)) (mul-one (suc p)) (round-steps s (suc p) 0 (suc a) (room m p h d.0) d.1 (omega arith))

-- ---- what is left over, of an x with no minus sign: p / den x above the whole number k, or below it
pub data Left (x z : Float) (k : ℕ) : Type 0 where
  above : (p : ℕ) → p + k * den x ≡ num x → 2 * p < den x → HasValue z false p (den x) → Left x z k
  below : (p : ℕ) → p + num x ≡ k * den x → 2 * p ≤ den x → HasValue z true p (den x) → Left x z k

-- k within a half of n / c is no farther from it than 0 is
small-below : (k n c p : ℕ) → p + n ≡ k * c → 2 * p ≤ c → p ≤ n
small-below zero n c p e h = let z : zero * c ≡ 0 = zero-mul c in omega arith
small-below (suc k) n c p e h = let z : suc k * c ≡ k * c + c = suc-mul k c in omega arith

module _ (m : ℕ) (e : ℤ) (k : ℕ) (z : Float) (F : T (fits binary64 (fin false m e))) (low : 2 * (k * down e) ≤ 2 * (m * up e) + down e) (high : 2 * (m * up e) < 2 * (k * down e) + down e) where
  left_over : Rounds binary64 (m * up e * 1 + 0 * down e) (0 * 1 + k * down e) (down e * 1) z → Left (fin false m e) z k
  left_over (plus p q r) =
      let q' : p + k * down e ≡ m * up e = omega arith in
      above p q' (omega arith)
      (subst (λ (y : Float). HasValue y false p (down e)) (sym (r ∙ ap (λ (c : ℕ). round binary64 false p c) (mul-one (down e))))
      (multiple-exact false m e p F (omega arith) (omega arith)))
  left_over (less p q r) =
      let q' : p + m * up e ≡ k * down e = omega arith in
      let h : 2 * p ≤ down e = omega arith in
      below p q' h
      (subst (λ (y : Float). HasValue y true p (down e)) (sym (r ∙ ap (λ (c : ℕ). round binary64 true p c) (mul-one (down e))))
      (multiple-exact true m e p F (small-below k (m * up e) (down e) p q' h) h))

pub rest-exact : (x : Float) → T (fits binary64 x) → T (finite x) → sign x ≡ false → Left x (sub binary64 x (round_of x)) (nearest_whole (num x) (den x))
rest-exact nan F f s = absurd f
rest-exact (inf t) F f s = absurd f
rest-exact (fin true m e) F f s = absurd (true≢false s)
rest-exact (fin false m e) F f s =
    let x = fin false m e in
    let k = nearest_whole (m * up e) (down e) in
    let w = within (m * up e) (down e) (down_pos e) in
    left_over m e k (sub binary64 x (round_of x)) F w.0 w.1
    (is-sub binary64 x (round_of x) (down_pos e) (lit< tt) (is-plus x (m * up e) (down e) (refl, refl)) (is-plus (round_of x) k 1 (whole-value x F f)))

-- so the difference is between -1/2 and 1/2
halves : (z : Float) (s : Bool) (p c : ℕ) → 0 < c → 2 * p ≤ c → HasValue z s p c → T (le (neg (of_bits binary64 0x3FE0000000000000)) z) × T (le z (of_bits binary64 0x3FE0000000000000))
unfolding of_bits neg
halves nan s p c C h v = absurd v
halves (inf t) s p c C h v = absurd v
halves (fin t m e) s p c C h v =
    let l : m * up e * 2 ≤ down e =
    le_of_mul-le-mul_right (le_trans (le_of_eq (mul_right_comm (m * up e) 2 c ∙ ap (λ (i : ℕ). i * 2) v.1 ∙ mul_right_comm p (down e) 2))
    (le_trans (mul-le-mul_right (down e) (le_trans (le_of_eq (mul_comm p 2)) h)) (le_of_eq (mul_comm c (down e))))) C in
    bounds t l
  where
    bounds : (t : Bool) → m * up e * 2 ≤ down e → T (le (fin true 1 (negsuc 0)) (fin t m e)) × T (le (fin t m e) (fin false 1 (negsuc 0)))
    bounds false l = (Le→le (fin true 1 (negsuc 0)) (fin false m e) tt tt (omega arith), Le→le (fin false m e) (fin false 1 (negsuc 0)) tt tt (omega arith))
    bounds true l = (Le→le (fin true 1 (negsuc 0)) (fin true m e) tt tt (omega arith), Le→le (fin true m e) (fin false 1 (negsuc 0)) tt tt (omega arith))

pub rest-between : (x : Float) → T (fits binary64 x) → T (finite x) → sign x ≡ false
    → T (le (neg (of_bits binary64 0x3FE0000000000000)) (sub binary64 x (round_of x))) × T (le (sub binary64 x (round_of x)) (of_bits binary64 0x3FE0000000000000))
rest-between x F f s = go (rest-exact x F f s)
  where
    go : {z : Float} {k : ℕ} → Left x z k → T (le (neg (of_bits binary64 0x3FE0000000000000)) z) × T (le z (of_bits binary64 0x3FE0000000000000))
    go {z} (above p q h v) = halves z false p (den x) (den_pos x) (le_of_lt h) v
    go {z} (below p q h v) = halves z true p (den x) (den_pos x) h v
