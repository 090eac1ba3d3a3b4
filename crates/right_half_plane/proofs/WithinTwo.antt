-- The modulus against 2, by the parts alone: at most 2 where both magnitudes are at most 1.40625, and not where one is above 2.25, whatever the other is. Assumes nothing.
use mathlib.Core.Path.{◌≡◌, refl, sym, ap, ◌∙◌, subst}
use mathlib.Core.Logic.{inl, inr}
use mathlib.Core.Bool.{Bool, true, false}
use Prim.Native.Nat.{ℕ, zero, suc, ◌+◌, ◌-◌, ◌*◌, ◌^◌, ◌≤◌, ◌<◌}
use native.Mathlib.Nat.{le_trans, le_of_eq, le_of_lt, mul-one, mul_assoc, mul_comm, mul_left_comm, mul-pos, mul-le-mul, mul-le-mul_left, mul-le-mul_right, le_of_mul-le-mul_right}
use native.Mathlib.Omega.{arith}
use lib.Dec.{T, lit<, lit≤}
use lib.Pow.{pow_pos}
use lib.Ieee.{Float, nan, inf, fin, binary64, up, down, round, size, add, mul, lt, le, eq, of_bits, to_bits, fits}
use lib.Ieee.Fits.{down_pos, add-fits}
use lib.Ieee.Positive.{num, den, positive, den_pos}
use lib.Ieee.Scale.{finite}
use Rattle.laws.proofs.Value.{sign, bare, own-fraction}
use Rattle.laws.proofs.Order.{lt→le}
use Rattle.laws.proofs.Relative.{round-nonnegative, positive-nonnegative}
use Rattle.laws.proofs.Bound.{AtLeast, Up, Lo, up-finite, up-test, lo-test, up-of-le, lo_at, lo-of-le, lo-weaken, lo-bound, lo-positive, lo-of-rat, up-lo-le, round-lo, mul-lo, add-lo}
use Rattle.roots.specs.Hypot.{root_at, sum_of_squares, least_sum, greatest_sum, larger, smaller, scaled_hypot, full_hypot, hypot_of}
use Rattle.roots.specs.Close.{squares_over, squares_under}
use Rattle.roots.proofs.WholeRoot.{which}
use Rattle.roots.proofs.HypotCases.{sum-parts, within-range, full-within, full-above}
use Rattle.roots.proofs.HypotSum.{square-round}
use Rattle.roots.proofs.HypotRange.{below-ceiling}
use Rattle.roots.proofs.HypotRoot.{from-squares, root-close}
use Rattle.roots.proofs.HypotScaled.{square_by, summed-is, large_sum, scaled-down}
use Rattle.roots.proofs.HypotFacts.{hypot-close}
use Rattle.roots.proofs.HypotValues.{hypot-symmetric}
use Rattle.complex.specs.declared.number.Complex.{Complex}
use Rattle.complex.specs.Functions.{modulus_of}
use Rattle.machine.specs.Magnitude.{magnitude_of}
use Rattle.machine.proofs.MagnitudeFacts.{bare-is}
use Rattle.machine.specs.Small.{two}
use Rattle.right_half_plane.proofs.ModulusBound.{modulus-up}

-- 1.40625 and 2.25
abbrev pub inner : Float
inner = of_bits binary64 0x3FF6800000000000

abbrev pub outer : Float
outer = of_bits binary64 0x4002000000000000

inner_up : Up inner 45 32
unfolding of_bits
inner_up = up-test inner 45 32 tt

two-lo : Lo two 2 1
unfolding of_bits
two-lo = lo-test two 2 1 tt

outer-lo : Lo outer 9 4
unfolding of_bits
outer-lo = lo-test outer 9 4 tt

-- ---- what the tests of a part's magnitude say of the part
abbrev Inner : Float → Type 0
Inner x = T (finite x) × (num x * 32 ≤ 45 * den x)

inner-part : (x : Float) → T (le (magnitude_of x) inner) → Inner x
unfolding magnitude_of lt le eq of_bits
inner-part nan h = absurd h
inner-part (inf s) h = absurd h
inner-part (fin s m d) h = (tt, (up-of-le (fin false m d) inner tt h inner_up).bound)

-- infinite, or finite with a magnitude of 2.25 at least
abbrev Outer : Float → Type 0
Outer x = AtLeast (bare x) 9 4

outer-part : (x : Float) → T (lt outer (magnitude_of x)) → Outer x
outer-part x h = let m = magnitude_of x in subst (λ (z : Float). AtLeast z 9 4) (sym (bare-is x)) (lo-of-le m outer (lit< tt) (lt→le outer m h) outer-lo).bound

-- ---- both parts at most 1.40625
squared : (n d : ℕ) → n * 32 ≤ 45 * d → n * n * 1024 ≤ 2025 * (d * d)
squared n d h = omega (arith, mul-le-mul h h)

squares : (n d m e : ℕ) → n * 32 ≤ 45 * d → m * 32 ≤ 45 * e → (n * n * (e * e) + m * m * (d * d)) * 1024 ≤ 4050 * (d * d * (e * e))
squares n d m e h k = omega (arith, mul-le-mul_right (e * e) (squared n d h), mul-le-mul_right (d * d) (squared m e k))

cancelled : (n d O U : ℕ) → 0 < U → 2 ^ 40 * (n * n * U) ≤ (2 ^ 40 + 1) * (O * (d * d)) → O * 1024 ≤ 4050 * U → n * n ≤ 2 * d * (2 * d)
cancelled n d O U P u h =
    let k : n * n * U ≤ 2 * d * (2 * d) * U = omega (arith, u, mul-le-mul_right (d * d) h) in
    le_of_mul-le-mul_right k P

inner-two : (x y : Float) → T (fits binary64 x) → T (fits binary64 y) → Inner x → Inner y → T (le (hypot_of x y) two)
inner-two x y Fx Fy (fx, bx) (fy, by) = up-lo-le h two bound two-lo (lit≤ tt)
  where
    h : Float
    h = hypot_of x y

    wide : (n d : ℕ) → n * 32 ≤ 45 * d → n ≤ 2 ^ 15 * d
    wide n d k = omega arith

    u : Up h (2 ^ 16) 1
    u = modulus-up x y Fx Fy fx fy (wide (num x) (den x) bx) (wide (num y) (den y) by)

    small : num h * 2 ^ 1022 < den h → Up h 2 1
    small g =
        let k : num h * 1 ≤ den h = le_trans (mul-le-mul_left (num h) (lit≤ {m = 1} {n = 2 ^ 1022} tt)) (le_of_lt g) in
        record { sign = u.sign; over = lit< tt; bound = omega (arith, k) }

    normal : den h ≤ num h * 2 ^ 1022 → Up h 2 1
    normal g =
        let s = hypot-close x y Fx Fy fx fy (record { is_finite = up-finite u; is_normal = g }) in
        let k = cancelled (num h) (den h) (squares_over x y) (squares_under x y) (mul-pos (mul-pos (den_pos x) (den_pos x)) (mul-pos (den_pos y) (den_pos y))) s.upper (squares (num x) (den x) (num y) (den y) bx by) in
        record { sign = u.sign; over = lit< tt; bound = le_trans (le_of_eq (mul-one (num h))) (from-squares (num h) (2 * den h) k) }

    bound : Up h 2 1
    bound = elim (which (num h * 2 ^ 1022) (den h)) [ inl g ↦ small g | inr g ↦ normal g ]

-- ---- a root from below: that of P / Q at least is A / B at least, where P / Q is a little above A squared over B squared
root-core : (Z W n d s t P Q A B : ℕ) → 0 < t → 0 < Z → 0 < Q → W * (s * (d * d)) ≤ Z * (n * n * t) → P * t ≤ s * Q → Z * (A * A * Q) ≤ W * (P * (B * B)) → A * d * (A * d) ≤ n * B * (n * B)
root-core Z W n d s t P Q A B pt p_z p_q c l k =
    let e1 : A * d * (A * d) * (t * (Z * Q)) ≡ Z * (A * A * Q) * (d * d * t) = simp (mul_assoc, mul_comm, mul_left_comm) in
    let e2 : W * (P * (B * B)) * (d * d * t) ≡ P * t * (W * (B * B) * (d * d)) = simp (mul_assoc, mul_comm, mul_left_comm) in
    let e3 : s * Q * (W * (B * B) * (d * d)) ≡ W * (s * (d * d)) * (Q * (B * B)) = simp (mul_assoc, mul_comm, mul_left_comm) in
    let e4 : Z * (n * n * t) * (Q * (B * B)) ≡ n * B * (n * B) * (t * (Z * Q)) = simp (mul_assoc, mul_comm, mul_left_comm) in
    le_of_mul-le-mul_right
    (le_trans (le_of_eq e1)
    (le_trans (mul-le-mul_right (d * d * t) k)
    (le_trans (le_of_eq e2)
    (le_trans (mul-le-mul_right (W * (B * B) * (d * d)) l)
    (le_trans (le_of_eq e3) (le_trans (mul-le-mul_right (Q * (B * B)) c) (le_of_eq e4)))))))
    (mul-pos pt (mul-pos p_z p_q))

root-lo : (S : Float) (P Q A B : ℕ) → T (fits binary64 S) → T (positive S) → den S ≤ num S * 2 ^ 1022 → T (finite S) → Lo S P Q → 0 < B → 2 ^ 49 * (A * A * Q) ≤ (2 ^ 49 - 1) * (P * (B * B)) → Lo (root_at (to_bits binary64 S)) A B
root-lo S P Q A B F p n f l b k =
    let r = root_at (to_bits binary64 S) in
    let c = root-close S F p n in
    lo_at r A B (positive-nonnegative r c.0) b (from-squares (A * den r) (num r * B) (root-core (2 ^ 49) (2 ^ 49 - 1) (num r) (den r) (num S) (den S) P Q A B (den_pos S) (pow_pos 49) l.over c.1.lower (lo-bound l f) k))

-- ---- a part of 2.25 at least
square-bound : Lo (round binary64 false 81 16) 81 16
unfolding round size
square-bound = lo-test (round binary64 false 81 16) 81 16 tt

larger-lo : Lo larger (2 ^ 600) 1
unfolding larger of_bits
larger-lo = lo-test larger (2 ^ 600) 1 tt

module _ (x y : Float) (Fx : T (fits binary64 x)) (Fy : T (fits binary64 y)) (fx : T (finite x)) (fy : T (finite y)) (big : 9 * den x ≤ num x * 4) where
  C : 0 < den x * den x
  C = mul-pos (den_pos x) (den_pos x)

  D : 0 < den y * den y
  D = mul-pos (den_pos y) (den_pos y)

  large : (n d : ℕ) → 9 * d ≤ n * 4 → 81 * (d * d) ≤ n * n * 16
  large n d h = omega (arith, mul-le-mul h h)

  square-lo : Lo (mul binary64 x x) 81 16
  square-lo =
      subst (λ (z : Float). Lo z 81 16) (sym (square-round x (sign x) (num x) (den x) (den_pos x) (own-fraction x fx)))
      (round-lo binary64 (num x * num x) (den x * den x) 81 16 C (lit< tt) (lit< tt) (large (num x) (den x) big) square-bound)

  within : T (le least_sum (sum_of_squares x y)) → T (le (sum_of_squares x y) greatest_sum) → Lo (root_at (to_bits binary64 (sum_of_squares x y))) 17 8
  unfolding sum_of_squares
  within l u =
      let S = sum_of_squares x y in
      let f = (within-range x y l u).0 in
      let B = mul binary64 y y in
      let g = (sum-parts binary64 (mul binary64 x x) B f).1 in
      let b = round-nonnegative binary64 (num y * num y) (den y * den y) B (square-round y (sign y) (num y) (den y) (den_pos y) (own-fraction y fy)) g in
      let s : Lo S 5 1 = add-lo binary64 5 1 (lit< tt) (lit≤ tt) (lit≤ tt) square-lo (lo_at B 0 1 b (lit< tt) (omega arith)) in
      let k = lo-bound s f in
      let n : den S ≤ num S * 1 = omega (arith, k) in
      root-lo S 5 1 17 8 (add-fits binary64 (mul binary64 x x) (mul binary64 y y)) (lo-positive (lit< tt) s f) (le_trans n (mul-le-mul_left (num S) (lit≤ tt))) f s (lit< tt) (lit≤ tt)

  -- the squares would overflow
  above : le (sum_of_squares x y) greatest_sum ≡ false → Lo (scaled_hypot smaller larger x y) 17 8
  unfolding scaled_hypot sum_of_squares
  above h =
      let K = 2 ^ 600 in
      let s = scaled-down x y Fx Fy fx fy h in
      let A = square_by smaller x in
      let B = square_by smaller y in
      let c = den x * K * (den x * K) in
      let d = den y * K * (den y * K) in
      let P = num x * num x * d + num y * num y * c in
      let w : c * d ≤ P * 2 ^ 202 = spread (num x) (den x) (num y) (den y) (large_sum x y Fx Fy fx fy h) in
      let S = add binary64 A B in
      let l : Lo S 1 (2 ^ 203) = lo-weaken 1 (2 ^ 203) (pow_pos 203) (halved (c * d) P w) (lo-of-rat S (positive-nonnegative S s.sum.is_positive) (pow_pos 51) s.over s.sum.close) in
      let r = root-lo S 1 (2 ^ 203) 1 (2 ^ 102) (add-fits binary64 A B) s.sum.is_positive s.sum.normal s.is_finite l (pow_pos 102) (lit≤ tt) in
      mul-lo binary64 17 8 (lit< tt) (lit≤ tt) (lit≤ tt) r larger-lo
    where
      halved : (Q P : ℕ) → Q ≤ P * 2 ^ 202 → 1 * (2 ^ 51 * Q) ≤ (2 ^ 51 - 1) * P * 2 ^ 203
      halved Q P w =
          le_trans (le_of_eq (sym (mul_assoc 1 (2 ^ 51) Q)))
          (le_trans (mul-le-mul_left (2 ^ 51) w)
          (le_trans (le_of_eq e) (le_trans (mul-le-mul_left P (lit≤ {m = 2 ^ 51 * 2 ^ 202} {n = (2 ^ 51 - 1) * 2 ^ 203} tt)) (le_of_eq (sym g)))))
        where
          e : 2 ^ 51 * (P * 2 ^ 202) ≡ P * (2 ^ 51 * 2 ^ 202)
          e = mul_left_comm (2 ^ 51) P (2 ^ 202)

          g : (2 ^ 51 - 1) * P * 2 ^ 203 ≡ P * ((2 ^ 51 - 1) * 2 ^ 203)
          g = mul_assoc (2 ^ 51 - 1) P (2 ^ 203) ∙ mul_left_comm (2 ^ 51 - 1) P (2 ^ 203)

      spread-by : (n d m e K X Y : ℕ) → d * d * (e * e) * X ≤ n * n * (e * e) + m * m * (d * d) → K * K ≤ X * Y → d * K * (d * K) * (e * K * (e * K)) ≤ (n * n * (e * K * (e * K)) + m * m * (d * K * (d * K))) * Y
      spread-by n d m e K X Y h k =
          omega (arith, mul-le-mul_right (K * K * Y) h, mul-le-mul_left (d * d * (e * e) * (K * K)) k)

      spread : (n d m e : ℕ) → d * d * (e * e) * 2 ^ 998 ≤ n * n * (e * e) + m * m * (d * d) → d * 2 ^ 600 * (d * 2 ^ 600) * (e * 2 ^ 600 * (e * 2 ^ 600)) ≤ (n * n * (e * 2 ^ 600 * (e * 2 ^ 600)) + m * m * (d * 2 ^ 600 * (d * 2 ^ 600))) * 2 ^ 202
      spread n d m e h = spread-by n d m e (2 ^ 600) (2 ^ 998) (2 ^ 202) h (lit≤ tt)

  full : Lo (full_hypot x y) 17 8
  full = go (le least_sum (sum_of_squares x y)) refl (le (sum_of_squares x y) greatest_sum) refl
    where
      below : le least_sum (sum_of_squares x y) ≡ false → ⊥
      below l =
          let c = below-ceiling (num x * num x) (den x * den x) (num y * num y) (den y * den y) C D (ap (λ (z : Float). le least_sum z) (sym (summed-is x y fx fy)) ∙ l) in
          let k : num x * num x * 1 ≤ den x * den x = le_trans (mul-le-mul_left (num x * num x) (lit≤ {m = 1} {n = 2 ^ 798} tt)) c.0 in
          omega (arith, k, large (num x) (den x) big, C)

      go : (a : Bool) → le least_sum (sum_of_squares x y) ≡ a → (b : Bool) → le (sum_of_squares x y) greatest_sum ≡ b → Lo (full_hypot x y) 17 8
      go true l true u = subst (λ (z : Float). Lo z 17 8) (sym (full-within x y l u)) (within (subst T (sym l) tt) (subst T (sym u) tt))
      go true l false u = subst (λ (z : Float). Lo z 17 8) (sym (full-above x y l u)) (above u)
      go false l b u = absurd (below l)

-- above 2 is not at most 2
not_within : (h : Float) → Lo h 17 8 → le h two ≡ false
unfolding of_bits
not_within h l = go (le h two) refl
  where
    go : (b : Bool) → le h two ≡ b → le h two ≡ false
    go true e = let k = lo-bound (lo-of-le two h (lit< tt) (subst T (sym e) tt) l) tt in absurd (omega (arith, k))
    go false e = e

outer-two : (x y : Float) → T (fits binary64 x) → T (fits binary64 y) → Outer x → le (hypot_of x y) two ≡ false
unfolding hypot_of magnitude_of le of_bits
outer-two nan y Fx Fy o = absurd o
outer-two (inf s) y Fx Fy o = refl
outer-two (fin s m e) nan Fx Fy o = refl
outer-two (fin s m e) (inf t) Fx Fy o = refl
outer-two (fin s zero e) (fin t k d) Fx Fy o = absurd (none (down e) (up e) (down_pos e) o)
  where
    none : (d u : ℕ) → 0 < d → 9 * d ≤ 0 * u * 4 → ⊥
    none d u p h = omega arith
outer-two (fin s (suc m) e) (fin t zero d) Fx Fy o = not_within (fin false (suc m) e) (lo-weaken 17 8 (lit< tt) (lit≤ tt) (lo_at (fin false (suc m) e) 9 4 tt (lit< tt) o))
outer-two (fin s (suc m) e) (fin t (suc k) d) Fx Fy o = not_within (full_hypot (fin s (suc m) e) (fin t (suc k) d)) (full (fin s (suc m) e) (fin t (suc k) d) Fx Fy tt tt o)

-- ---- the tests, and the modulus
pub both-inside : (z : Complex) → T (fits binary64 z.re) → T (fits binary64 z.im) → le (magnitude_of z.re) inner ≡ true → le (magnitude_of z.im) inner ≡ true → le (modulus_of z) two ≡ true
unfolding modulus_of
both-inside z Fx Fy a b = holds (le (hypot_of z.re z.im) two) (inner-two z.re z.im Fx Fy (inner-part z.re (subst T (sym a) tt)) (inner-part z.im (subst T (sym b) tt)))
  where
    holds : (b : Bool) → T b → b ≡ true
    holds true h = refl
    holds false h = absurd h

pub real-outside : (z : Complex) → T (fits binary64 z.re) → T (fits binary64 z.im) → lt outer (magnitude_of z.re) ≡ true → le (modulus_of z) two ≡ false
unfolding modulus_of
real-outside z Fx Fy a = outer-two z.re z.im Fx Fy (outer-part z.re (subst T (sym a) tt))

pub imaginary-outside : (z : Complex) → T (fits binary64 z.re) → T (fits binary64 z.im) → lt outer (magnitude_of z.im) ≡ true → le (modulus_of z) two ≡ false
unfolding modulus_of
imaginary-outside z Fx Fy a = ap (λ (h : Float). le h two) (hypot-symmetric z.re z.im Fx Fy) ∙ outer-two z.im z.re Fy Fx (outer-part z.im (subst T (sym a) tt))
