-- Sums that are exact, and the sum with a large constant that rounds to a grid. `Is x P N c` says that x is finite and is the signed fraction (P - N) / c.
-- A sum of multiples of 2 ^ j / 2 ^ k is exact where it has no more than 2 ^ 53 of these steps (`add-exact`). M + x, with M and the sum in a binade of step 1 / 2 ^ k, is the nearest multiple
-- of the step (`snap`); from it M comes off exactly (`snap-sub`), and what x is more than that is exact too (`rest-exact`). Assumes nothing.
use mathlib.Core.Path.{◌≡◌, refl, sym, ap, ◌∙◌, subst}
use mathlib.Core.Logic.{inl, inr}
use Prim.Native.Nat.{ℕ, suc, ◌+◌, ◌-◌, ◌*◌, ◌/◌, ◌^◌, ◌≤◌, ◌<◌, zero-le}
use native.Mathlib.Nat.{le_trans, le_of_eq, le_of_lt, lt_of_lt_of_le, lt_of_le_of_lt, eq-or-lt_of_le, add-zero, zero-add, suc-add, one-mul, mul-pos, mul_assoc, mul_comm, mul-mul-mul_comm, mul-le-mul_right, mul-lt-mul_of_pos_right, le_of_mul-le-mul_right, eq_of_mul-eq-mul_right, le-div_iff_mul-le, div-lt_iff_lt-mul, sub-add_cancel}
use native.Mathlib.Omega.{arith}
use mathlib.Core.Bool.{Bool, true, false, cond, true≢false, false≢true}
use lib.Dec.{T, ltb, lit<, lit≤}
use lib.Pow.{pow-add, pow_pos, pow_mono, pow-lt}
use lib.Ieee.{Float, nan, inf, fin, Format, binary64, prec, emax, low, size, odd, units, round, add, sub, neg, le, of_bits, to_bits, fits}
use lib.Ieee.Digits.{size-lt, size-le}
use lib.Ieee.Fits.{round-fits, round_is}
use lib.Ieee.Bits.{of_bits-fits}
use lib.Ieee.Exact.{HasValue, round_exact}
use lib.Ieee.Nearest.{closest, closest_same, closest_mono}
use lib.Ieee.Order.{drop, kept}
use lib.Ieee.Scale.{finite, round_same, round_val}
use lib.Ieee.Positive.{den, den_pos}
use Rattle.laws.proofs.Order.{pos_part, neg_part, le→Le, Rounds, plus, less, add_rounds}
use Rattle.laws.proofs.Relative.{closest-half, closest-exact}
use Rattle.laws.proofs.Value.{sign, sign_of_odd, value_same}
use Rattle.laws.proofs.Bits.{inf_bits, units_of, bits-value, units-steps, to_bits-back}
use Rattle.laws.proofs.Power.{unique, pow_lt_back}

-- ---- a finite value as a signed fraction
pub record Is (x : Float) (P N c : ℕ) : Type 0 where
  pub bounded : T (finite x)
  pub cross : pos_part x * c + N * den x ≡ P * den x + neg_part x * c

pub is-own : (x : Float) → T (finite x) → Is x (pos_part x) (neg_part x) (den x)
is-own x f = record { bounded = f; cross = refl }

pub is-plus : (x : Float) (a c : ℕ) → HasValue x false a c → Is x a 0 c
is-plus nan a c h = absurd h
is-plus (inf s) a c h = absurd h
is-plus (fin true m e) a c h = absurd (true≢false h.0)
is-plus (fin false m e) a c h = let k = h.1 in record { bounded = tt; cross = omega arith }

pub is-less : (x : Float) (a c : ℕ) → HasValue x true a c → Is x 0 a c
is-less nan a c h = absurd h
is-less (inf s) a c h = absurd h
is-less (fin false m e) a c h = absurd (false≢true h.0)
is-less (fin true m e) a c h = let k = h.1 in record { bounded = tt; cross = omega arith }

is-neg : {P N c : ℕ} (x : Float) → Is x P N c → Is (neg x) N P c
unfolding neg
is-neg nan i = absurd i.bounded
is-neg (inf s) i = absurd i.bounded
is-neg (fin true m e) i = let k = i.cross in record { bounded = tt; cross = omega arith }
is-neg (fin false m e) i = let k = i.cross in record { bounded = tt; cross = omega arith }

-- another fraction of the same size
is_same : {x : Float} {P N c : ℕ} (P' N' d : ℕ) → 0 < c → P * d + N' * c ≡ P' * c + N * d → Is x P N c → Is x P' N' d
is_same {x} {P} {N} {c} P' N' d C h i = record {
  bounded = i.bounded;
  cross =
      let p = pos_part x in
      let n = neg_part x in
      let u = den x in
      let k : (p * c + N * u) * d ≡ (P * u + n * c) * d = ap (λ (z : ℕ). z * d) i.cross in
      let l : (P * d + N' * c) * u ≡ (P' * c + N * d) * u = ap (λ (z : ℕ). z * u) h in
      eq_of_mul-eq-mul_right c C (p * d + N' * u) (P' * u + n * d) (omega arith);
}

-- ---- the order of signed fractions: one of the two sides is replaced by a fraction (p - n) / u that it equals
swap-le : (P N c p n u A B d : ℕ) → 0 < c → p * c + N * u ≡ P * u + n * c → P * d + B * c ≤ A * c + N * d → p * d + B * u ≤ A * u + n * d
swap-le P N c p n u A B d C k h =
    let l : (p * c + N * u) * d ≡ (P * u + n * c) * d = ap (λ (z : ℕ). z * d) k in
    let m : (P * d + B * c) * u ≤ (A * c + N * d) * u = mul-le-mul_right u h in
    le_of_mul-le-mul_right {k = c} (omega arith) C

swap-ge : (P N c p n u A B d : ℕ) → 0 < c → p * c + N * u ≡ P * u + n * c → A * c + N * d ≤ P * d + B * c → A * u + n * d ≤ p * d + B * u
swap-ge P N c p n u A B d C k h =
    let l : (p * c + N * u) * d ≡ (P * u + n * c) * d = ap (λ (z : ℕ). z * d) k in
    let m : (A * c + N * d) * u ≤ (P * d + B * c) * u = mul-le-mul_right u h in
    le_of_mul-le-mul_right {k = c} (omega arith) C

pub le_is : {P N c P' N' d : ℕ} (x y : Float) → 0 < c → 0 < d → Is x P N c → Is y P' N' d → T (le x y) → P * d + N' * c ≤ P' * c + N * d
le_is {P} {N} {c} {P'} {N'} {d} x y C D i j t =
    let u = den x in
    let v = den y in
    let k : P * u + neg_part x * c ≡ pos_part x * c + N * u = sym i.cross in
    let l : P' * v + neg_part y * d ≡ pos_part y * d + N' * v = sym j.cross in
    let a : P * v + neg_part y * c ≤ pos_part y * c + N * v = swap-le (pos_part x) (neg_part x) u P N c (pos_part y) (neg_part y) v (den_pos x) k (le→Le x y i.bounded j.bounded t) in
    swap-ge (pos_part y) (neg_part y) v P' N' d P N c (den_pos y) l a

-- with its sign where it is not zero
apart : (a b n p d : ℕ) → b + n ≡ p → a + n * d ≡ p * d → a ≡ b * d
apart a b n p d e k = let l : (b + n) * d ≡ p * d = ap (λ (z : ℕ). z * d) e in omega arith

-- ---- a rounded sum or product, at any fractions that the operands equal
rounds-same : {f : Format} {P N c : ℕ} {z : Float} (P' N' d : ℕ) → 0 < c → 0 < d → P * d + N' * c ≡ P' * c + N * d → Rounds f P N c z → Rounds f P' N' d z
rounds-same {f} {P} {N} {c} {z} P' N' d C D h (plus a p e) =
    let x : (a + N) * d ≡ P * d = ap (λ (k : ℕ). k * d) p in
    let l : N' ≤ P' = le_of_mul-le-mul_right {k = c} (omega arith) C in
    let g : P' - N' + N' ≡ P' = sub-add_cancel l in
    let y : (P' - N' + N') * c ≡ P' * c = ap (λ (k : ℕ). k * c) g in
    plus (P' - N') g (e ∙ round_same f false a c (P' - N') d C D (move (P' - N') a N N' d c P' h x y))
  where
    move : (b a N N' d c P' : ℕ) → P * d + N' * c ≡ P' * c + N * d → (a + N) * d ≡ P * d → (b + N') * c ≡ P' * c → a * d ≡ b * c
    move b a N N' d c P' h x y = omega arith
rounds-same {f} {P} {N} {c} {z} P' N' d C D h (less a p e) =
    let x : (a + P) * d ≡ N * d = ap (λ (k : ℕ). k * d) p in
    let l : P' ≤ N' = le_of_mul-le-mul_right {k = c} (omega arith) C in
    let g : N' - P' + P' ≡ N' = sub-add_cancel l in
    let y : (N' - P' + P') * c ≡ N' * c = ap (λ (k : ℕ). k * c) g in
    less (N' - P') g (e ∙ round_same f true a c (N' - P') d C D (move (N' - P') a N N' d c P' h x y))
  where
    move : (b a N N' d c P' : ℕ) → P * d + N' * c ≡ P' * c + N * d → (a + P) * d ≡ N * d → (b + P') * c ≡ N' * c → a * d ≡ b * c
    move b a N N' d c P' h x y = omega arith

-- a common factor of both denominators
over-right : (A B A' B' c u v : ℕ) → A * c + B' * u ≡ A' * u + B * c → A * (c * v) + B' * (u * v) ≡ A' * (u * v) + B * (c * v)
over-right A B A' B' c u v h = let k : (A * c + B' * u) * v ≡ (A' * u + B * c) * v = ap (λ (z : ℕ). z * v) h in omega arith

over-left : (A B A' B' c u v : ℕ) → A * c + B' * u ≡ A' * u + B * c → A * (v * c) + B' * (v * u) ≡ A' * (v * u) + B * (v * c)
over-left A B A' B' c u v h = let k : (A * c + B' * u) * v ≡ (A' * u + B * c) * v = ap (λ (z : ℕ). z * v) h in omega arith

is-add : {P N c P' N' d : ℕ} (f : Format) (x y : Float) → 0 < c → 0 < d → Is x P N c → Is y P' N' d → Rounds f (P * d + P' * c) (N * d + N' * c) (c * d) (add f x y)
is-add {P} {N} {c} {P'} {N'} {d} f x y C D i j =
    let u = den x in
    let v = den y in
    let p = pos_part x in
    let n = neg_part x in
    let p' = pos_part y in
    let n' = neg_part y in
    let k : (p * c + N * u) * v ≡ (P * u + n * c) * v = ap (λ (z : ℕ). z * v) i.cross in
    let l : (p' * d + N' * v) * c ≡ (P' * v + n' * d) * c = ap (λ (z : ℕ). z * c) j.cross in
    let r : Rounds f (P * v + p' * c) (N * v + n' * c) (c * v) (add f x y) =
    rounds-same (P * v + p' * c) (N * v + n' * c) (c * v) (mul-pos (den_pos x) (den_pos y)) (mul-pos C (den_pos y))
    (over-right (p * v + p' * u) (n * v + n' * u) (P * v + p' * c) (N * v + n' * c) c u v (omega arith)) (add_rounds f x y i.bounded j.bounded) in
    rounds-same (P * d + P' * c) (N * d + N' * c) (c * d) (mul-pos C (den_pos y)) (mul-pos C D)
    (over-left (P * v + p' * c) (N * v + n' * c) (P * d + P' * c) (N * d + N' * c) d v c (omega arith)) r

pub is-sub : {P N c P' N' d : ℕ} (f : Format) (x y : Float) → 0 < c → 0 < d → Is x P N c → Is y P' N' d → Rounds f (P * d + N' * c) (N * d + P' * c) (c * d) (sub f x y)
unfolding sub
is-sub f x y C D i j = is-add f x (neg y) C D i (is-neg y j)

-- ---- exact results: at most 2 ^ 53 steps of 2 ^ j / 2 ^ k
pub round-steps : (s : Bool) (q j k : ℕ) → q ≤ 2 ^ 53 → k ≤ 1074 → j ≤ 970 + k → HasValue (round binary64 s (q * 2 ^ j) (2 ^ k)) s (q * 2 ^ j) (2 ^ k)
round-steps s q j k Q K L = elim (eq-or-lt_of_le Q) [
  | inl e ↦ round_exact binary64 s (q * 2 ^ j) (2 ^ k) 1 (53 + (j + (1074 - k))) (pow_pos k) (lit< tt)
      (subst (λ (z : ℕ). z < 2 ^ (1074 + 1024)) (sym (one-mul (2 ^ (53 + (j + (1074 - k)))))) (pow-lt (room j k K L)))
      (scaled q j k K ∙ ap (λ (z : ℕ). z * 2 ^ (j + (1074 - k)) * 2 ^ k) e ∙ ap (λ (z : ℕ). z * 2 ^ k) (sym (pow-add 2 53 (j + (1074 - k))) ∙ sym (one-mul (2 ^ (53 + (j + (1074 - k)))))))
  | inr l ↦ round_exact binary64 s (q * 2 ^ j) (2 ^ k) q (j + (1074 - k)) (pow_pos k) l
      (lt_of_lt_of_le (mul-lt-mul_of_pos_right l (pow_pos (j + (1074 - k)))) (le_trans (le_of_eq (sym (pow-add 2 53 (j + (1074 - k))))) (pow_mono (le_of_lt (room j k K L)))))
      (scaled q j k K)
]
  where
    room : (j k : ℕ) → k ≤ 1074 → j ≤ 970 + k → 53 + (j + (1074 - k)) < 1074 + 1024
    room j k K L = omega arith

    scaled : (q j k : ℕ) → k ≤ 1074 → q * 2 ^ j * 2 ^ 1074 ≡ q * 2 ^ (j + (1074 - k)) * 2 ^ k
    scaled q j k K =
        ap (λ (z : ℕ). q * 2 ^ j * 2 ^ z) (sym (sub-add_cancel K))
        ∙ ap (λ (z : ℕ). q * 2 ^ j * z) (pow-add 2 (1074 - k) k)
        ∙ sym (mul_assoc (q * 2 ^ j) (2 ^ (1074 - k)) (2 ^ k))
        ∙ ap (λ (z : ℕ). z * 2 ^ k) (mul_assoc q (2 ^ j) (2 ^ (1074 - k)) ∙ ap (λ (z : ℕ). q * z) (sym (pow-add 2 j (1074 - k))))

above-part : (r a b : ℕ) → r + a ≡ b → a ≤ b
above-part r a b e = omega arith

few-steps : (p n : ℕ) → p ≤ n + 2 ^ 53 → p - n ≤ 2 ^ 53
few-steps p n a = omega arith

rounds-steps : {z : Float} (p n j k : ℕ) → k ≤ 1074 → j ≤ 970 + k → p ≤ n + 2 ^ 53 → n ≤ p + 2 ^ 53 → Rounds binary64 (p * 2 ^ j) (n * 2 ^ j) (2 ^ k) z → Is z (p * 2 ^ j) (n * 2 ^ j) (2 ^ k)
rounds-steps {z} p n j k K L a b (plus r e g) =
    let l : n ≤ p = le_of_mul-le-mul_right {k = 2 ^ j} (above-part r (n * 2 ^ j) (p * 2 ^ j) e) (pow_pos j) in
    let w : (p - n) * 2 ^ j ≡ r = sym (apart r (p - n) n p (2 ^ j) (sub-add_cancel l) e) in
    let v : HasValue z false r (2 ^ k) = subst (λ (t : Float). HasValue t false r (2 ^ k)) (sym g) (subst (λ (t : ℕ). HasValue (round binary64 false t (2 ^ k)) false t (2 ^ k)) w (round-steps false (p - n) j k (few-steps p n a) K L)) in
    is_same (p * 2 ^ j) (n * 2 ^ j) (2 ^ k) (pow_pos k) (scale r (n * 2 ^ j) (p * 2 ^ j) (2 ^ k) e) (is-plus z r (2 ^ k) v)
  where
    scale : (r a b c : ℕ) → r + a ≡ b → r * c + a * c ≡ b * c + 0 * c
    scale r a b c e = let k : (r + a) * c ≡ b * c = ap (λ (z : ℕ). z * c) e in omega arith
rounds-steps {z} p n j k K L a b (less r e g) =
    let l : p ≤ n = le_of_mul-le-mul_right {k = 2 ^ j} (above-part r (p * 2 ^ j) (n * 2 ^ j) e) (pow_pos j) in
    let w : (n - p) * 2 ^ j ≡ r = sym (apart r (n - p) p n (2 ^ j) (sub-add_cancel l) e) in
    let v : HasValue z true r (2 ^ k) = subst (λ (t : Float). HasValue t true r (2 ^ k)) (sym g) (subst (λ (t : ℕ). HasValue (round binary64 true t (2 ^ k)) true t (2 ^ k)) w (round-steps true (n - p) j k (few-steps n p b) K L)) in
    is_same (p * 2 ^ j) (n * 2 ^ j) (2 ^ k) (pow_pos k) (scale r (p * 2 ^ j) (n * 2 ^ j) (2 ^ k) e) (is-less z r (2 ^ k) v)
  where
    scale : (r a b c : ℕ) → r + a ≡ b → 0 * c + b * c ≡ a * c + r * c
    scale r a b c e = let k : (r + a) * c ≡ b * c = ap (λ (z : ℕ). z * c) e in omega arith

-- a rounded fraction that is a number of steps
rounds-exact : {z : Float} (P N c p n j k : ℕ) → 0 < c → k ≤ 1074 → j ≤ 970 + k → p ≤ n + 2 ^ 53 → n ≤ p + 2 ^ 53 → P * 2 ^ k + n * 2 ^ j * c ≡ p * 2 ^ j * c + N * 2 ^ k → Rounds binary64 P N c z → Is z P N c
rounds-exact P N c p n j k C K L a b h r =
    is_same P N c (pow_pos k) (back (p * 2 ^ j) (n * 2 ^ j) P N c (2 ^ k) h) (rounds-steps p n j k K L a b (rounds-same (p * 2 ^ j) (n * 2 ^ j) (2 ^ k) C (pow_pos k) h r))
  where
    back : (p n P N c k : ℕ) → P * k + n * c ≡ p * c + N * k → p * c + N * k ≡ P * k + n * c
    back p n P N c k h = sym h

-- ---- sums and differences of multiples of a step
common : (P N c : ℕ) (P' N' : ℕ) → (P * c + P' * c) * c + (N + N') * (c * c) ≡ (P + P') * (c * c) + (N * c + N' * c) * c
common P N c P' N' = omega arith

add-common : {P N c P' N' : ℕ} (f : Format) (x y : Float) → 0 < c → Is x P N c → Is y P' N' c → Rounds f (P + P') (N + N') c (add f x y)
add-common {P} {N} {c} {P'} {N'} f x y C i j = rounds-same (P + P') (N + N') c (mul-pos C C) C (common P N c P' N') (is-add f x y C C i j)

-- with the step 1 / 2 ^ k
add-fine : {p n p' n' k : ℕ} (x y : Float) → k ≤ 1074 → p + p' ≤ n + n' + 2 ^ 53 → n + n' ≤ p + p' + 2 ^ 53 → Is x p n (2 ^ k) → Is y p' n' (2 ^ k) → Is (add binary64 x y) (p + p') (n + n') (2 ^ k)
add-fine {p} {n} {p'} {n'} {k} x y K a b i i' =
    rounds-exact (p + p') (n + n') (2 ^ k) (p + p') (n + n') 0 k (pow_pos k) K zero-le a b (once (p + p') (n + n') (2 ^ k)) (add-common binary64 x y (pow_pos k) i i')
  where
    once : (p n t : ℕ) → p * t + n * 1 * t ≡ p * 1 * t + n * t
    once p n t = omega arith

sub-fine : {p n p' n' k : ℕ} (x y : Float) → k ≤ 1074 → p + n' ≤ n + p' + 2 ^ 53 → n + p' ≤ p + n' + 2 ^ 53 → Is x p n (2 ^ k) → Is y p' n' (2 ^ k) → Is (sub binary64 x y) (p + n') (n + p') (2 ^ k)
unfolding sub
sub-fine x y K a b i i' = add-fine x (neg y) K a b i (is-neg y i')

-- ---- rounding in a binade of step 1 / 2 ^ k: to the nearest multiple of the step
size_is : (a n : ℕ) → 2 ^ a ≤ n → n < 2 ^ suc a → size n ≡ suc a
size_is a n lo hi = equal a (size n) (size-le n (suc a) hi) (pow_lt_back a (size n) (lt_of_le_of_lt lo (size-lt n)))
  where
    equal : (a z : ℕ) → z ≤ suc a → a < z → z ≡ suc a
    equal a z h k = omega arith

nearest-low : (n c : ℕ) → 0 < c → 2 ^ 52 * c ≤ n → 2 ^ 52 ≤ closest n c
nearest-low n c C h = le_trans (le_of_eq (sym (closest-exact (2 ^ 52) c C))) (closest_mono (2 ^ 52 * c) c n c C C (mul-le-mul_right c h))

nearest-high : (n c : ℕ) → 0 < c → n ≤ 2 ^ 53 * c → closest n c ≤ 2 ^ 53
nearest-high n c C h = le_trans (closest_mono n c (2 ^ 53 * c) c C C (mul-le-mul_right c h)) (le_of_eq (closest-exact (2 ^ 53) c C))

-- 2 ^ 1074 as the step's inverse and the step in units
whole-units : (k : ℕ) → k ≤ 1074 → 2 ^ (1074 - k) * 2 ^ k ≡ 2 ^ 1074
whole-units k K = sym (pow-add 2 (1074 - k) k) ∙ ap (λ (z : ℕ). 2 ^ z) (sub-add_cancel K)

inside : (n c k : ℕ) → 0 < c → k ≤ 1074 → 2 ^ 52 * c ≤ n → n < 2 ^ 53 * c → HasValue (round binary64 false n (2 ^ k * c)) false (closest n c) (2 ^ k)
inside n c k C K lo hi =
    let j = 1074 - k in
    let d = 2 ^ k * c in
    let w : 2 ^ j * 2 ^ k ≡ 2 ^ 1074 = whole-units k K in
    let a : 2 ^ (52 + j) * d ≤ n * 2 ^ 1074 = le_trans (le_of_eq (ap (λ (z : ℕ). z * d) (pow-add 2 52 j) ∙ shuffle (2 ^ 52) (2 ^ j) (2 ^ k) c ∙ ap (λ (z : ℕ). 2 ^ 52 * c * z) w)) (mul-le-mul_right (2 ^ 1074) lo) in
    let b : n * 2 ^ 1074 < 2 ^ suc (52 + j) * d = subst (λ (z : ℕ). n * 2 ^ 1074 < 2 ^ z * d) (suc-add 52 j) (lt_of_lt_of_le (mul-lt-mul_of_pos_right hi (pow_pos 1074)) (le_of_eq (sym (ap (λ (z : ℕ). z * d) (pow-add 2 53 j) ∙ shuffle (2 ^ 53) (2 ^ j) (2 ^ k) c ∙ ap (λ (z : ℕ). 2 ^ 53 * c * z) w)))) in
    let D : 0 < d = mul-pos (pow_pos k) C in
    let e : size (n * 2 ^ 1074 / d) ≡ suc (52 + j) = size_is (52 + j) (n * 2 ^ 1074 / d) ((le-div_iff_mul-le D).1 a) ((div-lt_iff_lt-mul D).1 b) in
    let g : drop 53 (n * 2 ^ 1074) d ≡ j = ap (λ (z : ℕ). z - 53) e ∙ off j in
    let q : kept 53 (n * 2 ^ 1074) d * 2 ^ drop 53 (n * 2 ^ 1074) d ≡ closest n c * 2 ^ j =
    ap (λ (z : ℕ). closest (n * 2 ^ 1074) (d * 2 ^ z) * 2 ^ z) g
    ∙ ap (λ (z : ℕ). z * 2 ^ j) (closest_same (n * 2 ^ 1074) (d * 2 ^ j) n c (mul-pos D (pow_pos j)) C (ap (λ (z : ℕ). n * z * c) (sym w) ∙ same n (2 ^ j) (2 ^ k) c)) in
    let u : closest n c * 2 ^ j < 2 ^ 2098 =
    lt_of_le_of_lt (mul-le-mul_right (2 ^ j) (nearest-high n c C (le_of_lt hi))) (subst (λ (z : ℕ). z < 2 ^ 2098) (pow-add 2 53 j) (pow-lt (under j k))) in
    value_same (round binary64 false n d) false (closest n c * 2 ^ j) (2 ^ 1074) (closest n c) (2 ^ k) (pow_pos 1074)
    (mul_assoc (closest n c) (2 ^ j) (2 ^ k) ∙ ap (λ (z : ℕ). closest n c * z) w)
    (subst (λ (z : ℕ). HasValue (round binary64 false n d) false z (2 ^ 1074)) q (round_val binary64 n d (subst (λ (z : ℕ). z < 2 ^ 2098) (sym q) u)))
  where
    shuffle : (p a b c : ℕ) → p * a * (b * c) ≡ p * c * (a * b)
    shuffle p a b c = mul-mul-mul_comm p a b c ∙ ap (λ (z : ℕ). p * b * z) (mul_comm a c) ∙ mul-mul-mul_comm p b c a ∙ ap (λ (z : ℕ). p * c * z) (mul_comm b a)

    same : (n a b c : ℕ) → n * (a * b) * c ≡ n * (b * c * a)
    same n a b c = mul_assoc n (a * b) c ∙ ap (λ (z : ℕ). n * z) (mul_assoc a b c ∙ mul_comm a (b * c))

    off : (j : ℕ) → suc (52 + j) - 53 ≡ j
    off j = omega arith

    under : (j k : ℕ) → 53 + (1074 - k) < 2098
    under j k = omega arith

round-binade : (n c k : ℕ) → 0 < c → k ≤ 1074 → 2 ^ 52 * c ≤ n → n ≤ 2 ^ 53 * c → HasValue (round binary64 false n (2 ^ k * c)) false (closest n c) (2 ^ k)
round-binade n c k C K lo hi = elim (eq-or-lt_of_le hi) [
  | inl e ↦
      let z : round binary64 false n (2 ^ k * c) ≡ round binary64 false (2 ^ 53 * 2 ^ 0) (2 ^ k) = round_same binary64 false n (2 ^ k * c) (2 ^ 53 * 2 ^ 0) (2 ^ k) (mul-pos (pow_pos k) C) (pow_pos k) (ap (λ (y : ℕ). y * 2 ^ k) e ∙ turned c (2 ^ k)) in
      let q : 2 ^ 53 ≡ closest n c = sym (ap (λ (y : ℕ). closest y c) e ∙ closest-exact (2 ^ 53) c C) in
      subst (λ (y : ℕ). HasValue (round binary64 false n (2 ^ k * c)) false y (2 ^ k)) q (subst (λ (y : Float). HasValue y false (2 ^ 53) (2 ^ k)) (sym z) (round-steps false (2 ^ 53) 0 k (lit≤ tt) K zero-le))
  | inr l ↦ inside n c k C K lo l
]
  where
    turned : (c t : ℕ) → 2 ^ 53 * c * t ≡ 2 ^ 53 * 2 ^ 0 * (t * c)
    turned c t = omega arith

-- ---- the sum t = M + x in a binade of step 1 / 2 ^ k, where M is μ steps and x is (P - N) / c: t is q steps, the nearest to the sum
pub record Snapped (P N c μ k : ℕ) (t : Float) : Type 0 where
  pub q : ℕ
  pub lowest : 2 ^ 52 ≤ q
  pub highest : q ≤ 2 ^ 53
  pub value : HasValue t false q (2 ^ k)
  pub bits : to_bits binary64 t ≡ (1074 - k) * 2 ^ 52 + q
  pub above : 2 * (q * c + N * 2 ^ k) ≤ 2 * (P * 2 ^ k + μ * c) + c
  pub below : 2 * (P * 2 ^ k + μ * c) ≤ 2 * (q * c + N * 2 ^ k) + c

steps-bits : (q k : ℕ) (t : Float) → k ≤ 1074 → 2 ^ 52 ≤ q → q ≤ 2 ^ 53 → T (fits binary64 t) → HasValue t false q (2 ^ k) → to_bits binary64 t ≡ (1074 - k) * 2 ^ 52 + q
steps-bits q k t K lo hi F v =
    let b = (1074 - k) * 2 ^ 52 + q in
    ap (to_bits binary64)
    (unique binary64 t (of_bits binary64 b) false q (2 ^ k) (units_of b) (2 ^ 1074) (pow_pos k) (pow_pos 1074) F (of_bits-fits binary64 b) v (bits-value b (within k q hi))
    (sym (ap (λ (z : ℕ). z * 2 ^ k) (units-steps (1074 - k) q lo hi) ∙ mul_assoc q (2 ^ (1074 - k)) (2 ^ k) ∙ ap (λ (z : ℕ). q * z) (whole-units k K))))
    ∙ to_bits-back b (le_of_lt (within k q hi))
  where
    within : (k q : ℕ) → q ≤ 2 ^ 53 → (1074 - k) * 2 ^ 52 + q < inf_bits
    within k q h = omega arith

snap-of : {t : Float} (P N c μ k : ℕ) → 0 < c → k ≤ 1074 → 2 ^ 52 * c + N * 2 ^ k ≤ P * 2 ^ k + μ * c → P * 2 ^ k + μ * c ≤ 2 ^ 53 * c + N * 2 ^ k
    → Rounds binary64 (P * 2 ^ k + μ * c) (N * 2 ^ k) (2 ^ k * c) t → Snapped P N c μ k t
snap-of {t} P N c μ k C K lo hi (plus a e g) =
    let l : 2 ^ 52 * c ≤ a = omega arith in
    let h : a ≤ 2 ^ 53 * c = omega arith in
    let v : HasValue t false (closest a c) (2 ^ k) = subst (λ (z : Float). HasValue z false (closest a c) (2 ^ k)) (sym g) (round-binade a c k C K l h) in
    let r = closest-half a c C in
    let r0 = r.0 in
    let r1 = r.1 in
    record {
      q = closest a c;
      lowest = nearest-low a c C l;
      highest = nearest-high a c C h;
      value = v;
      bits = steps-bits (closest a c) k t K (nearest-low a c C l) (nearest-high a c C h) (subst (λ (z : Float). T (fits binary64 z)) (sym g) (round-fits binary64 false a (2 ^ k * c))) v;
      above = omega arith;
      below = omega arith;
    }
snap-of {t} P N c μ k C K lo hi (less a e g) = absurd (omega arith)

module _ (P N c μ k : ℕ) (M x : Float) (C : 0 < c) (K : k ≤ 1074) (m : HasValue M false μ (2 ^ k)) (i : Is x P N c) (lo : 2 ^ 52 * c + N * 2 ^ k ≤ P * 2 ^ k + μ * c) (hi : P * 2 ^ k + μ * c ≤ 2 ^ 53 * c + N * 2 ^ k) where
  pub snap-right : Snapped P N c μ k (add binary64 x M)
  snap-right =
      snap-of P N c μ k C K lo hi
      (rounds-same (P * 2 ^ k + μ * c) (N * 2 ^ k) (2 ^ k * c) (mul-pos C (pow_pos k)) (mul-pos (pow_pos k) C) (same (P * 2 ^ k) (μ * c) (N * 2 ^ k) c (2 ^ k)) (is-add binary64 x M C (pow_pos k) i (is-plus M μ (2 ^ k) m)))
    where
      same : (a b n c t : ℕ) → (a + b) * (t * c) + n * (c * t) ≡ (a + b) * (c * t) + (n + 0 * c) * (t * c)
      same a b n c t = omega arith

-- ---- M comes off exactly
pub snap-sub : {P N c μ k : ℕ} (t M : Float) (S : Snapped P N c μ k t) → k ≤ 1074 → μ ≤ 2 ^ 53 → HasValue M false μ (2 ^ k) → Is (sub binary64 t M) S.q μ (2 ^ k)
snap-sub {P} {N} {c} {μ} {k} t M S K h m =
    let q = S.q in
    let u : q ≤ 2 ^ 53 = S.highest in
    subst (λ (z : ℕ). Is (sub binary64 t M) z μ (2 ^ k)) (add-zero q)
    (subst (λ (z : ℕ). Is (sub binary64 t M) (q + 0) z (2 ^ k)) (zero-add μ) (sub-fine t M K (few q μ u) (few' q μ h) (is-plus t q (2 ^ k) S.value) (is-plus M μ (2 ^ k) m)))
  where
    few : (q μ : ℕ) → q ≤ 2 ^ 53 → q + 0 ≤ 0 + μ + 2 ^ 53
    few q μ h = omega arith

    few' : (q μ : ℕ) → μ ≤ 2 ^ 53 → 0 + μ ≤ q + 0 + 2 ^ 53
    few' q μ h = omega arith

-- the same, with its sign, where the sum is no less than M
pub round-sign : (f : Format) (s : Bool) (a c : ℕ) → sign (round f s a c) ≡ s
unfolding units
round-sign f s a c = ap sign (round_is f s a c) ∙ go (kept (prec f) (a * 2 ^ low f) c) (drop (prec f) (a * 2 ^ low f) c)
  where
    go : (q k : ℕ) → sign (units f s q k) ≡ s
    go q k = pick (ltb (q * 2 ^ k) (2 ^ (low f + suc (emax f))))
      where
        pick : (b : Bool) → sign (cond b (odd (suc (prec f)) s q k (low f)) (inf s)) ≡ s
        pick true = sign_of_odd (suc (prec f)) s q k (low f)
        pick false = refl
