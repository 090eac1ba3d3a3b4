-- Where hypot of finite x and y is normal, x² + y² and its square are equal up to one part in 2^40 (`hypot-close`): the sum is close, its root is close, and the power of two is taken back. Assumes nothing.
use mathlib.Core.Path.{◌≡◌, refl, sym, ap, ◌∙◌, subst}
use mathlib.Core.Bool.{Bool, true, false}
use Prim.Native.Nat.{ℕ, zero, suc, ◌+◌, ◌-◌, ◌*◌, ◌^◌, ◌≤◌, ◌<◌}
use native.Mathlib.Nat.{le_trans, le_of_eq, zero-lt-suc, zero-mul, zero-add, add-zero, mul-one, mul_assoc, mul_comm, mul_left_comm, add-mul, mul-pos, mul-le-mul_left}
use lib.IntN.{ℤ}
use lib.Dec.{T, lit<, lit≤}
use lib.Pow.{pow_pos}
use lib.Ieee.{Float, nan, inf, fin, binary64, up, down, round, add, mul, le, to_bits, fits}
use lib.Ieee.Exact.{HasValue}
use lib.Ieee.Fits.{up_pos, down_pos, add-fits}
use lib.Ieee.Positive.{num, den, positive, den_pos}
use lib.Ieee.Scale.{finite}
use Rattle.laws.proofs.Value.{sign, own-fraction}
use Rattle.laws.proofs.Power.{mul-value}
use Rattle.laws.proofs.Relative.{Rat, positive-nonnegative, nonnegative-value, round-nonnegative, rat-refl, rat-of-eq, rat-mul, rat-trans, rat-weaken, rat-left, rat-right}
use Rattle.machine.specs.Magnitude.{magnitude_of}
use Rattle.roots.specs.Hypot.{root_at, sum_of_squares, least_sum, greatest_sum, larger, smaller, scaled_hypot, full_hypot, hypot_of}
use Rattle.roots.specs.Close.{squares_over, squares_under, NormalValue, SquareClose}
use Rattle.roots.proofs.Mixed.{round-mixed, mixed-normal}
use Rattle.roots.proofs.HypotCases.{sum-parts, within-range, full-within, full-above, full-below}
use Rattle.roots.proofs.HypotSum.{Summed, summed, square-round}
use Rattle.roots.proofs.HypotRange.{within-floor}
use Rattle.roots.proofs.HypotParts.{larger-value, smaller-value}
use Rattle.roots.proofs.HypotRoot.{root-close}
use Rattle.roots.proofs.HypotScaled.{square_by, over-down, under-down, scaled-up, scaled-down}

-- r * r is within one part in 2 ^ 40 of x * x + y * y, as a ratio
abbrev Near40 : Float → Float → Float → Type 0
Near40 r x y = Rat (2 ^ 40 - 1) (2 ^ 40 + 1) (2 ^ 40) (num r * num r) (den r * den r) (squares_over x y) (squares_under x y)

-- ---- the root of a sum
rooted : (S : Float) (P Q : ℕ) → T (fits binary64 S) → Summed S P Q → T (positive (root_at (to_bits binary64 S)))
    × Rat (2 ^ 48 - 1) (2 ^ 48 + 1) (2 ^ 48) (num (root_at (to_bits binary64 S)) * num (root_at (to_bits binary64 S))) (den (root_at (to_bits binary64 S)) * den (root_at (to_bits binary64 S))) P Q
rooted S P Q F s =
    let k = root-close S F s.is_positive s.normal in
    (k.0, rat-weaken (lit< tt) (lit≤ tt) (lit≤ tt) (rat-trans (den_pos S) k.1 s.close))

-- ---- times a power of two N / D, to a normal value
powered : (q β : Float) (N D : ℕ) → 0 < D → T (positive q) → HasValue β false N D → NormalValue (mul binary64 q β) → Rat (2 ^ 50 - 1) (2 ^ 50 + 1) (2 ^ 50) (num (mul binary64 q β)) (den (mul binary64 q β)) (num q * N) (den q * D)
powered q β N D P p v h =
    let r = mul binary64 q β in
    let e = mul-value binary64 q β false false (num q) (den q) N D (den_pos q) P (nonnegative-value q (positive-nonnegative q p)) v in
    mixed-normal (pow_pos 1075) (round-mixed (num q * N) (den q * D) r (mul-pos (den_pos q) P) e h.is_finite)
    (le_trans (mul-le-mul_left (2 ^ 53) h.is_normal) (le_of_eq (mul_comm (2 ^ 53) (num r * 2 ^ 1022) ∙ mul_assoc (num r) (2 ^ 1022) (2 ^ 53))))

-- the root of P / Q, times N / D, is the root of X / Y
back : (q β : Float) (N D P Q X Y : ℕ) → 0 < D → 0 < Q → T (positive q) → HasValue β false N D → NormalValue (mul binary64 q β)
    → Rat (2 ^ 48 - 1) (2 ^ 48 + 1) (2 ^ 48) (num q * num q) (den q * den q) P Q → X * (Q * (D * D)) ≡ P * (N * N) * Y
    → Rat (2 ^ 40 - 1) (2 ^ 40 + 1) (2 ^ 40) (num (mul binary64 q β) * num (mul binary64 q β)) (den (mul binary64 q β) * den (mul binary64 q β)) X Y
back q β N D P Q X Y d u p v h c e =
    let k = powered q β N D d p v h in
    let g = rat-mul c (rat-refl (N * N) (D * D)) in
    let l = rat-left (num q * N * (num q * N)) (den q * D * (den q * D)) (mul-pos (mul-pos (den_pos q) (den_pos q)) (mul-pos d d)) (simp (mul_assoc, mul_comm, mul_left_comm)) g in
    let w = mul-pos (den_pos q) d in
    rat-weaken (lit< tt) (lit≤ tt) (lit≤ tt) (rat-right X Y (mul-pos u (mul-pos d d)) e (rat-trans (mul-pos w w) (rat-mul k k) l))

-- ---- within the range
within : (x y : Float) → T (le least_sum (sum_of_squares x y)) → T (le (sum_of_squares x y) greatest_sum) → Near40 (root_at (to_bits binary64 (sum_of_squares x y))) x y
unfolding sum_of_squares
within x y l u =
    let f = within-range x y l u in
    let a = num x * num x in
    let c = den x * den x in
    let b = num y * num y in
    let d = den y * den y in
    let C : 0 < c = mul-pos (den_pos x) (den_pos x) in
    let D : 0 < d = mul-pos (den_pos y) (den_pos y) in
    let A = mul binary64 x x in
    let B = mul binary64 y y in
    let ea = square-round x (sign x) (num x) (den x) (den_pos x) (own-fraction x f.1) in
    let eb = square-round y (sign y) (num y) (den y) (den_pos y) (own-fraction y f.2) in
    let g = sum-parts binary64 A B f.0 in
    let h : c * d ≤ (a * d + b * c) * 2 ^ 1000 = within-floor a c b d C D (subst (λ (z : Float). T (le least_sum (add binary64 z (round binary64 false b d)))) ea (subst (λ (z : Float). T (le least_sum (add binary64 A z))) eb l)) in
    let s = summed A B a c b d (round-nonnegative binary64 a c A ea g.0) (round-nonnegative binary64 b d B eb g.1) (round-mixed a c A C ea g.0) (round-mixed b d B D eb g.1) C D h f.0 in
    rat-weaken (lit< tt) (lit≤ tt) (lit≤ tt) (rooted (add binary64 A B) (a * d + b * c) (c * d) (add-fits binary64 A B) s).1

-- ---- scaled, with K = 2 ^ 600
over-up : (n d m e K : ℕ) → n * K * (n * K) * (e * e) + m * K * (m * K) * (d * d) ≡ (n * n * (e * e) + m * m * (d * d)) * (K * K)
over-up n d m e K = simp (add-mul, mul_assoc, mul_comm, mul_left_comm)

match-up : (X P Q K : ℕ) → P ≡ X * (K * K) → X * (Q * (K * K)) ≡ P * (1 * 1) * Q
match-up X P Q K e = sym (ap (λ (t : ℕ). t * Q) (mul-one P ∙ e) ∙ mul_assoc X (K * K) Q ∙ ap (λ (t : ℕ). X * t) (mul_comm (K * K) Q))

match-down : (X P Q Y K : ℕ) → P ≡ X * (K * K) → Q ≡ Y * (K * K * (K * K)) → X * (Q * (1 * 1)) ≡ P * (K * K) * Y
match-down X P Q Y K e f =
    ap (λ (t : ℕ). X * t) (mul-one Q ∙ f ∙ mul_comm Y (K * K * (K * K))) ∙ sym (mul_assoc X (K * K * (K * K)) Y) ∙ ap (λ (t : ℕ). t * Y) (sym (mul_assoc X (K * K) (K * K)) ∙ ap (λ (t : ℕ). t * (K * K)) (sym e))

-- the definition's steps
scaled-is : (κ β x y : Float) → scaled_hypot κ β x y ≡ mul binary64 (root_at (to_bits binary64 (add binary64 (mul binary64 (mul binary64 x κ) (mul binary64 x κ)) (mul binary64 (mul binary64 y κ) (mul binary64 y κ))))) β
unfolding scaled_hypot sum_of_squares
scaled-is κ β x y = refl

module _ (x y : Float) (Fx : T (fits binary64 x)) (Fy : T (fits binary64 y)) (fx : T (finite x)) (fy : T (finite y)) where
  below-range : 0 < num x → le least_sum (sum_of_squares x y) ≡ false → NormalValue (scaled_hypot larger smaller x y) → Near40 (scaled_hypot larger smaller x y) x y
  below-range px h =
      let K = 2 ^ 600 in
      let s = scaled-up x y Fx Fy fx fy px h in
      let S = add binary64 (square_by larger x) (square_by larger y) in
      let P = num x * K * (num x * K) * (den y * den y) + num y * K * (num y * K) * (den x * den x) in
      let r = rooted S P (squares_under x y) (add-fits binary64 (square_by larger x) (square_by larger y)) s.sum in
      let e = match-up (squares_over x y) P (squares_under x y) K (over-up (num x) (den x) (num y) (den y) K) in
      subst (λ (z : Float). NormalValue z → Near40 z x y) (sym (scaled-is larger smaller x y))
      (λ n. back (root_at (to_bits binary64 S)) smaller 1 K P (squares_under x y) (squares_over x y) (squares_under x y) (pow_pos 600) s.over r.0 smaller-value n r.1 e)

  above-range : le (sum_of_squares x y) greatest_sum ≡ false → NormalValue (scaled_hypot smaller larger x y) → Near40 (scaled_hypot smaller larger x y) x y
  above-range h =
      let K = 2 ^ 600 in
      let s = scaled-down x y Fx Fy fx fy h in
      let S = add binary64 (square_by smaller x) (square_by smaller y) in
      let c = den x * K * (den x * K) in
      let d = den y * K * (den y * K) in
      let P = num x * num x * d + num y * num y * c in
      let r = rooted S P (c * d) (add-fits binary64 (square_by smaller x) (square_by smaller y)) s.sum in
      let e = match-down (squares_over x y) P (c * d) (squares_under x y) K (over-down (num x) (den x) (num y) (den y) K) (under-down (den x) (den y) K) in
      subst (λ (z : Float). NormalValue z → Near40 z x y) (sym (scaled-is smaller larger x y))
      (λ n. back (root_at (to_bits binary64 S)) larger K 1 P (c * d) (squares_over x y) (squares_under x y) (pow_pos 0) s.over r.0 larger-value n r.1 e)

  -- two parts that are not zero
  full-range : 0 < num x → NormalValue (full_hypot x y) → Near40 (full_hypot x y) x y
  full-range px = go (le least_sum (sum_of_squares x y)) refl (le (sum_of_squares x y) greatest_sum) refl
    where
      go : (a : Bool) → le least_sum (sum_of_squares x y) ≡ a → (b : Bool) → le (sum_of_squares x y) greatest_sum ≡ b → NormalValue (full_hypot x y) → Near40 (full_hypot x y) x y
      go true l true u n = subst (λ (z : Float). Near40 z x y) (sym (full-within x y l u)) (within x y (subst T (sym l) tt) (subst T (sym u) tt))
      go true l false u n = subst (λ (z : Float). NormalValue z → Near40 z x y) (sym (full-above x y l u)) (above-range u) n
      go false l true u n = subst (λ (z : Float). NormalValue z → Near40 z x y) (sym (full-below x y l)) (below-range px l) n
      go false l false u n = subst (λ (z : Float). NormalValue z → Near40 z x y) (sym (full-below x y l)) (below-range px l) n

-- ---- a zero part
zero-first : (e : ℤ) (n : ℕ) (d : ℕ) → 0 < d → Rat 1 1 1 (n * n) (d * d) (0 * up e * (0 * up e) * (d * d) + n * n * (down e * down e)) (down e * down e * (d * d))
zero-first e n d p = rat-of-eq (n * n) (d * d) (0 * up e * (0 * up e) * (d * d) + n * n * (down e * down e)) (down e * down e * (d * d)) (simp (zero-mul, zero-add, mul_assoc, mul_comm, mul_left_comm))

zero-second : (e : ℤ) (n : ℕ) (d : ℕ) → 0 < d → Rat 1 1 1 (n * n) (d * d) (n * n * (down e * down e) + 0 * up e * (0 * up e) * (d * d)) (d * d * (down e * down e))
zero-second e n d p = rat-of-eq (n * n) (d * d) (n * n * (down e * down e) + 0 * up e * (0 * up e) * (d * d)) (d * d * (down e * down e)) (simp (zero-mul, add-zero, mul_assoc, mul_comm, mul_left_comm))

close : (x y : Float) → T (fits binary64 x) → T (fits binary64 y) → T (finite x) → T (finite y) → NormalValue (hypot_of x y) → Near40 (hypot_of x y) x y
unfolding hypot_of magnitude_of
close nan y Fx Fy fx fy n = absurd fx
close (inf s) y Fx Fy fx fy n = absurd fx
close (fin s m e) nan Fx Fy fx fy n = absurd fy
close (fin s m e) (inf t) Fx Fy fx fy n = absurd fy
close (fin s zero e) (fin t k d) Fx Fy fx fy n = rat-weaken (lit< tt) (lit≤ tt) (lit≤ tt) (zero-first e (k * up d) (down d) (down_pos d))
close (fin s (suc m) e) (fin t zero d) Fx Fy fx fy n = rat-weaken (lit< tt) (lit≤ tt) (lit≤ tt) (zero-second d (suc m * up e) (down e) (down_pos e))
close (fin s (suc m) e) (fin t (suc k) d) Fx Fy fx fy n = full-range (fin s (suc m) e) (fin t (suc k) d) Fx Fy fx fy (mul-pos (zero-lt-suc m) (up_pos e)) n

-- ---- wherever hypot of finite numbers is normal
pub hypot-close : (x y : Float) → T (fits binary64 x) → T (fits binary64 y) → T (finite x) → T (finite y) → NormalValue (hypot_of x y) → SquareClose (hypot_of x y) x y
hypot-close x y Fx Fy fx fy n = let r = close x y Fx Fy fx fy n in record { lower = r.lower; upper = r.upper }
