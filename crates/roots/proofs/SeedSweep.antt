-- The seed's quadratics against the root, by whole numbers: a test on sixteen parts of each of the 128 pieces, computed, says that the square of the exact quadratic is within 38 parts in 2^31 of the argument.
-- On a part the square is a line and a small rest, so a line above it and one below it at the part's two ends hold between them. Assumes nothing.
use mathlib.Core.Path.{◌≡◌, refl, sym, ap, ◌∙◌, subst}
use mathlib.Core.Logic.{inl, inr}
use mathlib.Core.Bool.{Bool, true, false, cond, ◌&&◌}
use mathlib.Core.List.{List, [], ◌∷◌}
use Prim.Native.Nat.{ℕ, zero, suc, ◌+◌, ◌-◌, ◌*◌, ◌/◌, ◌^◌, ◌≤◌, ◌<◌}
use native.Mathlib.Nat.{le_trans, le_of_eq, le_of_lt, mul-mul-mul_comm, mul_assoc, mul_comm, mul_left_comm, mul_right_comm, add-mul, mul-add, mul-le-mul, mul-le-mul_left, mul-le-mul_right, add_assoc, add_comm, add_left_comm, zero-mul, suc-mul, lt_of_lt_of_le, add-zero, zero-add, add-suc, suc-add, le_of_suc-le-suc, not-suc-le-zero}
use native.Mathlib.Omega.{arith}
use lib.Dec.{T, leb, ltb, eqb, leb→le, eqb→eq}
use lib.Ieee.{Float, nan, of_bits}
use lib.Ieee.Fits.{and_l, and_r}
use lib.Ieee.Positive.{num, den, positive, den_pos, own_value}
use lib.Ieee.Exact.{HasValue}
use lib.ListN.{length, get_or}
use Rattle.laws.proofs.Value.{value_same}
use Rattle.roots_tables.specs.Tables.{constants, slopes, bends}
use Rattle.roots.proofs.WholeRoot.{which}

-- ---- the accuracy, U / D and V / D, and the scale of the numbers: Z / 2 ^ 162 is the quadratic, F / 2 ^ 52 the argument
abbrev pub parts : ℕ
parts = 2 ^ 31

abbrev pub most : ℕ
most = 2 ^ 31 + 38

abbrev pub least : ℕ
least = 2 ^ 31 - 38

abbrev pub scale : ℕ
scale = 2 ^ 272

abbrev rise : ℕ → ℕ → ℕ → ℕ
rise A B C = B * B - 2 * (A * C)

abbrev fall : ℕ → ℕ → ℕ → ℕ → ℕ
fall A B C h = 2 * ((A + B * h) * C) + C * h * (C * h) - B * B

-- Z = A + B v - C v v for v up to h
abbrev on_part : ℕ → ℕ → ℕ → ℕ → ℕ → Bool
on_part A B C F h =
    let a = A * A in
    let e = 2 * (A * B) * h in
    let r = rise A B C * (h * h) in
    let f = fall A B C h * (h * h) * parts in
    leb (C * h) B
    && (leb ((a + r) * parts) (most * F * scale)
    && (leb ((a + e + r) * parts) (most * (F + h) * scale)
    && (leb (least * F * scale + f) (a * parts)
    && leb (least * (F + h) * scale + f) ((a + e) * parts))))

-- C0 / 2 ^ 52, C1 / 2 ^ 54 and C2 / 2 ^ 58 are the coefficients; the part starts at a
abbrev at_part : ℕ → ℕ → ℕ → ℕ → ℕ → ℕ → Bool
at_part P Q C L h k =
    let a = k * h in
    leb (C * a * a) (P + Q * a) && (leb (2 * (C * a)) Q && on_part (P + Q * a - C * a * a) (Q - 2 * (C * a)) C (L + a) h)

abbrev all_parts : ℕ → ℕ → ℕ → ℕ → ℕ → ℕ → Bool
all_parts zero P Q C L h = true
all_parts (suc k) P Q C L h = at_part P Q C L h k && all_parts k P Q C L h

abbrev pub left_of : ℕ → ℕ
left_of i = cond (ltb i 64) ((64 + i) * 2 ^ 46) (i * 2 ^ 47)

abbrev pub part_of : ℕ → ℕ
part_of i = cond (ltb i 64) (2 ^ 42) (2 ^ 43)

-- a coefficient as a whole number of 2 ^ -k
abbrev pub whole_at : Float → ℕ → ℕ
whole_at x k = num x * 2 ^ k / den x

abbrev is_whole : Float → ℕ → ℕ → ℕ → Bool
is_whole x k A B = positive x && (eqb (num x * 2 ^ k) (whole_at x k * den x) && (leb A (whole_at x k) && leb (whole_at x k) B))

abbrev piece : ℕ → Float → Float → Float → Bool
piece i x y z =
    is_whole x 52 (2 ^ 52) (2 ^ 53) && (is_whole y 54 0 (2 ^ 53) && (is_whole z 58 0 (2 ^ 55) && all_parts 16 (whole_at x 52 * 2 ^ 110) (whole_at y 54 * 2 ^ 56) (whole_at z 58) (left_of i) (part_of i)))

abbrev pieces : ℕ → List Float → List Float → List Float → Bool
pieces i [] ys zs = true
pieces i (x ∷ xs) [] zs = false
pieces i (x ∷ xs) (y ∷ ys) [] = false
pieces i (x ∷ xs) (y ∷ ys) (z ∷ zs) = piece i x y z && pieces (suc i) xs ys zs

swept : T (pieces 0 constants slopes bends)
unfolding constants slopes bends of_bits
swept = tt

-- ---- what a passed test says of one part
square-sum : (a b : ℕ) → (a + b) * (a + b) ≡ a * a + 2 * (a * b) + b * b
square-sum a b = simp (add-mul, mul-add, mul_comm) (omega arith)

line-above : (α β κ F h v : ℕ) → v ≤ h → α ≤ κ * F → α + β * h ≤ κ * (F + h) → α + β * v ≤ κ * (F + v)
line-above α β κ F h v l p q =
    let w = h - v in
    let e : h ≡ v + w = omega arith in
    let bh : β * h ≡ β * v + β * w = ap (λ (t : ℕ). β * t) e ∙ mul-add β v w in
    let kh : κ * (F + h) ≡ κ * F + (κ * v + κ * w) = mul-add κ F h ∙ ap (λ (t : ℕ). κ * F + t) (ap (λ (t : ℕ). κ * t) e ∙ mul-add κ v w) in
    let kv : κ * (F + v) ≡ κ * F + κ * v = mul-add κ F v in
    elim (which β κ) [
      | inl h' ↦ let m : β * v ≤ κ * v = mul-le-mul_right v (le_of_lt h') in omega arith
      | inr h' ↦ let m : κ * w ≤ β * w = mul-le-mul_right w h' in omega arith
    ]

line-below : (α β κ F h v : ℕ) → v ≤ h → κ * F ≤ α → κ * (F + h) ≤ α + β * h → κ * (F + v) ≤ α + β * v
line-below α β κ F h v l p q =
    let w = h - v in
    let e : h ≡ v + w = omega arith in
    let bh : β * h ≡ β * v + β * w = ap (λ (t : ℕ). β * t) e ∙ mul-add β v w in
    let kh : κ * (F + h) ≡ κ * F + (κ * v + κ * w) = mul-add κ F h ∙ ap (λ (t : ℕ). κ * F + t) (ap (λ (t : ℕ). κ * t) e ∙ mul-add κ v w) in
    let kv : κ * (F + v) ≡ κ * F + κ * v = mul-add κ F v in
    elim (which β κ) [
      | inl h' ↦ let m : β * w ≤ κ * w = mul-le-mul_right w (le_of_lt h') in omega arith
      | inr h' ↦ let m : κ * v ≤ β * v = mul-le-mul_right v h' in omega arith
    ]

module _ (A B C h v Z : ℕ) (l : v ≤ h) (s : C * h ≤ B) (e : Z + C * (v * v) ≡ A + B * v) where
  bent : C * (v * v) ≤ B * v
  bent = le_trans (le_of_eq (sym (mul_assoc C v v))) (mul-le-mul_right v (le_trans (mul-le-mul_left C l) s))

  opened : Z * Z + 2 * (Z * C * (v * v)) + C * v * (C * v) * (v * v) ≡ A * A + 2 * (A * B) * v + B * B * (v * v)
  opened =
      let x : (Z + C * (v * v)) * (Z + C * (v * v)) ≡ (A + B * v) * (A + B * v) = ap (λ (t : ℕ). t * t) e in
      let y = square-sum Z (C * (v * v)) in
      let z = square-sum A (B * v) in
      let a : Z * (C * (v * v)) ≡ Z * C * (v * v) = sym (mul_assoc Z C (v * v)) in
      let b : C * (v * v) * (C * (v * v)) ≡ C * v * (C * v) * (v * v) = simp (mul_assoc, mul_comm, mul_left_comm) in
      let c : 2 * (A * (B * v)) ≡ 2 * (A * B) * v = simp (mul_assoc, mul_comm, mul_left_comm) in
      let d : B * v * (B * v) ≡ B * B * (v * v) = mul-mul-mul_comm B v B v in
      omega (arith, x, y, z, a, b, c, d)

  upper : Z * Z ≤ A * A + rise A B C * (h * h) + 2 * (A * B) * v
  upper =
      let g : A ≤ Z = let b = bent in omega (arith, e) in
      let a : A * C * (v * v) ≤ Z * C * (v * v) = mul-le-mul_right (v * v) (mul-le-mul_right C g) in
      let b : B * B ≤ rise A B C + 2 * (A * C) = omega arith in
      let c : B * B * (v * v) ≤ rise A B C * (v * v) + 2 * (A * C * (v * v)) =
      le_trans (mul-le-mul_right (v * v) b) (le_of_eq (add-mul (rise A B C) (2 * (A * C)) (v * v) ∙ ap (λ (t : ℕ). rise A B C * (v * v) + t) (mul_assoc 2 (A * C) (v * v)))) in
      let d : rise A B C * (v * v) ≤ rise A B C * (h * h) = mul-le-mul_left (rise A B C) (mul-le-mul l l) in
      omega (arith, opened)

  lower : A * A + 2 * (A * B) * v ≤ Z * Z + fall A B C h * (h * h)
  lower =
      let g : Z ≤ A + B * h = let b : B * v ≤ B * h = mul-le-mul_left B l in omega (arith, e) in
      let a : Z * C * (v * v) ≤ (A + B * h) * C * (v * v) = mul-le-mul_right (v * v) (mul-le-mul_right C g) in
      let k : C * v ≤ C * h = mul-le-mul_left C l in
      let m : C * v * (C * v) * (v * v) ≤ C * h * (C * h) * (v * v) = mul-le-mul_right (v * v) (mul-le-mul k k) in
      let b : 2 * ((A + B * h) * C) + C * h * (C * h) ≤ fall A B C h + B * B = omega arith in
      let c : 2 * ((A + B * h) * C * (v * v)) + C * h * (C * h) * (v * v) ≤ fall A B C h * (v * v) + B * B * (v * v) =
      le_trans (le_of_eq (ap (λ (t : ℕ). t + C * h * (C * h) * (v * v)) (sym (mul_assoc 2 ((A + B * h) * C) (v * v))) ∙ sym (add-mul (2 * ((A + B * h) * C)) (C * h * (C * h)) (v * v)))) (le_trans (mul-le-mul_right (v * v) b) (le_of_eq (add-mul (fall A B C h) (B * B) (v * v)))) in
      let d : fall A B C h * (v * v) ≤ fall A B C h * (h * h) = mul-le-mul_left (fall A B C h) (mul-le-mul l l) in
      omega (arith, opened)

joined-above : (U G D a r E F h v z : ℕ) → v ≤ h → (a + r) * D ≤ U * F * G → (a + E * h + r) * D ≤ U * (F + h) * G → z ≤ a + r + E * v → z * D ≤ U * (F + v) * G
joined-above U G D a r E F h v z l p q b =
    let p' : (a + r) * D ≤ U * G * F = le_trans p (le_of_eq (mul_right_comm U F G)) in
    let s : (a + E * h + r) * D ≡ (a + r) * D + E * D * h = simp (add-mul, mul_right_comm E h D, add_assoc, add_comm, add_left_comm) in
    let q' : (a + r) * D + E * D * h ≤ U * G * (F + h) = le_trans (le_of_eq (sym s)) (le_trans q (le_of_eq (mul_right_comm U (F + h) G))) in
    let c : z * D ≤ (a + r) * D + E * D * v = le_trans (mul-le-mul_right D b) (le_of_eq (add-mul (a + r) (E * v) D ∙ ap (λ (t : ℕ). (a + r) * D + t) (mul_right_comm E v D))) in
    le_trans c (le_trans (line-above ((a + r) * D) (E * D) (U * G) F h v l p' q') (le_of_eq (mul_right_comm U G (F + v))))

joined-below : (U G D a f E F h v z : ℕ) → v ≤ h → U * F * G + f * D ≤ a * D → U * (F + h) * G + f * D ≤ (a + E * h) * D → a + E * v ≤ z + f → U * (F + v) * G ≤ z * D
joined-below U G D a f E F h v z l p q b =
    let k : U * F * G ≡ U * G * F = mul_right_comm U F G in
    let kh : U * (F + h) * G ≡ U * G * (F + h) = mul_right_comm U (F + h) G in
    let s : (a + E * h) * D ≡ a * D + E * D * h = add-mul a (E * h) D ∙ ap (λ (t : ℕ). a * D + t) (mul_right_comm E h D) in
    let p' : U * G * F ≤ a * D - f * D = omega arith in
    let q' : U * G * (F + h) ≤ a * D - f * D + E * D * h = omega arith in
    let c : a * D + E * D * v ≤ z * D + f * D =
    le_trans (le_of_eq (sym (add-mul a (E * v) D ∙ ap (λ (t : ℕ). a * D + t) (mul_right_comm E v D)))) (le_trans (mul-le-mul_right D b) (le_of_eq (add-mul z f D))) in
    let m = line-below (a * D - f * D) (E * D) (U * G) F h v l p' q' in
    let kv : U * (F + v) * G ≡ U * G * (F + v) = mul_right_comm U (F + v) G in
    omega arith

-- Z * Z / 2 ^ 324 is F / 2 ^ 52 to the accuracy
abbrev pub Accurate : ℕ → ℕ → Type 0
Accurate Z F = (least * F * scale ≤ Z * Z * parts) × (Z * Z * parts ≤ most * F * scale)

on-part : (A B C F h v Z : ℕ) → T (on_part A B C F h) → v ≤ h → Z + C * (v * v) ≡ A + B * v → Accurate Z (F + v)
on-part A B C F h v Z t l e =
    let a = A * A in
    let E = 2 * (A * B) in
    let r = rise A B C * (h * h) in
    let f = fall A B C h * (h * h) in
    let t1 = and_r (leb (C * h) B) _ t in
    let t2 = and_r (leb ((a + r) * parts) (most * F * scale)) _ t1 in
    let t3 = and_r (leb ((a + E * h + r) * parts) (most * (F + h) * scale)) _ t2 in
    let t4 = and_r (leb (least * F * scale + f * parts) (a * parts)) _ t3 in
    let s : C * h ≤ B = leb→le (C * h) B (and_l (leb (C * h) B) _ t) in (
      joined-below least scale parts a f E F h v (Z * Z) l
          (leb→le (least * F * scale + f * parts) (a * parts) (and_l (leb (least * F * scale + f * parts) (a * parts)) _ t3))
          (leb→le (least * (F + h) * scale + f * parts) ((a + E * h) * parts) t4)
          (lower A B C h v Z l s e),
      joined-above most scale parts a r E F h v (Z * Z) l
          (leb→le ((a + r) * parts) (most * F * scale) (and_l (leb ((a + r) * parts) (most * F * scale)) _ t1))
          (leb→le ((a + E * h + r) * parts) (most * (F + h) * scale) (and_l (leb ((a + E * h + r) * parts) (most * (F + h) * scale)) _ t2))
          (upper A B C h v Z l s e),
    )

-- from the piece's own quadratic, P + Q x - C x x, to that of the part that starts at a
shifted : (P Q C a v Z : ℕ) → C * a * a ≤ P + Q * a → 2 * (C * a) ≤ Q → Z + C * ((a + v) * (a + v)) ≡ P + Q * (a + v) → Z + C * (v * v) ≡ P + Q * a - C * a * a + (Q - 2 * (C * a)) * v
shifted P Q C a v Z h k e =
    let B = Q - 2 * (C * a) in
    let q : Q ≡ B + 2 * (C * a) = omega arith in
    let x : Q * v ≡ B * v + 2 * (C * a * v) = ap (λ (t : ℕ). t * v) q ∙ add-mul B (2 * (C * a)) v ∙ ap (λ (t : ℕ). B * v + t) (mul_assoc 2 (C * a) v) in
    let y : C * ((a + v) * (a + v)) ≡ C * a * a + 2 * (C * a * v) + C * (v * v) = ap (λ (t : ℕ). C * t) (square-sum a v) ∙ simp (mul-add, mul_assoc, mul_comm, mul_left_comm) in
    let z : Q * (a + v) ≡ Q * a + Q * v = mul-add Q a v in
    omega arith

all-parts : (n P Q C L h x Z : ℕ) → T (all_parts n P Q C L h) → x < n * h → Z + C * (x * x) ≡ P + Q * x → Accurate Z (L + x)
all-parts zero P Q C L h x Z t u e = absurd (not-below x (lt_of_lt_of_le u (le_of_eq (zero-mul h))))
  where
    not-below : (y : ℕ) → y < 0 → ⊥
    not-below y k = omega arith
all-parts (suc n) P Q C L h x Z t u e =
    elim (which x (n * h)) [
      | inl k ↦ all-parts n P Q C L h x Z (and_r (at_part P Q C L h n) (all_parts n P Q C L h) t) k e
      | inr k ↦
          let a = n * h in
          let v = x - a in
          let w : a + v ≡ x = omega arith in
          let s : suc n * h ≡ n * h + h = suc-mul n h in
          let t0 = and_l (at_part P Q C L h n) (all_parts n P Q C L h) t in
          let t1 = and_r (leb (C * a * a) (P + Q * a)) _ t0 in
          let b : C * a * a ≤ P + Q * a = leb→le (C * a * a) (P + Q * a) (and_l (leb (C * a * a) (P + Q * a)) _ t0) in
          let c : 2 * (C * a) ≤ Q = leb→le (2 * (C * a)) Q (and_l (leb (2 * (C * a)) Q) _ t1) in
          let e' : Z + C * ((a + v) * (a + v)) ≡ P + Q * (a + v) = subst (λ (y : ℕ). Z + C * (y * y) ≡ P + Q * y) (sym w) e in
          subst (Accurate Z) (add_assoc L a v ∙ ap (λ (y : ℕ). L + y) w)
          (on-part (P + Q * a - C * a * a) (Q - 2 * (C * a)) C (L + a) h v Z (and_r (leb (2 * (C * a)) Q) _ t1) (omega arith) (shifted P Q C a v Z b c e'))
    ]

-- ---- what the sweep says of the piece i
pub record Whole (x : Float) (k A B : ℕ) : Type 0 where
  pub value : HasValue x false (whole_at x k) (2 ^ k)
  pub low : A ≤ whole_at x k
  pub high : whole_at x k ≤ B

is-whole : (x : Float) (k A B : ℕ) → T (is_whole x k A B) → Whole x k A B
is-whole x k A B t =
    let n = whole_at x k in
    let p = and_l (positive x) _ t in
    let t1 = and_r (positive x) _ t in
    let t2 = and_r (eqb (num x * 2 ^ k) (n * den x)) _ t1 in
    record {
      value = value_same x false (num x) (den x) n (2 ^ k) (den_pos x) (eqb→eq (num x * 2 ^ k) (n * den x) (and_l (eqb (num x * 2 ^ k) (n * den x)) _ t1)) (own_value x p);
      low = leb→le A n (and_l (leb A n) (leb n B) t2);
      high = leb→le n B (and_r (leb A n) (leb n B) t2);
    }

pub record Piece (i : ℕ) (x y z : Float) : Type 0 where
  pub constant : Whole x 52 (2 ^ 52) (2 ^ 53)
  pub slope : Whole y 54 0 (2 ^ 53)
  pub bend : Whole z 58 0 (2 ^ 55)
  pub close : (d Z : ℕ) → d < 16 * part_of i → Z + whole_at z 58 * (d * d) ≡ whole_at x 52 * 2 ^ 110 + whole_at y 54 * 2 ^ 56 * d → Accurate Z (left_of i + d)

is-piece : (i : ℕ) (x y z : Float) → T (piece i x y z) → Piece i x y z
is-piece i x y z t =
    let t1 = and_r (is_whole x 52 (2 ^ 52) (2 ^ 53)) _ t in
    let t2 = and_r (is_whole y 54 0 (2 ^ 53)) _ t1 in
    record {
      constant = is-whole x 52 (2 ^ 52) (2 ^ 53) (and_l (is_whole x 52 (2 ^ 52) (2 ^ 53)) _ t);
      slope = is-whole y 54 0 (2 ^ 53) (and_l (is_whole y 54 0 (2 ^ 53)) _ t1);
      bend = is-whole z 58 0 (2 ^ 55) (and_l (is_whole z 58 0 (2 ^ 55)) _ t2);
      close = λ d Z u e. all-parts 16 (whole_at x 52 * 2 ^ 110) (whole_at y 54 * 2 ^ 56) (whole_at z 58) (left_of i) (part_of i) d Z (and_r (is_whole z 58 0 (2 ^ 55)) _ t2) u e;
    }

from : (i : ℕ) (xs ys zs : List Float) → T (pieces i xs ys zs) → (j : ℕ) → j < length xs → Piece (i + j) (get_or xs j nan) (get_or ys j nan) (get_or zs j nan)
from i [] ys zs t j h = absurd (not-suc-le-zero h)
from i (x ∷ xs) [] zs t j h = absurd t
from i (x ∷ xs) (y ∷ ys) [] t j h = absurd t
from i (x ∷ xs) (y ∷ ys) (z ∷ zs) t zero h = subst (λ (m : ℕ). Piece m x y z) (sym (add-zero i)) (is-piece i x y z (and_l (piece i x y z) (pieces (suc i) xs ys zs) t))
from i (x ∷ xs) (y ∷ ys) (z ∷ zs) t (suc j) h =
    subst (λ (m : ℕ). Piece m (get_or xs j nan) (get_or ys j nan) (get_or zs j nan)) (suc-add i j ∙ sym (add-suc i j))
    (from (suc i) xs ys zs (and_r (piece i x y z) (pieces (suc i) xs ys zs) t) j (le_of_suc-le-suc h))

many : length constants ≡ 128
unfolding constants
many = refl

pub piece-at : (i : ℕ) → i < 128 → Piece i (get_or constants i nan) (get_or slopes i nan) (get_or bends i nan)
piece-at i h =
    subst (λ (m : ℕ). Piece m (get_or constants i nan) (get_or slopes i nan) (get_or bends i nan)) (zero-add i)
    (from 0 constants slopes bends swept i (lt_of_lt_of_le h (le_of_eq (sym many))))
