-- The absolute error in a fixed unit: `Off K z P E` says that the finite z, with no minus sign, is P / K to within E / K. What one rounding, a sum, a difference and a product add to it. Assumes nothing.
use mathlib.Core.Path.{◌≡◌, sym, ap, ◌∙◌, subst}
use mathlib.Core.Bool.{false}
use Prim.Native.Nat.{ℕ, suc, ◌+◌, ◌-◌, ◌*◌, ◌^◌, ◌≤◌, ◌<◌}
use native.Mathlib.Nat.{le_trans, le_of_eq, mul-one, mul_assoc, mul_comm, mul_left_comm, mul_right_comm, add-mul, mul-pos, mul-le-mul_left, mul-le-mul_right, le_of_mul-le-mul_right, eq_of_mul-eq-mul_right, mul-sub}
use native.Mathlib.Omega.{arith}
use lib.Dec.{T}
use lib.Pow.{pow_pos}
use lib.Ieee.{Float, binary64, round, add, sub, mul}
use lib.Ieee.Exact.{HasValue}
use lib.Ieee.Positive.{num, den, den_pos, value→cross}
use lib.Ieee.Scale.{finite}
use Rattle.laws.proofs.Relative.{largest, nonnegative, nonnegative-value, nonnegative-of-value, round-finite, round-half, round-nonnegative, add-round, sub-round}
use Rattle.laws.proofs.Power.{mul-value}

-- a fraction a / c against P / K
pub record Offset (K a c P E : ℕ) : Type 0 where
  pub above : a * K ≤ (P + E) * c
  pub below : P * c ≤ a * K + E * c

pub record Off (K : ℕ) (z : Float) (P E : ℕ) : Type 0 where
  pub bare : T (nonnegative z)
  pub near : Offset K (num z) (den z) P E

-- ---- fractions
offset-exact : (K a c P : ℕ) → a * K ≡ P * c → Offset K a c P 0
offset-exact K a c P e = record { above = le_trans (le_of_eq e) (mul-le-mul_right c (omega arith)); below = le_trans (le_of_eq (sym e)) (omega arith) }

offset-more : {K a c P E : ℕ} (E' : ℕ) → E ≤ E' → Offset K a c P E → Offset K a c P E'
offset-more {K} {a} {c} {P} {E} E' h o =
    let m : E * c ≤ E' * c = mul-le-mul_right c h in
    record {
      above = le_trans o.above (mul-le-mul_right c (omega arith));
      below = le_trans o.below (omega arith);
    }

offset-add : {K a c P E a' c' P' E' : ℕ} → Offset K a c P E → Offset K a' c' P' E' → Offset K (a * c' + a' * c) (c * c') (P + P') (E + E')
offset-add {K} {a} {c} {P} {E} {a'} {c'} {P'} {E'} o o' =
    let s : (a * c' + a' * c) * K ≡ a * K * c' + a' * K * c = add-mul (a * c') (a' * c) K ∙ simp (mul_right_comm a c' K, mul_right_comm a' c K) in
    let x : a * K * c' ≤ (P + E) * c * c' = mul-le-mul_right c' o.above in
    let y : a' * K * c ≤ (P' + E') * c' * c = mul-le-mul_right c o'.above in
    let u : P * c * c' ≤ (a * K + E * c) * c' = mul-le-mul_right c' o.below in
    let v : P' * c' * c ≤ (a' * K + E' * c') * c = mul-le-mul_right c o'.below in
    let x' : (P + E) * c * c' ≡ P * (c * c') + E * (c * c') = mul_assoc (P + E) c c' ∙ add-mul P E (c * c') in
    let y' : (P' + E') * c' * c ≡ P' * (c * c') + E' * (c * c') = mul_assoc (P' + E') c' c ∙ ap (λ (t : ℕ). (P' + E') * t) (mul_comm c' c) ∙ add-mul P' E' (c * c') in
    let u' : (a * K + E * c) * c' ≡ a * K * c' + E * (c * c') = add-mul (a * K) (E * c) c' ∙ ap (λ (t : ℕ). a * K * c' + t) (mul_assoc E c c') in
    let v' : (a' * K + E' * c') * c ≡ a' * K * c + E' * (c * c') = add-mul (a' * K) (E' * c') c ∙ ap (λ (t : ℕ). a' * K * c + t) (mul_assoc E' c' c ∙ ap (λ (t : ℕ). E' * t) (mul_comm c' c)) in
    let p : P * c * c' ≡ P * (c * c') = mul_assoc P c c' in
    let q : P' * c' * c ≡ P' * (c * c') = mul_assoc P' c' c ∙ ap (λ (t : ℕ). P' * t) (mul_comm c' c) in
    let g : (P + P' + (E + E')) * (c * c') ≡ P * (c * c') + P' * (c * c') + (E * (c * c') + E' * (c * c')) =
    add-mul (P + P') (E + E') (c * c') ∙ simp (add-mul P P' (c * c'), add-mul E E' (c * c')) in
    let h : (P + P') * (c * c') ≡ P * (c * c') + P' * (c * c') = add-mul P P' (c * c') in
    let k : (E + E') * (c * c') ≡ E * (c * c') + E' * (c * c') = add-mul E E' (c * c') in
    record { above = omega arith; below = omega arith }

offset-sub : {K a c P E a' c' P' E' : ℕ} → P' ≤ P → a' * c ≤ a * c' → Offset K a c P E → Offset K a' c' P' E' → Offset K (a * c' - a' * c) (c * c') (P - P') (E + E')
offset-sub {K} {a} {c} {P} {E} {a'} {c'} {P'} {E'} l m o o' =
    let R = P - P' in
    let r : P ≡ R + P' = omega arith in
    let s : (a * c' - a' * c) * K ≡ a * K * c' - a' * K * c =
    mul_comm (a * c' - a' * c) K ∙ mul-sub K (a * c') (a' * c) ∙ ap (λ (t : ℕ). t - K * (a' * c)) (simp (mul_assoc, mul_comm, mul_left_comm)) ∙ ap (λ (t : ℕ). a * K * c' - t) (simp (mul_assoc, mul_comm, mul_left_comm)) in
    let M : a' * K * c ≤ a * K * c' = le_trans (le_of_eq (mul_right_comm a' K c)) (le_trans (mul-le-mul_right K m) (le_of_eq (mul_right_comm a c' K))) in
    let x : a * K * c' ≤ (P + E) * c * c' = mul-le-mul_right c' o.above in
    let y : a' * K * c ≤ (P' + E') * c' * c = mul-le-mul_right c o'.above in
    let u : P * c * c' ≤ (a * K + E * c) * c' = mul-le-mul_right c' o.below in
    let v : P' * c' * c ≤ (a' * K + E' * c') * c = mul-le-mul_right c o'.below in
    let x' : (P + E) * c * c' ≡ P * (c * c') + E * (c * c') = mul_assoc (P + E) c c' ∙ add-mul P E (c * c') in
    let y' : (P' + E') * c' * c ≡ P' * (c * c') + E' * (c * c') = mul_assoc (P' + E') c' c ∙ ap (λ (t : ℕ). (P' + E') * t) (mul_comm c' c) ∙ add-mul P' E' (c * c') in
    let u' : (a * K + E * c) * c' ≡ a * K * c' + E * (c * c') = add-mul (a * K) (E * c) c' ∙ ap (λ (t : ℕ). a * K * c' + t) (mul_assoc E c c') in
    let v' : (a' * K + E' * c') * c ≡ a' * K * c + E' * (c * c') = add-mul (a' * K) (E' * c') c ∙ ap (λ (t : ℕ). a' * K * c + t) (mul_assoc E' c' c ∙ ap (λ (t : ℕ). E' * t) (mul_comm c' c)) in
    let p : P * c * c' ≡ P * (c * c') = mul_assoc P c c' in
    let q : P' * c' * c ≡ P' * (c * c') = mul_assoc P' c' c ∙ ap (λ (t : ℕ). P' * t) (mul_comm c' c) in
    let w : P * (c * c') ≡ R * (c * c') + P' * (c * c') = ap (λ (t : ℕ). t * (c * c')) r ∙ add-mul R P' (c * c') in
    let g : (R + (E + E')) * (c * c') ≡ R * (c * c') + (E * (c * c') + E' * (c * c')) = add-mul R (E + E') (c * c') ∙ ap (λ (t : ℕ). R * (c * c') + t) (add-mul E E' (c * c')) in
    let k : (E + E') * (c * c') ≡ E * (c * c') + E' * (c * c') = add-mul E E' (c * c') in
    record { above = omega arith; below = omega arith }

-- times x / Q: P x is a whole number of Q, and the error no more than was
offset-scale : {K a c P E : ℕ} (x Q R : ℕ) → P * x ≡ R * Q → x ≤ Q → Offset K a c P E → Offset K (a * x) (c * Q) R E
offset-scale {K} {a} {c} {P} {E} x Q R e l o =
    let y : a * x * K ≤ (P + E) * c * x = le_trans (le_of_eq (mul_right_comm a x K)) (mul-le-mul_right x o.above) in
    let z : P * c * x ≤ (a * K + E * c) * x = mul-le-mul_right x o.below in
    let f : E * c * x ≤ E * (c * Q) = le_trans (mul-le-mul_left (E * c) l) (le_of_eq (mul_assoc E c Q)) in
    let y' : (P + E) * c * x ≡ R * (c * Q) + E * c * x =
    ap (λ (t : ℕ). t * x) (add-mul P E c) ∙ add-mul (P * c) (E * c) x ∙ ap (λ (t : ℕ). t + E * c * x) (mul_right_comm P c x ∙ ap (λ (t : ℕ). t * c) e ∙ mul_right_comm R Q c ∙ mul_assoc R c Q) in
    let z' : P * c * x ≡ R * (c * Q) = mul_right_comm P c x ∙ ap (λ (t : ℕ). t * c) e ∙ mul_right_comm R Q c ∙ mul_assoc R c Q in
    let w : (a * K + E * c) * x ≡ a * x * K + E * c * x = add-mul (a * K) (E * c) x ∙ ap (λ (t : ℕ). t + E * c * x) (mul_right_comm a K x) in
    let g : (R + E) * (c * Q) ≡ R * (c * Q) + E * (c * Q) = add-mul R E (c * Q) in
    record { above = omega arith; below = omega arith }

-- a fraction n / m within t / S of a / c
offset_near : (K n m a c P E H S t : ℕ) → 0 < c → 0 < S → n * c * S ≤ a * m * S + t * (m * c) → a * m * S ≤ n * c * S + t * (m * c) → t * K ≤ H * S → Offset K a c P E → Offset K n m P (E + H)
offset_near K n m a c P E H S t C G u v h o =
    let w = m * (c * S) in
    let x : n * K * (c * S) ≤ a * K * (m * S) + t * K * (m * c) =
    le_trans (le_of_eq (simp (mul_assoc, mul_comm, mul_left_comm))) (le_trans (mul-le-mul_right K u) (le_of_eq (add-mul (a * m * S) (t * (m * c)) K ∙ simp (mul_assoc, mul_comm, mul_left_comm)))) in
    let y : a * K * (m * S) ≤ n * K * (c * S) + t * K * (m * c) =
    le_trans (le_of_eq (simp (mul_assoc, mul_comm, mul_left_comm))) (le_trans (mul-le-mul_right K v) (le_of_eq (add-mul (n * c * S) (t * (m * c)) K ∙ simp (mul_assoc, mul_comm, mul_left_comm)))) in
    let g : t * K * (m * c) ≤ H * w = le_trans (mul-le-mul_right (m * c) h) (le_of_eq (simp (mul_assoc, mul_comm, mul_left_comm))) in
    let a1 : a * K * (m * S) ≤ P * w + E * w =
    le_trans (mul-le-mul_right (m * S) o.above) (le_of_eq (ap (λ (r : ℕ). r * (m * S)) (add-mul P E c) ∙ add-mul (P * c) (E * c) (m * S) ∙ simp (mul_assoc, mul_comm, mul_left_comm))) in
    let b1 : P * w ≤ a * K * (m * S) + E * w =
    le_trans (le_of_eq (simp (mul_assoc, mul_comm, mul_left_comm))) (le_trans (mul-le-mul_right (m * S) o.below) (le_of_eq (add-mul (a * K) (E * c) (m * S) ∙ simp (mul_assoc, mul_comm, mul_left_comm)))) in
    let s : (P + (E + H)) * m * (c * S) ≡ P * w + (E * w + H * w) = mul_assoc (P + (E + H)) m (c * S) ∙ add-mul P (E + H) w ∙ ap (λ (r : ℕ). P * w + r) (add-mul E H w) in
    let r : (n * K + (E + H) * m) * (c * S) ≡ n * K * (c * S) + (E * w + H * w) =
    add-mul (n * K) ((E + H) * m) (c * S) ∙ ap (λ (q : ℕ). n * K * (c * S) + q) (mul_assoc (E + H) m (c * S) ∙ add-mul E H w) in
    let p : P * m * (c * S) ≡ P * w = mul_assoc P m (c * S) in
    let above' : n * K * (c * S) ≤ (P + (E + H)) * m * (c * S) = omega arith in
    let below' : P * m * (c * S) ≤ (n * K + (E + H) * m) * (c * S) = omega arith in
    record { above = le_of_mul-le-mul_right above' (mul-pos C G); below = le_of_mul-le-mul_right below' (mul-pos C G) }

-- ---- one rounding of a fraction up to 2 ^ (e + 1 - s), which adds 2 ^ (e - 53 - s), that is H / K
off-round : {K a c P E : ℕ} (z : Float) (e s H : ℕ) → z ≡ round binary64 false a c → 0 < c → 0 < K → Offset K a c P E → (P + E) * 2 ^ s ≤ 2 ^ suc e * K → 53 + s ≤ 1074 + suc e → 2 ^ suc e ≤ largest binary64 → 2 ^ e * K ≤ H * 2 ^ (53 + s)
    → Off K z P (E + H)
off-round {K} {a} {c} {P} {E} z e s H q C k o l d b h =
    let under : a * 2 ^ s ≤ 2 ^ suc e * c =
    le_of_mul-le-mul_right
    (le_trans (le_of_eq (mul_right_comm a (2 ^ s) K))
    (le_trans (mul-le-mul_right (2 ^ s) o.above)
    (le_trans (le_of_eq (mul_right_comm (P + E) c (2 ^ s))) (le_trans (mul-le-mul_right c l) (le_of_eq (mul_right_comm (2 ^ suc e) K c))))))
    k in
    let small : a ≤ largest binary64 * c = le_trans (le_trans (le_of_eq (sym (mul-one a))) (le_trans (mul-le-mul_left a (pow_pos s)) under)) (mul-le-mul_right c b) in
    let F : T (finite z) = subst (λ (y : Float). T (finite y)) (sym q) (round-finite binary64 a c C small) in
    let N = round-half binary64 a c e s z C d under q F in
    record {
      bare = round-nonnegative binary64 a c z q F;
      near = offset_near K (num z) (den z) a c P E H (2 ^ (53 + s)) (2 ^ e) C (pow_pos (53 + s)) N.above N.below h o;
    }

-- ---- the operations: e, s and H as above
pub off-value : (K : ℕ) (z : Float) (a c P : ℕ) → 0 < c → HasValue z false a c → a * K ≡ P * c → Off K z P 0
off-value K z a c P C v e =
    record {
      bare = nonnegative-of-value z a c v;
      near = offset-exact K (num z) (den z) P
          (eq_of_mul-eq-mul_right c C (num z * K) (P * den z) (mul_right_comm (num z) K c ∙ ap (λ (t : ℕ). t * K) (value→cross z a c v) ∙ mul_right_comm a (den z) K ∙ ap (λ (t : ℕ). t * den z) e ∙ mul_right_comm P c (den z)));
    }

pub off-more : {K P E : ℕ} {z : Float} (E' : ℕ) → E ≤ E' → Off K z P E → Off K z P E'
off-more E' h o = record { bare = o.bare; near = offset-more E' h o.near }

pub off-add : {K P E P' E' : ℕ} (x y : Float) (e s H : ℕ) → 0 < K → Off K x P E → Off K y P' E' → (P + P' + (E + E')) * 2 ^ s ≤ 2 ^ suc e * K → 53 + s ≤ 1074 + suc e → 2 ^ suc e ≤ largest binary64 → 2 ^ e * K ≤ H * 2 ^ (53 + s)
    → Off K (add binary64 x y) (P + P') (E + E' + H)
off-add x y e s H k o o' l d b h =
    off-round (add binary64 x y) e s H (add-round binary64 x y o.bare o'.bare) (mul-pos (den_pos x) (den_pos y)) k (offset-add o.near o'.near) l d b h

-- the difference of what is no smaller, even with the errors
apart : {K a c P E a' c' P' E' : ℕ} → 0 < K → P' + E' + E ≤ P → Offset K a c P E → Offset K a' c' P' E' → a' * c ≤ a * c'
apart {K} {a} {c} {P} {E} {a'} {c'} {P'} {E'} k l o o' =
    let q = c * c' in
    let x : a' * c * K ≤ (P' + E') * q = le_trans (le_of_eq (mul_right_comm a' c K)) (le_trans (mul-le-mul_right c o'.above) (le_of_eq (mul_assoc (P' + E') c' c ∙ ap (λ (t : ℕ). (P' + E') * t) (mul_comm c' c)))) in
    let y : P * q ≤ a * c' * K + E * q =
    le_trans (le_of_eq (sym (mul_assoc P c c'))) (le_trans (mul-le-mul_right c' o.below) (le_of_eq (add-mul (a * K) (E * c) c' ∙ simp (mul_right_comm a K c', mul_assoc E c c')))) in
    let z : (P' + E') * q + E * q ≤ P * q = le_trans (le_of_eq (sym (add-mul (P' + E') E q))) (mul-le-mul_right q l) in
    le_of_mul-le-mul_right {k = K} (omega arith) k

pub off-sub : {K P E P' E' : ℕ} (x y : Float) (e s H : ℕ) → 0 < K → Off K x P E → Off K y P' E' → P' + E' + E ≤ P → (P - P' + (E + E')) * 2 ^ s ≤ 2 ^ suc e * K → 53 + s ≤ 1074 + suc e → 2 ^ suc e ≤ largest binary64 → 2 ^ e * K ≤ H * 2 ^ (53 + s)
    → Off K (sub binary64 x y) (P - P') (E + E' + H)
off-sub x y e s H k o o' m l d b h =
    let g = apart k m o.near o'.near in
    off-round (sub binary64 x y) e s H (sub-round binary64 x y o.bare o'.bare g) (mul-pos (den_pos x) (den_pos y)) k (offset-sub (le_trans (omega arith) m) g o.near o'.near) l d b h

-- the product with a y that is x / Q
pub off-mul : {K P E : ℕ} (z y : Float) (x Q R : ℕ) (e s H : ℕ) → 0 < K → 0 < Q → Off K z P E → HasValue y false x Q → P * x ≡ R * Q → x ≤ Q → (R + E) * 2 ^ s ≤ 2 ^ suc e * K → 53 + s ≤ 1074 + suc e → 2 ^ suc e ≤ largest binary64 → 2 ^ e * K ≤ H * 2 ^ (53 + s)
    → Off K (mul binary64 z y) R (E + H)
off-mul z y x Q R e s H k q o v f m l d b h =
    off-round (mul binary64 z y) e s H (mul-value binary64 z y false false (num z) (den z) x Q (den_pos z) q (nonnegative-value z o.bare) v) (mul-pos (den_pos z) q) k (offset-scale x Q R f m o.near) l d b h
