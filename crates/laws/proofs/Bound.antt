-- One-sided bounds by fractions, for sums whose terms fall: `Up z a c` says that z is finite, has no minus sign, and is a / c at most; `Lo z a c` that z has no minus sign and is a / c at least, an infinity included.
-- A result is compared, by monotone rounding, with a chosen fraction p / q in the normal range, so it may itself underflow. The slack of one operation is one part in 2 ^ prec.
-- The laws that end in -by are for a known fraction k / m times an unknown S / W: what they ask of the known part is one computed test, so that `tt` proves it. Assumes nothing.
use mathlib.Core.Path.{◌≡◌, refl, sym, ap, ◌∙◌, subst}
use mathlib.Core.Logic.{inl, inr}
use mathlib.Core.Bool.{Bool, true, false, not, ◌&&◌}
use Prim.Native.Nat.{ℕ, zero, suc, ◌+◌, ◌-◌, ◌*◌, ◌^◌, ◌≤◌, ◌<◌}
use native.Mathlib.Nat.{suc_inj, one-mul, mul-mul-mul_comm, zero-lt-suc, sub-le, le_refl, le_trans, le_of_eq, lt_of_lt_of_le, lt_irrefl, le_of_suc-le-suc, not-suc-le-zero, eq-or-lt_of_le, eq-zero-or-pos, mul-one, mul_comm, mul-pos, mul-le-mul, mul-le-mul_left, mul-le-mul_right, le_of_mul-le-mul_right, mul-lt-mul_of_pos_right, lt_of_mul-lt-mul_right}
use native.Mathlib.Omega.{arith}
use lib.IntN.{ℤ}
use lib.Dec.{T, leb, ltb, eqb, leb→le, ltb→lt, lt→ltb, eqb→eq, lit<, lit≤}
use lib.Arith.{le→nltb}
use lib.Pow.{pow_pos, pow-add}
use lib.Ieee.{Float, nan, inf, fin, Format, binary32, binary64, prec, emax, up, down, round, add, mul, div, le, lt}
use lib.Ieee.Fits.{up_pos, down_pos, and_l, and_r}
use lib.Ieee.Order.{round_mono, le_of_values}
use lib.Ieee.Scale.{finite}
use lib.Ieee.Positive.{num, den, positive, above, above_of_le, le→cross, den_pos, first_pos, through}
use Rattle.laws.proofs.Relative.{Rat, Normal, largest, nonnegative, nonnegative-finite, nonnegative-value, positive-nonnegative, positive-of-num, round-nonnegative, round-shape, round-below, round-finite, round-close, ones_pos, mul-round, add-round, div-round}

abbrev pub AtLeast : Float → ℕ → ℕ → Type 0
AtLeast nan a c = ⊥
AtLeast (inf s) a c = T (not s)
AtLeast (fin true m e) a c = ⊥
AtLeast (fin false m e) a c = a * down e ≤ m * up e * c

pub record Up (z : Float) (a c : ℕ) : Type 0 where
  pub sign : T (nonnegative z)
  pub over : 0 < c
  pub bound : num z * c ≤ a * den z

pub record Lo (z : Float) (a c : ℕ) : Type 0 where
  pub over : 0 < c
  pub bound : AtLeast z a c

-- ---- bounds that hold at once
pub up_of : (x : Float) → T (nonnegative x) → Up x (num x) (den x)
up_of x p = record { sign = p; over = den_pos x; bound = le_refl (num x * den x) }

at_least : (x : Float) (a c : ℕ) → T (nonnegative x) → a * den x ≤ num x * c → AtLeast x a c
at_least nan a c p h = p
at_least (inf s) a c p h = absurd p
at_least (fin true m e) a c p h = p
at_least (fin false m e) a c p h = h

pub lo-of : (x : Float) → T (nonnegative x) → Lo x (num x) (den x)
lo-of x p = record { over = den_pos x; bound = at_least x (num x) (den x) p (le_refl (num x * den x)) }

pub lo_at : (x : Float) (a c : ℕ) → T (nonnegative x) → 0 < c → a * den x ≤ num x * c → Lo x a c
lo_at x a c p C h = record { over = C; bound = at_least x a c p h }

-- a literal's bounds, by one test: `up-test z a c tt`
pub up-test : (z : Float) (a c : ℕ) → T (nonnegative z && (ltb 0 c && leb (num z * c) (a * den z))) → Up z a c
up-test z a c t =
    let u = and_r (nonnegative z) (ltb 0 c && leb (num z * c) (a * den z)) t in
    record {
      sign = and_l (nonnegative z) (ltb 0 c && leb (num z * c) (a * den z)) t;
      over = ltb→lt 0 c (and_l (ltb 0 c) (leb (num z * c) (a * den z)) u);
      bound = leb→le (num z * c) (a * den z) (and_r (ltb 0 c) (leb (num z * c) (a * den z)) u);
    }

pub lo-test : (z : Float) (a c : ℕ) → T (nonnegative z && (ltb 0 c && leb (a * den z) (num z * c))) → Lo z a c
lo-test z a c t =
    let u = and_r (nonnegative z) (ltb 0 c && leb (a * den z) (num z * c)) t in
    lo_at z a c (and_l (nonnegative z) (ltb 0 c && leb (a * den z) (num z * c)) t) (ltb→lt 0 c (and_l (ltb 0 c) (leb (a * den z) (num z * c)) u)) (leb→le (a * den z) (num z * c) (and_r (ltb 0 c) (leb (a * den z) (num z * c)) u))

pub up-weaken : {z : Float} {a c : ℕ} (a' c' : ℕ) → 0 < c' → a * c' ≤ a' * c → Up z a c → Up z a' c'
up-weaken {z} {a} {c} a' c' C h r = record { sign = r.sign; over = C; bound = through (num z) a a' (den z) c c' r.over r.bound h }

weaker : (z : Float) (a c a' c' : ℕ) → 0 < c → a' * c ≤ a * c' → AtLeast z a c → AtLeast z a' c'
weaker nan a c a' c' C h b = b
weaker (inf s) a c a' c' C h b = b
weaker (fin true m e) a c a' c' C h b = b
weaker (fin false m e) a c a' c' C h b = through a' a (m * up e) c' c (down e) C h b

pub lo-weaken : {z : Float} {a c : ℕ} (a' c' : ℕ) → 0 < c' → a' * c ≤ a * c' → Lo z a c → Lo z a' c'
lo-weaken {z} {a} {c} a' c' C h r = record { over = C; bound = weaker z a c a' c' r.over h r.bound }

-- ---- what a bound says
pub up-finite : {z : Float} {a c : ℕ} → Up z a c → T (finite z)
up-finite {z} r = nonnegative-finite z r.sign

lo-sign : (z : Float) (a c : ℕ) → AtLeast z a c → T (finite z) → T (nonnegative z)
lo-sign nan a c b t = b
lo-sign (inf s) a c b t = t
lo-sign (fin true m e) a c b t = b
lo-sign (fin false m e) a c b t = tt

pub lo-nonnegative : {z : Float} {a c : ℕ} → Lo z a c → T (finite z) → T (nonnegative z)
lo-nonnegative {z} {a} {c} r t = lo-sign z a c r.bound t

lo-cross : (z : Float) (a c : ℕ) → AtLeast z a c → T (finite z) → a * den z ≤ num z * c
lo-cross nan a c b t = absurd b
lo-cross (inf s) a c b t = absurd t
lo-cross (fin true m e) a c b t = absurd b
lo-cross (fin false m e) a c b t = b

pub lo-bound : {z : Float} {a c : ℕ} → Lo z a c → T (finite z) → a * den z ≤ num z * c
lo-bound {z} {a} {c} r t = lo-cross z a c r.bound t

pub lo-positive : {z : Float} {a c : ℕ} → 0 < a → Lo z a c → T (finite z) → T (positive z)
lo-positive {z} {a} {c} A r t = positive-of-num z (lo-nonnegative r t) (first_pos (num z) c (lt_of_lt_of_le (mul-pos A (den_pos z)) (lo-bound r t)))

pub lo-of-rat : {L U D b d : ℕ} (z : Float) → T (nonnegative z) → 0 < D → 0 < d → Rat L U D (num z) (den z) b d → Lo z (L * b) (D * d)
lo-of-rat {L} {U} {D} {b} {d} z p P Q r =
    let k : L * b * den z ≤ num z * (D * d) = omega (arith, r.lower) in
    lo_at z (L * b) (D * d) p (mul-pos P Q) k

-- ---- the order of floats
above-positive : (y : Float) → T (nonnegative y) → T (above y) → T (positive y)
above-positive nan q k = k
above-positive (inf t) q k = absurd q
above-positive (fin true n d) q k = k
above-positive (fin false n d) q k = k

nonnegative-cross : (x y : Float) → T (nonnegative x) → T (nonnegative y) → T (le x y) → num x * den y ≤ num y * den x
nonnegative-cross x y p q h =
    elim (eq-zero-or-pos (num x)) [
      | inl z ↦ zero-case (num x) (den y) (num y * den x) z
      | inr n ↦
          let X = positive-of-num x p n in
          le→cross x y X (above-positive y q (above_of_le x y X h)) h
    ]
  where
    zero-case : (n d w : ℕ) → n ≡ 0 → n * d ≤ w
    zero-case n d w z = subst (λ (k : ℕ). k * d ≤ w) (sym z) (omega arith)

pub nonnegative-le : (x y : Float) → T (nonnegative x) → T (nonnegative y) → num x * den y ≤ num y * den x → T (le x y)
nonnegative-le x y p q h = le_of_values x y (num x) (den x) (num y) (den y) (den_pos x) (den_pos y) (nonnegative-value x p) (nonnegative-value y q) h

-- x with no minus sign, below a y that has a bound
pub up-of-le : (x y : Float) {a c : ℕ} → T (nonnegative x) → T (le x y) → Up y a c → Up x a c
up-of-le x y {a} {c} p h r = record { sign = p; over = r.over; bound = through (num x) (num y) a (den x) (den y) c (den_pos y) (nonnegative-cross x y p r.sign h) r.bound }

below-infinity : (x : Float) (t : Bool) → T (nonnegative x) → T (not t) → T (le x (inf t))
unfolding le
below-infinity nan t p h = p
below-infinity (inf s) t p h = absurd p
below-infinity (fin true m e) t p h = absurd p
below-infinity (fin false m e) true p h = absurd h
below-infinity (fin false m e) false p h = tt

under-infinity : (x : Float) (t : Bool) → T (nonnegative x) → T (not t) → T (lt x (inf t))
unfolding lt
under-infinity nan t p h = p
under-infinity (inf s) t p h = absurd p
under-infinity (fin s m e) t p h = h

infinity-not : (x : Float) (t : Bool) → T (nonnegative x) → T (not t) → T (not (lt (inf t) x))
unfolding lt
infinity-not nan t p h = absurd p
infinity-not (inf s) t p h = absurd p
infinity-not (fin s m e) t p h = h

cross-lt : (x y : Float) → T (nonnegative x) → T (nonnegative y) → num x * den y < num y * den x → T (lt x y)
unfolding lt
cross-lt nan y p q h = p
cross-lt (inf s) y p q h = absurd p
cross-lt (fin true m e) y p q h = absurd p
cross-lt (fin false m e) nan p q h = q
cross-lt (fin false m e) (inf t) p q h = absurd q
cross-lt (fin false m e) (fin true n d) p q h = absurd q
cross-lt (fin false m e) (fin false n d) p q h = lt→ltb (m * up e * down d) (n * up d * down e) h

-- y is not below x
cross-not : (x y : Float) → T (nonnegative x) → T (nonnegative y) → num x * den y ≤ num y * den x → T (not (lt y x))
unfolding lt
cross-not nan y p q h = absurd p
cross-not (inf s) y p q h = absurd p
cross-not (fin true m e) y p q h = absurd p
cross-not (fin false m e) nan p q h = absurd q
cross-not (fin false m e) (inf t) p q h = absurd q
cross-not (fin false m e) (fin true n d) p q h = absurd q
cross-not (fin false m e) (fin false n d) p q h = le→nltb (n * up d * down e) (m * up e * down d) h

zero-only : (m u c a d : ℕ) → 0 < a → 0 < d → a * d ≤ m * u * c → 0 < m
zero-only m u c a d A D h = first_pos m u (first_pos (m * u) c (lt_of_lt_of_le (mul-pos A D) h))

over-infinity : (x : Float) (a c : ℕ) → T (le (inf false) x) → AtLeast x a c
unfolding le
over-infinity nan a c h = h
over-infinity (inf true) a c h = h
over-infinity (inf false) a c h = tt
over-infinity (fin s m e) a c h = absurd h

over-positive : (x y : Float) (a c : ℕ) → T (positive y) → a * den y ≤ num y * c → T (le y x) → T (above x) → AtLeast x a c
over-positive nan y a c p b h k = k
over-positive (inf s) y a c p b h k = k
over-positive (fin true n d) y a c p b h k = k
over-positive (fin false n d) y a c p b h k = through a (num y) (n * up d) c (den y) (down d) (den_pos y) b (nonnegative-cross y (fin false n d) (positive-nonnegative y p) tt h)

over-bound : (x y : Float) (a c : ℕ) → 0 < a → AtLeast y a c → T (le y x) → AtLeast x a c
over-bound x nan a c A b h = absurd b
over-bound x (inf true) a c A b h = absurd b
over-bound x (inf false) a c A b h = over-infinity x a c h
over-bound x (fin true m e) a c A b h = absurd b
over-bound x (fin false m e) a c A b h =
    let p = lt→ltb 0 m (zero-only m (up e) c a (down e) A (down_pos e) b) in
    over-positive x (fin false m e) a c p b h (above_of_le (fin false m e) x p h)

-- anything above a y that has a bound above zero
pub lo-of-le : (x y : Float) {a c : ℕ} → 0 < a → T (le y x) → Lo y a c → Lo x a c
lo-of-le x y {a} {c} A h r = record { over = r.over; bound = over-bound x y a c A r.bound h }

-- a / c ≤ b / d, and a / c < b / d
below-cross : (x y dx dy a c b d : ℕ) → 0 < c → 0 < d → x * c ≤ a * dx → b * dy ≤ y * d → a * d ≤ b * c → x * dy ≤ y * dx
below-cross x y dx dy a c b d C D h k l =
    let j : x * dy * (c * d) ≤ y * dx * (c * d) = omega (arith, mul-le-mul_right (dy * d) h, mul-le-mul_right (dx * dy) l, mul-le-mul_right (dx * c) k) in
    le_of_mul-le-mul_right j (mul-pos C D)

below-cross-strict : (x y dx dy a c b d : ℕ) → 0 < dx → 0 < dy → x * c ≤ a * dx → b * dy ≤ y * d → a * d < b * c → x * dy < y * dx
below-cross-strict x y dx dy a c b d C D h k l =
    let j : x * dy * (c * d) < y * dx * (c * d) = omega (arith, mul-le-mul_right (dy * d) h, mul-lt-mul_of_pos_right l (mul-pos C D), mul-le-mul_right (dx * c) k) in
    lt_of_mul-lt-mul_right (c * d) j

module _ (x y : Float) {a c b d : ℕ} (r : Up x a c) (s : Lo y b d) where
  pub up-lo-le : a * d ≤ b * c → T (le x y)
  up-lo-le h = go x y r.sign r.bound s.bound
    where
      go : (x y : Float) → T (nonnegative x) → num x * c ≤ a * den x → AtLeast y b d → T (le x y)
      go x nan p k l = absurd l
      go x (inf t) p k l = below-infinity x t p l
      go x (fin true n e) p k l = absurd l
      go x (fin false n e) p k l = nonnegative-le x (fin false n e) p tt (below-cross (num x) (n * up e) (den x) (down e) a c b d r.over s.over k l h)

  pub up-lo-lt : a * d < b * c → T (lt x y)
  up-lo-lt h = go x y r.sign r.bound s.bound
    where
      go : (x y : Float) → T (nonnegative x) → num x * c ≤ a * den x → AtLeast y b d → T (lt x y)
      go x nan p k l = absurd l
      go x (inf t) p k l = under-infinity x t p l
      go x (fin true n e) p k l = absurd l
      go x (fin false n e) p k l = cross-lt x (fin false n e) p tt (below-cross-strict (num x) (n * up e) (den x) (down e) a c b d (den_pos x) (down_pos e) k l h)

  up-lo-not : a * d ≤ b * c → T (not (lt y x))
  up-lo-not h = go x y r.sign r.bound s.bound
    where
      go : (x y : Float) → T (nonnegative x) → num x * c ≤ a * den x → AtLeast y b d → T (not (lt y x))
      go x nan p k l = absurd l
      go x (inf t) p k l = infinity-not x t p l
      go x (fin true n e) p k l = absurd l
      go x (fin false n e) p k l = cross-not x (fin false n e) p tt (below-cross (num x) (n * up e) (den x) (down e) a c b d r.over s.over k l h)

-- ---- rounding: below a fraction whose own rounded value has a bound
round_up : (f : Format) (a c a' c' : ℕ) {p q : ℕ} → 0 < c → 0 < c' → a * c' ≤ a' * c → Up (round f false a' c') p q → Up (round f false a c) p q
round_up f a c a' c' C C' l r =
    let h = round_mono f a c a' c' C C' l in
    let t = round-below f a c (round f false a' c') (up-finite r) h in
    up-of-le (round f false a c) (round f false a' c') (round-nonnegative f a c (round f false a c) refl t) h r

pub round-lo : (f : Format) (a c a' c' : ℕ) {p q : ℕ} → 0 < c → 0 < c' → 0 < p → a' * c ≤ a * c' → Lo (round f false a' c') p q → Lo (round f false a c) p q
round-lo f a c a' c' C C' P l r = lo-of-le (round f false a c) (round f false a' c') P (round_mono f a' c' a c C' C l) r

-- ---- the chosen fraction p / q: from twice the smallest normal value up to the largest finite one
pub record Range (f : Format) (p q : ℕ) : Type 0 where
  pub over : 0 < q
  pub least : q ≤ p * 2 ^ (emax f - 2)
  pub most : p ≤ largest f * q

pub range-test : (f : Format) (p q : ℕ) → T (ltb 0 q && (leb q (p * 2 ^ (emax f - 2)) && leb p (largest f * q))) → Range f p q
range-test f p q t =
    let a = ltb 0 q in
    let b = leb q (p * 2 ^ (emax f - 2)) in
    let c = leb p (largest f * q) in
    let u = and_r a (b && c) t in
    record { over = ltb→lt 0 q (and_l a (b && c) t); least = leb→le q (p * 2 ^ (emax f - 2)) (and_l b c u); most = leb→le p (largest f * q) (and_r b c u) }

twice_power : (f : Format) → 2 ^ (emax f - 1) ≡ 2 * 2 ^ (emax f - 2)
twice_power binary32 = refl
twice_power binary64 = refl

shrunk-normal : (p q P E : ℕ) → 0 < P → q ≤ p * E → q * (P + 1) ≤ p * P * (2 * E)
shrunk-normal p q P E h l = omega (arith, mul-le-mul_right (P + 1) l, mul-le-mul_right (p * E) h)

shrunk-under : (p q P M : ℕ) → p ≤ M * q → p * P ≤ M * (q * (P + 1))
shrunk-under p q P M l = omega (arith, mul-le-mul_right P l)

cancel-slack : (x d p q P : ℕ) → 0 < P → P * (x * (q * (P + 1))) ≤ (P + 1) * (p * P * d) → x * q ≤ p * d
cancel-slack x d p q P h l =
    let k : x * q * (P * (P + 1)) ≤ p * d * (P * (P + 1)) = omega arith in
    le_of_mul-le-mul_right k (mul-pos h (lt_of_lt_of_le h (less P)))
  where
    less : (P : ℕ) → P ≤ P + 1
    less P = omega arith

slack-pos : (f : Format) (q : ℕ) → 0 < q → 0 < q * (2 ^ prec f + 1)
slack-pos f q h = mul-pos h (some (2 ^ prec f))
  where
    some : (P : ℕ) → 0 < P + 1
    some P = omega arith

-- what lies one part in 2 ^ prec below p / q rounds to p / q at most
cap : (f : Format) (p q : ℕ) → Range f p q → Up (round f false (p * 2 ^ prec f) (q * (2 ^ prec f + 1))) p q
cap f p q r =
    let P = 2 ^ prec f in
    let z = round f false (p * P) (q * (P + 1)) in
    let C : 0 < q * (P + 1) = slack-pos f q r.over in
    let N : Normal f (p * P) (q * (P + 1)) = subst (λ (e : ℕ). q * (P + 1) ≤ p * P * e) (sym (twice_power f)) (shrunk-normal p q P (2 ^ (emax f - 2)) (pow_pos (prec f)) r.least) in
    let t : T (finite z) = round-finite f (p * P) (q * (P + 1)) C (shrunk-under p q P (largest f) r.most) in
    record {
      sign = round-nonnegative f (p * P) (q * (P + 1)) z refl t;
      over = r.over;
      bound = cancel-slack (num z) (den z) p q P (pow_pos (prec f)) (round-close f (p * P) (q * (P + 1)) z C N refl t).upper;
    }

grown-normal : (p q P Q E : ℕ) → Q ≤ P → q ≤ p * E → q * Q ≤ p * P * E
grown-normal p q P Q E h l = omega (arith, mul-le-mul_right Q l, mul-le-mul_right (p * E) h)

cancel-gain : (x d p q P Q : ℕ) → 0 < P → 0 < Q → Q * (p * P * d) ≤ P * (x * (q * Q)) → p * d ≤ x * q
cancel-gain x d p q P Q h g l =
    let k : p * d * (P * Q) ≤ x * q * (P * Q) = omega arith in
    le_of_mul-le-mul_right k (mul-pos h g)

-- what lies one part in 2 ^ prec above p / q rounds to p / q at least
floor : (f : Format) (p q : ℕ) → 0 < q → Normal f p q → Lo (round f false (p * 2 ^ prec f) (q * (2 ^ prec f - 1))) p q
floor f p q q-pos N =
    let P = 2 ^ prec f in
    let Q = 2 ^ prec f - 1 in
    let z = round f false (p * P) (q * Q) in
    let C : 0 < q * Q = mul-pos q-pos (ones_pos f) in
    let M : Normal f (p * P) (q * Q) = grown-normal p q P Q (2 ^ (emax f - 1)) (sub-le P 1) N in
    elim (round-shape f (p * P) (q * Q)) [
      | inl e ↦ record { over = q-pos; bound = subst (λ (x : Float). AtLeast x p q) (sym e) tt }
      | inr t ↦
          lo_at z p q (round-nonnegative f (p * P) (q * Q) z refl t) q-pos (cancel-gain (num z) (den z) p q P Q (pow_pos (prec f)) (ones_pos f) (round-close f (p * P) (q * Q) z C M refl t).lower)
    ]

-- ---- the operations, against a fraction a' / c' whose rounded value has a bound
mul-cross : (x y dx dy a c b d a' c' : ℕ) → 0 < c → 0 < d → x * c ≤ a * dx → y * d ≤ b * dy → a * b * c' ≤ a' * (c * d) → x * y * c' ≤ a' * (dx * dy)
mul-cross x y dx dy a c b d a' c' C D h k l =
    let j : x * y * c' * (c * d) ≤ a' * (dx * dy) * (c * d) = omega (arith, mul-le-mul_right c' (mul-le-mul h k), mul-le-mul_right (dx * dy) l) in
    le_of_mul-le-mul_right j (mul-pos C D)

mul-cross-lo : (x y dx dy a c b d a' c' : ℕ) → 0 < c → 0 < d → a * dx ≤ x * c → b * dy ≤ y * d → a' * (c * d) ≤ a * b * c' → a' * (dx * dy) ≤ x * y * c'
mul-cross-lo x y dx dy a c b d a' c' C D h k l =
    let j : a' * (dx * dy) * (c * d) ≤ x * y * c' * (c * d) = omega (arith, mul-le-mul_right c' (mul-le-mul h k), mul-le-mul_right (dx * dy) l) in
    le_of_mul-le-mul_right j (mul-pos C D)

add-cross : (x y dx dy a c b d a' c' : ℕ) → 0 < c → 0 < d → x * c ≤ a * dx → y * d ≤ b * dy → (a * d + b * c) * c' ≤ a' * (c * d) → (x * dy + y * dx) * c' ≤ a' * (dx * dy)
add-cross x y dx dy a c b d a' c' C D h k l =
    let j : (x * dy + y * dx) * c' * (c * d) ≤ a' * (dx * dy) * (c * d) = omega (arith, mul-le-mul_right (c' * (dy * d)) h, mul-le-mul_right (c' * (dx * c)) k, mul-le-mul_right (dx * dy) l) in
    le_of_mul-le-mul_right j (mul-pos C D)

add-cross-lo : (x y dx dy a c b d a' c' : ℕ) → 0 < c → 0 < d → a * dx ≤ x * c → b * dy ≤ y * d → a' * (c * d) ≤ (a * d + b * c) * c' → a' * (dx * dy) ≤ (x * dy + y * dx) * c'
add-cross-lo x y dx dy a c b d a' c' C D h k l =
    let j : a' * (dx * dy) * (c * d) ≤ (x * dy + y * dx) * c' * (c * d) = omega (arith, mul-le-mul_right (c' * (dy * d)) h, mul-le-mul_right (c' * (dx * c)) k, mul-le-mul_right (dx * dy) l) in
    le_of_mul-le-mul_right j (mul-pos C D)

-- x above, y below
div-cross : (x y dx dy a c b d a' c' : ℕ) → 0 < c → 0 < b → x * c ≤ a * dx → b * dy ≤ y * d → a * d * c' ≤ a' * (c * b) → x * dy * c' ≤ a' * (y * dx)
div-cross x y dx dy a c b d a' c' C B h k l =
    let j : x * dy * c' * (c * b) ≤ a' * (y * dx) * (c * b) = omega (arith, mul-le-mul_right (dy * (c' * b)) h, mul-le-mul_right (a * (dx * c')) k, mul-le-mul_right (dx * y) l) in
    le_of_mul-le-mul_right j (mul-pos C B)

div-cross-lo : (x y dx dy a c b d a' c' : ℕ) → 0 < c → 0 < d → a * dx ≤ x * c → y * d ≤ b * dy → a' * (c * b) ≤ a * d * c' → a' * (y * dx) ≤ x * dy * c'
div-cross-lo x y dx dy a c b d a' c' C D h k l =
    let j : a' * (y * dx) * (c * d) ≤ x * dy * c' * (c * d) = omega (arith, mul-le-mul_right (dy * (c' * d)) h, mul-le-mul_right (a' * (dx * c)) k, mul-le-mul_right (dx * dy) l) in
    le_of_mul-le-mul_right j (mul-pos C D)

over-infinite : (f : Format) (x : Float) (t : Bool) {p q : ℕ} → T (nonnegative x) → T (not t) → 0 < q → Up (div f x (inf t)) p q
unfolding div
over-infinite f nan t h g Q = absurd h
over-infinite f (inf s) t h g Q = absurd h
over-infinite f (fin true m e) t h g Q = absurd h
over-infinite f (fin false m e) true h g Q = absurd g
over-infinite f (fin false m e) false {p} {q} h g Q = record { sign = tt; over = Q; bound = omega arith }

-- the bounds of the operands, and of the rounded a' / c'
module _ (f : Format) (a' c' : ℕ) {p q : ℕ} (C' : 0 < c') where
  pub mul-up-at : (x y : Float) {a c b d : ℕ} → Up x a c → Up y b d → a * b * c' ≤ a' * (c * d) → Up (round f false a' c') p q → Up (mul f x y) p q
  mul-up-at x y {a} {c} {b} {d} r s l w =
      subst (λ (z : Float). Up z p q) (sym (mul-round f x y r.sign s.sign))
      (round_up f (num x * num y) (den x * den y) a' c' (mul-pos (den_pos x) (den_pos y)) C'
      (mul-cross (num x) (num y) (den x) (den y) a c b d a' c' r.over s.over r.bound s.bound l) w)

  add-up-at : (x y : Float) {a c b d : ℕ} → Up x a c → Up y b d → (a * d + b * c) * c' ≤ a' * (c * d) → Up (round f false a' c') p q → Up (add f x y) p q
  add-up-at x y {a} {c} {b} {d} r s l w =
      subst (λ (z : Float). Up z p q) (sym (add-round f x y r.sign s.sign))
      (round_up f (num x * den y + num y * den x) (den x * den y) a' c' (mul-pos (den_pos x) (den_pos y)) C'
      (add-cross (num x) (num y) (den x) (den y) a c b d a' c' r.over s.over r.bound s.bound l) w)

  -- the divisor is above zero; where it is an infinity the quotient is zero
  div-up-at : (x y : Float) {a c b d : ℕ} → 0 < b → Up x a c → Lo y b d → a * d * c' ≤ a' * (c * b) → Up (round f false a' c') p q → Up (div f x y) p q
  div-up-at x y {a} {c} {b} {d} B r s l w = go y s.bound
    where
      go : (y : Float) → AtLeast y b d → Up (div f x y) p q
      go nan k = absurd k
      go (inf t) k = over-infinite f x t r.sign k w.over
      go (fin true n e) k = absurd k
      go (fin false n e) k =
          let Y : T (positive (fin false n e)) = lt→ltb 0 n (zero-only n (up e) d b (down e) B (down_pos e) k) in
          subst (λ (z : Float). Up z p q) (sym (div-round f x (fin false n e) r.sign Y))
          (round_up f (num x * down e) (n * up e * den x) a' c' (mul-pos (mul-pos (ltb→lt 0 n Y) (up_pos e)) (den_pos x)) C'
          (div-cross (num x) (n * up e) (den x) (down e) a c b d a' c' r.over B r.bound k l) w)

-- ---- the same from below. An infinity stays one: a factor, a dividend above zero, and a divisor that may be zero
infinite : (p q : ℕ) → 0 < q → Lo (inf false) p q
infinite p q Q = record { over = Q; bound = tt }

not-zero : (n : ℕ) → 0 < n → eqb n 0 ≡ false
not-zero n h = go (eqb n 0) (eqb→eq n 0)
  where
    go : (b : Bool) → (T b → n ≡ 0) → b ≡ false
    go true e = absurd (lt_irrefl 0 (subst (λ (k : ℕ). 0 < k) (e tt) h))
    go false e = refl

some-digit : (y : Float) (b d : ℕ) → 0 < b → AtLeast y b d → T (above y)
some-digit nan b d B k = k
some-digit (inf t) b d B k = k
some-digit (fin true n e) b d B k = k
some-digit (fin false n e) b d B k = lt→ltb 0 n (zero-only n (up e) d b (down e) B (down_pos e) k)

mul-infinite-l : (f : Format) (y : Float) → T (above y) → mul f (inf false) y ≡ inf false
unfolding mul
mul-infinite-l f nan k = absurd k
mul-infinite-l f (inf true) k = absurd k
mul-infinite-l f (inf false) k = refl
mul-infinite-l f (fin true n e) k = absurd k
mul-infinite-l f (fin false n e) k = rw (not-zero n (ltb→lt 0 n k)) refl

mul-infinite-r : (f : Format) (x : Float) → T (above x) → mul f x (inf false) ≡ inf false
unfolding mul
mul-infinite-r f nan k = absurd k
mul-infinite-r f (inf true) k = absurd k
mul-infinite-r f (inf false) k = refl
mul-infinite-r f (fin true n e) k = absurd k
mul-infinite-r f (fin false n e) k = rw (not-zero n (ltb→lt 0 n k)) refl

add-infinite-l : (f : Format) (y : Float) (b d : ℕ) → AtLeast y b d → add f (inf false) y ≡ inf false
unfolding add
add-infinite-l f nan b d k = absurd k
add-infinite-l f (inf true) b d k = absurd k
add-infinite-l f (inf false) b d k = refl
add-infinite-l f (fin s n e) b d k = refl

add-infinite-r : (f : Format) (x : Float) (a c : ℕ) → AtLeast x a c → add f x (inf false) ≡ inf false
unfolding add
add-infinite-r f nan a c k = absurd k
add-infinite-r f (inf true) a c k = absurd k
add-infinite-r f (inf false) a c k = refl
add-infinite-r f (fin s n e) a c k = refl

div-infinite-l : (f : Format) (y : Float) → T (nonnegative y) → div f (inf false) y ≡ inf false
unfolding div
div-infinite-l f nan k = absurd k
div-infinite-l f (inf t) k = absurd k
div-infinite-l f (fin true n e) k = absurd k
div-infinite-l f (fin false n e) k = refl

div-zero-r : (f : Format) (m : ℕ) (e : ℤ) (d : ℤ) → 0 < m → div f (fin false m e) (fin false 0 d) ≡ inf false
unfolding div
div-zero-r f m e d M = rw (not-zero m M) refl

-- both factors of a product that is above zero
first_above : (a b c' a' c d : ℕ) → 0 < a' → 0 < c → 0 < d → a' * (c * d) ≤ a * b * c' → 0 < a
first_above a b c' a' c d A C D l = first_pos a b (first_pos (a * b) c' (lt_of_lt_of_le (mul-pos A (mul-pos C D)) l))

second_above : (a b c' a' c d : ℕ) → 0 < a' → 0 < c → 0 < d → a' * (c * d) ≤ a * b * c' → 0 < b
second_above a b c' a' c d A C D l = first_above b a c' a' c d A C D (subst (λ (z : ℕ). a' * (c * d) ≤ z * c') (mul_comm a b) l)

module _ (f : Format) (a' c' : ℕ) {p q : ℕ} (A' : 0 < a') (C' : 0 < c') (P' : 0 < p) where
  pub mul-lo-at : (x y : Float) {a c b d : ℕ} → Lo x a c → Lo y b d → a' * (c * d) ≤ a * b * c' → Lo (round f false a' c') p q → Lo (mul f x y) p q
  mul-lo-at x y {a} {c} {b} {d} r s l w = go x y r.bound s.bound
    where
      A : 0 < a
      A = first_above a b c' a' c d A' r.over s.over l

      B : 0 < b
      B = second_above a b c' a' c d A' r.over s.over l

      go : (x y : Float) → AtLeast x a c → AtLeast y b d → Lo (mul f x y) p q
      go nan y h k = absurd h
      go (inf true) y h k = absurd h
      go (inf false) y h k = subst (λ (z : Float). Lo z p q) (sym (mul-infinite-l f y (some-digit y b d B k))) (infinite p q w.over)
      go (fin true m e) y h k = absurd h
      go (fin false m e) nan h k = absurd k
      go (fin false m e) (inf true) h k = absurd k
      go (fin false m e) (inf false) h k = subst (λ (z : Float). Lo z p q) (sym (mul-infinite-r f (fin false m e) (some-digit (fin false m e) a c A h))) (infinite p q w.over)
      go (fin false m e) (fin true n g) h k = absurd k
      go (fin false m e) (fin false n g) h k =
          subst (λ (z : Float). Lo z p q) (sym (mul-round f (fin false m e) (fin false n g) tt tt))
          (round-lo f (m * up e * (n * up g)) (down e * down g) a' c' (mul-pos (down_pos e) (down_pos g)) C' P'
          (mul-cross-lo (m * up e) (n * up g) (down e) (down g) a c b d a' c' r.over s.over h k l) w)

  pub add-lo-at : (x y : Float) {a c b d : ℕ} → Lo x a c → Lo y b d → a' * (c * d) ≤ (a * d + b * c) * c' → Lo (round f false a' c') p q → Lo (add f x y) p q
  add-lo-at x y {a} {c} {b} {d} r s l w = go x y r.bound s.bound
    where
      go : (x y : Float) → AtLeast x a c → AtLeast y b d → Lo (add f x y) p q
      go nan y h k = absurd h
      go (inf true) y h k = absurd h
      go (inf false) y h k = subst (λ (z : Float). Lo z p q) (sym (add-infinite-l f y b d k)) (infinite p q w.over)
      go (fin true m e) y h k = absurd h
      go (fin false m e) nan h k = absurd k
      go (fin false m e) (inf true) h k = absurd k
      go (fin false m e) (inf false) h k = subst (λ (z : Float). Lo z p q) (sym (add-infinite-r f (fin false m e) a c h)) (infinite p q w.over)
      go (fin false m e) (fin true n g) h k = absurd k
      go (fin false m e) (fin false n g) h k =
          subst (λ (z : Float). Lo z p q) (sym (add-round f (fin false m e) (fin false n g) tt tt))
          (round-lo f (m * up e * down g + n * up g * down e) (down e * down g) a' c' (mul-pos (down_pos e) (down_pos g)) C' P'
          (add-cross-lo (m * up e) (n * up g) (down e) (down g) a c b d a' c' r.over s.over h k l) w)

  div-lo-at : (x y : Float) {a c b d : ℕ} → 0 < a → Lo x a c → Up y b d → a' * (c * b) ≤ a * d * c' → Lo (round f false a' c') p q → Lo (div f x y) p q
  div-lo-at x y {a} {c} {b} {d} A r s l w = go x y r.bound s.sign s.bound
    where
      go : (x y : Float) → AtLeast x a c → T (nonnegative y) → num y * d ≤ b * den y → Lo (div f x y) p q
      go nan y h t k = absurd h
      go (inf true) y h t k = absurd h
      go (inf false) y h t k = subst (λ (z : Float). Lo z p q) (sym (div-infinite-l f y t)) (infinite p q w.over)
      go (fin true m e) y h t k = absurd h
      go (fin false m e) nan h t k = absurd t
      go (fin false m e) (inf s) h t k = absurd t
      go (fin false m e) (fin true n g) h t k = absurd t
      go (fin false m e) (fin false zero g) h t k = subst (λ (z : Float). Lo z p q) (sym (div-zero-r f m e g (zero-only m (up e) c a (down e) A (down_pos e) h))) (infinite p q w.over)
      go (fin false m e) (fin false (suc n) g) h t k =
          let Y : T (positive (fin false (suc n) g)) = lt→ltb 0 (suc n) (zero-lt-suc n) in
          subst (λ (z : Float). Lo z p q) (sym (div-round f (fin false m e) (fin false (suc n) g) tt Y))
          (round-lo f (m * up e * down g) (suc n * up g * down e) a' c' (mul-pos (mul-pos (zero-lt-suc n) (up_pos g)) (down_pos e)) C' P'
          (div-cross-lo (m * up e) (suc n * up g) (down e) (down g) a c b d a' c' r.over s.over h k l) w)

-- ---- one operation, against a chosen fraction p / q, with the slack of one rounding
normal_pos : (f : Format) (p q : ℕ) → 0 < q → Normal f p q → 0 < p
normal_pos f p q h N = first_pos p (2 ^ (emax f - 1)) (lt_of_lt_of_le h N)

module _ (f : Format) (p q : ℕ) {x y : Float} {a c b d : ℕ} where
  pub mul-up : Range f p q → a * b * (q * (2 ^ prec f + 1)) ≤ p * 2 ^ prec f * (c * d) → Up x a c → Up y b d → Up (mul f x y) p q
  mul-up g l r s = mul-up-at f (p * 2 ^ prec f) (q * (2 ^ prec f + 1)) (slack-pos f q g.over) x y r s l (cap f p q g)

  pub add-up : Range f p q → (a * d + b * c) * (q * (2 ^ prec f + 1)) ≤ p * 2 ^ prec f * (c * d) → Up x a c → Up y b d → Up (add f x y) p q
  add-up g l r s = add-up-at f (p * 2 ^ prec f) (q * (2 ^ prec f + 1)) (slack-pos f q g.over) x y r s l (cap f p q g)

  pub div-up : Range f p q → 0 < b → a * d * (q * (2 ^ prec f + 1)) ≤ p * 2 ^ prec f * (c * b) → Up x a c → Lo y b d → Up (div f x y) p q
  div-up g B l r s = div-up-at f (p * 2 ^ prec f) (q * (2 ^ prec f + 1)) (slack-pos f q g.over) x y B r s l (cap f p q g)

  pub mul-lo : 0 < q → Normal f p q → p * 2 ^ prec f * (c * d) ≤ a * b * (q * (2 ^ prec f - 1)) → Lo x a c → Lo y b d → Lo (mul f x y) p q
  mul-lo h N l r s =
      mul-lo-at f (p * 2 ^ prec f) (q * (2 ^ prec f - 1)) (mul-pos (normal_pos f p q h N) (pow_pos (prec f))) (mul-pos h (ones_pos f)) (normal_pos f p q h N) x y r s l (floor f p q h N)

  pub add-lo : 0 < q → Normal f p q → p * 2 ^ prec f * (c * d) ≤ (a * d + b * c) * (q * (2 ^ prec f - 1)) → Lo x a c → Lo y b d → Lo (add f x y) p q
  add-lo h N l r s =
      add-lo-at f (p * 2 ^ prec f) (q * (2 ^ prec f - 1)) (mul-pos (normal_pos f p q h N) (pow_pos (prec f))) (mul-pos h (ones_pos f)) (normal_pos f p q h N) x y r s l (floor f p q h N)

  div-lo : 0 < q → Normal f p q → 0 < a → p * 2 ^ prec f * (c * b) ≤ a * d * (q * (2 ^ prec f - 1)) → Lo x a c → Up y b d → Lo (div f x y) p q
  div-lo h N A l r s =
      div-lo-at f (p * 2 ^ prec f) (q * (2 ^ prec f - 1)) (mul-pos (normal_pos f p q h N) (pow_pos (prec f))) (mul-pos h (ones_pos f)) (normal_pos f p q h N) x y A r s l (floor f p q h N)

-- ---- an unknown S / W between 2 ^ -r and 2 ^ t
pub record Span (r t S W : ℕ) : Type 0 where
  pub over : 0 < W
  pub least : W ≤ S * 2 ^ r
  pub most : S ≤ W * 2 ^ t

pub span-one : Span 0 0 1 1
span-one = record { over = lit< tt; least = lit≤ tt; most = lit≤ tt }

pub span-mul : {r t S W r' t' S' W' : ℕ} → Span r t S W → Span r' t' S' W' → Span (r + r') (t + t') (S * S') (W * W')
span-mul {r} {t} {S} {W} {r'} {t'} {S'} {W'} g h = record {
  over = mul-pos g.over h.over;
  least = le_trans (mul-le-mul g.least h.least) (le_of_eq (mul-mul-mul_comm S (2 ^ r) S' (2 ^ r') ∙ ap (λ (z : ℕ). S * S' * z) (sym (pow-add 2 r r'))));
  most = le_trans (mul-le-mul g.most h.most) (le_of_eq (mul-mul-mul_comm W (2 ^ t) W' (2 ^ t') ∙ ap (λ (z : ℕ). W * W' * z) (sym (pow-add 2 t t'))));
}

pub span-inv : {r t S W : ℕ} → Span r t S W → Span t r W S
span-inv {r} {t} {S} {W} g = record { over = first_pos S (2 ^ r) (lt_of_lt_of_le g.over g.least); least = g.most; most = g.least }

pub span-div : {r t S W r' t' S' W' : ℕ} → Span r t S W → Span r' t' S' W' → Span (r + t') (t + r') (S * W') (W * S')
span-div g h = span-mul g (span-inv h)

pub span_of : {z : Float} (r t : ℕ) → Lo z 1 (2 ^ r) → Up z (2 ^ t) 1 → Span r t (num z) (den z)
span_of {z} r t lo hi = record {
  over = den_pos z;
  least = le_trans (le_of_eq (sym (one-mul (den z)))) (lo-bound lo (up-finite hi));
  most = le_trans (le_of_eq (sym (mul-one (num z)))) (le_trans hi.bound (le_of_eq (mul_comm (2 ^ t) (den z))));
}

scaled-least : (m W S k R E : ℕ) → W ≤ S * R → m * R ≤ k * E → m * W ≤ k * S * E
scaled-least m W S k R E h l = omega (arith, mul-le-mul_left m h, mul-le-mul_left S l)

scaled-most : (m W S k R E : ℕ) → S ≤ W * R → k * R ≤ E * m → k * S ≤ E * (m * W)
scaled-most m W S k R E h l = omega (arith, mul-le-mul_left k h, mul-le-mul_left W l)

pub range-by : (f : Format) {r t S W : ℕ} (k m : ℕ) → Span r t S W → 0 < m → m * 2 ^ r ≤ k * 2 ^ (emax f - 2) → k * 2 ^ t ≤ largest f * m → Range f (k * S) (m * W)
range-by f {r} {t} {S} {W} k m g M l h = record {
  over = mul-pos M g.over;
  least = scaled-least m W S k (2 ^ r) (2 ^ (emax f - 2)) g.least l;
  most = scaled-most m W S k (2 ^ t) (largest f) g.most h;
}

pub normal-by : (f : Format) {r t S W : ℕ} (k m : ℕ) → Span r t S W → m * 2 ^ r ≤ k * 2 ^ (emax f - 1) → Normal f (k * S) (m * W)
normal-by f {r} {t} {S} {W} k m g l = scaled-least m W S k (2 ^ r) (2 ^ (emax f - 1)) g.least l

-- ---- a known fraction times the unknown: from n / g to k / m with the slack of one rounding, where the unknown is between 2 ^ -r and 2 ^ t. With literals each is one test
abbrev pub up_test : Format → ℕ → ℕ → ℕ → ℕ → ℕ → ℕ → Bool
up_test f r t n g k m = ltb 0 m && (leb (m * 2 ^ r) (k * 2 ^ (emax f - 2)) && (leb (k * 2 ^ t) (largest f * m) && leb (n * (m * (2 ^ prec f + 1))) (k * 2 ^ prec f * g)))

abbrev pub lo_test : Format → ℕ → ℕ → ℕ → ℕ → ℕ → Bool
lo_test f r n g k m = ltb 0 m && (leb (m * 2 ^ r) (k * 2 ^ (emax f - 1)) && leb (k * 2 ^ prec f * g) (n * (m * (2 ^ prec f - 1))))

record UpStep (f : Format) (S W n g k m : ℕ) : Type 0 where
  range : Range f (k * S) (m * W)
  slack : n * (m * (2 ^ prec f + 1)) ≤ k * 2 ^ prec f * g

up_step : (f : Format) {r t S W : ℕ} (n g k m : ℕ) → Span r t S W → T (up_test f r t n g k m) → UpStep f S W n g k m
up_step f {r} {t} n g k m s u =
    let a = ltb 0 m in
    let b = leb (m * 2 ^ r) (k * 2 ^ (emax f - 2)) in
    let c = leb (k * 2 ^ t) (largest f * m) in
    let d = leb (n * (m * (2 ^ prec f + 1))) (k * 2 ^ prec f * g) in
    let v = and_r a (b && (c && d)) u in
    let w = and_r b (c && d) v in
    record {
      range = range-by f k m s (ltb→lt 0 m (and_l a (b && (c && d)) u)) (leb→le (m * 2 ^ r) (k * 2 ^ (emax f - 2)) (and_l b (c && d) v)) (leb→le (k * 2 ^ t) (largest f * m) (and_l c d w));
      slack = leb→le (n * (m * (2 ^ prec f + 1))) (k * 2 ^ prec f * g) (and_r c d w);
    }

record LoStep (f : Format) (S W n g k m : ℕ) : Type 0 where
  over : 0 < m * W
  normal : Normal f (k * S) (m * W)
  slack : k * 2 ^ prec f * g ≤ n * (m * (2 ^ prec f - 1))

lo-step : (f : Format) {r t S W : ℕ} (n g k m : ℕ) → Span r t S W → T (lo_test f r n g k m) → LoStep f S W n g k m
lo-step f {r} {t} n g k m s u =
    let a = ltb 0 m in
    let b = leb (m * 2 ^ r) (k * 2 ^ (emax f - 1)) in
    let d = leb (k * 2 ^ prec f * g) (n * (m * (2 ^ prec f - 1))) in
    let v = and_r a (b && d) u in
    record {
      over = mul-pos (ltb→lt 0 m (and_l a (b && d) u)) s.over;
      normal = normal-by f k m s (leb→le (m * 2 ^ r) (k * 2 ^ (emax f - 1)) (and_l b d v));
      slack = leb→le (k * 2 ^ prec f * g) (n * (m * (2 ^ prec f - 1))) (and_r b d v);
    }

-- where the known part is 1
pub up_one : {z : Float} {S W : ℕ} → Up z S W → Up z (1 * S) (1 * W)
up_one {z} {S} {W} r = rw (one-mul S, one-mul W) r

pub lo-one : {z : Float} {S W : ℕ} → Lo z S W → Lo z (1 * S) (1 * W)
lo-one {z} {S} {W} r = rw (one-mul S, one-mul W) r

-- one operand is a known fraction of the unknown, the other is known
module _ (f : Format) {r t S W : ℕ} (k m k' m' : ℕ) {x y : Float} {b d : ℕ} (s : Span r t S W) where
  pub mul-up-by : T (up_test f r t (k * b) (m * d) k' m') → Up x (k * S) (m * W) → Up y b d → Up (mul f x y) (k' * S) (m' * W)
  mul-up-by u g h = let w = up_step f (k * b) (m * d) k' m' s u in mul-up f (k' * S) (m' * W) w.range (scale (2 ^ prec f + 1) (2 ^ prec f) w.slack) g h
    where
      scale : (A B : ℕ) → k * b * (m' * A) ≤ k' * B * (m * d) → k * S * b * (m' * W * A) ≤ k' * S * B * (m * W * d)
      scale A B l = omega (arith, mul-le-mul_right (S * W) l)

  pub mul-lo-by : T (lo_test f r (k * b) (m * d) k' m') → Lo x (k * S) (m * W) → Lo y b d → Lo (mul f x y) (k' * S) (m' * W)
  mul-lo-by u g h = let w = lo-step f (k * b) (m * d) k' m' s u in mul-lo f (k' * S) (m' * W) w.over w.normal (scale (2 ^ prec f - 1) (2 ^ prec f) w.slack) g h
    where
      scale : (A B : ℕ) → k' * B * (m * d) ≤ k * b * (m' * A) → k' * S * B * (m * W * d) ≤ k * S * b * (m' * W * A)
      scale A B l = omega (arith, mul-le-mul_right (S * W) l)

-- both terms of a sum are known fractions of one unknown
module _ (f : Format) {r t S W : ℕ} (k m k₂ m₂ k' m' : ℕ) {x y : Float} (s : Span r t S W) where
  pub add-lo-by : T (lo_test f r (k * m₂ + k₂ * m) (m * m₂) k' m') → Lo x (k * S) (m * W) → Lo y (k₂ * S) (m₂ * W) → Lo (add f x y) (k' * S) (m' * W)
  add-lo-by u g h = let w = lo-step f (k * m₂ + k₂ * m) (m * m₂) k' m' s u in add-lo f (k' * S) (m' * W) w.over w.normal (scale (2 ^ prec f - 1) (2 ^ prec f) w.slack) g h
    where
      scale : (A B : ℕ) → k' * B * (m * m₂) ≤ (k * m₂ + k₂ * m) * (m' * A) → k' * S * B * (m * W * (m₂ * W)) ≤ (k * S * (m₂ * W) + k₂ * S * (m * W)) * (m' * W * A)
      scale A B l = omega (arith, mul-le-mul_right (S * W * W) l)

-- both operands are known fractions of unknowns, S / W and S₂ / W₂
module _ (f : Format) {r t S W r₂ t₂ S₂ W₂ : ℕ} (k m k₂ m₂ k' m' : ℕ) {x y : Float} (s : Span r t S W) (s₂ : Span r₂ t₂ S₂ W₂) where
  pub mul-up-both : T (up_test f (r + r₂) (t + t₂) (k * k₂) (m * m₂) k' m') → Up x (k * S) (m * W) → Up y (k₂ * S₂) (m₂ * W₂) → Up (mul f x y) (k' * (S * S₂)) (m' * (W * W₂))
  mul-up-both u g h =
      let w = up_step f (k * k₂) (m * m₂) k' m' (span-mul s s₂) u in
      mul-up f (k' * (S * S₂)) (m' * (W * W₂)) w.range (scale (2 ^ prec f + 1) (2 ^ prec f) w.slack) g h
    where
      scale : (A B : ℕ) → k * k₂ * (m' * A) ≤ k' * B * (m * m₂) → k * S * (k₂ * S₂) * (m' * (W * W₂) * A) ≤ k' * (S * S₂) * B * (m * W * (m₂ * W₂))
      scale A B l = omega (arith, mul-le-mul_right (S * S₂ * (W * W₂)) l)

  pub mul-lo-both : T (lo_test f (r + r₂) (k * k₂) (m * m₂) k' m') → Lo x (k * S) (m * W) → Lo y (k₂ * S₂) (m₂ * W₂) → Lo (mul f x y) (k' * (S * S₂)) (m' * (W * W₂))
  mul-lo-both u g h =
      let w = lo-step f (k * k₂) (m * m₂) k' m' (span-mul s s₂) u in
      mul-lo f (k' * (S * S₂)) (m' * (W * W₂)) w.over w.normal (scale (2 ^ prec f - 1) (2 ^ prec f) w.slack) g h
    where
      scale : (A B : ℕ) → k' * B * (m * m₂) ≤ k * k₂ * (m' * A) → k' * (S * S₂) * B * (m * W * (m₂ * W₂)) ≤ k * S * (k₂ * S₂) * (m' * (W * W₂) * A)
      scale A B l = omega (arith, mul-le-mul_right (S * S₂ * (W * W₂)) l)

  pub div-up-both : 0 < k₂ → T (up_test f (r + t₂) (t + r₂) (k * m₂) (m * k₂) k' m') → Up x (k * S) (m * W) → Lo y (k₂ * S₂) (m₂ * W₂) → Up (div f x y) (k' * (S * W₂)) (m' * (W * S₂))
  div-up-both K u g h =
      let w = up_step f (k * m₂) (m * k₂) k' m' (span-div s s₂) u in
      div-up f (k' * (S * W₂)) (m' * (W * S₂)) w.range (mul-pos K (span-inv s₂).over) (scale (2 ^ prec f + 1) (2 ^ prec f) w.slack) g h
    where
      scale : (A B : ℕ) → k * m₂ * (m' * A) ≤ k' * B * (m * k₂) → k * S * (m₂ * W₂) * (m' * (W * S₂) * A) ≤ k' * (S * W₂) * B * (m * W * (k₂ * S₂))
      scale A B l = omega (arith, mul-le-mul_right (S * W₂ * (W * S₂)) l)

  pub div-lo-both : 0 < k → T (lo_test f (r + t₂) (k * m₂) (m * k₂) k' m') → Lo x (k * S) (m * W) → Up y (k₂ * S₂) (m₂ * W₂) → Lo (div f x y) (k' * (S * W₂)) (m' * (W * S₂))
  div-lo-both K u g h =
      let w = lo-step f (k * m₂) (m * k₂) k' m' (span-div s s₂) u in
      div-lo f (k' * (S * W₂)) (m' * (W * S₂)) w.over w.normal (mul-pos K (span-inv s).over) (scale (2 ^ prec f - 1) (2 ^ prec f) w.slack) g h
    where
      scale : (A B : ℕ) → k' * B * (m * k₂) ≤ k * m₂ * (m' * A) → k' * (S * W₂) * B * (m * W * (k₂ * S₂)) ≤ k * S * (m₂ * W₂) * (m' * (W * S₂) * A)
      scale A B l = omega (arith, mul-le-mul_right (S * W₂ * (W * S₂)) l)

-- the comparisons of two known fractions of one unknown
module _ {r t S W : ℕ} (k m k₂ m₂ : ℕ) {x y : Float} (s : Span r t S W) (g : Up x (k * S) (m * W)) (h : Lo y (k₂ * S) (m₂ * W)) where
  cross-by : k * m₂ ≤ k₂ * m → k * S * (m₂ * W) ≤ k₂ * S * (m * W)
  cross-by l = omega (arith, mul-le-mul_right (S * W) l)

  pub up-lo-not-by : T (leb (k * m₂) (k₂ * m)) → T (not (lt y x))
  up-lo-not-by u = up-lo-not x y g h (cross-by (leb→le (k * m₂) (k₂ * m) u))

  pub up-lo-lt-by : T (ltb (k * m₂) (k₂ * m)) → T (lt x y)
  up-lo-lt-by u =
      let l : k * S * (m₂ * W) < k₂ * S * (m * W) = omega (arith, mul-lt-mul_of_pos_right (ltb→lt (k * m₂) (k₂ * m) u) (mul-pos (span-inv s).over s.over)) in
      up-lo-lt x y g h l

-- ---- a test at every index below n, computed once
abbrev pub every : (ℕ → Bool) → ℕ → Bool
every t zero = true
every t (suc n) = every t n && t n

pub every-at : (t : ℕ → Bool) (n : ℕ) → T (every t n) → (i : ℕ) → i < n → T (t i)
every-at t zero u i h = absurd (not-suc-le-zero h)
every-at t (suc n) u i h =
    elim (eq-or-lt_of_le h) [
      | inl e ↦ subst (λ (j : ℕ). T (t j)) (sym (suc_inj e)) (and_r (every t n) (t n) u)
      | inr l ↦ every-at t n (and_l (every t n) (t n) u) i (le_of_suc-le-suc l)
    ]
