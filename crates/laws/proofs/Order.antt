-- The order of floats of either sign, and the operations that keep it. A finite float is the signed fraction (pos_part - neg_part) / den, one of the two parts being 0;
-- `Le` is the order of these fractions, and `Rounds f P N c z` says that z is (P - N) / c rounded. Rounding keeps the order, so each operation does where its exact result does.
-- Signed zeros, subnormal results and overflow to an infinity are included. Assumes nothing.
use mathlib.Core.Path.{◌≡◌, refl, sym, ap, ap₂, ◌∙◌, subst, subst₂}
use mathlib.Core.Logic.{◌⊎◌, inl, inr}
use Prim.Native.Nat.{ℕ, zero, suc, ◌+◌, ◌-◌, ◌*◌, ◌^◌, ◌≤◌, ◌<◌, zero-le}
use native.Mathlib.Nat.{le_trans, le_of_eq, le_of_lt, eq-zero-or-pos, lt_irrefl, lt-suc_self, mul_comm, mul_assoc, mul_left_comm, mul_right_comm, add-mul, mul-le-mul_right, le_of_mul-le-mul_right, mul-pos, zero-mul, mul-zero, add-zero, zero-add}
use native.Mathlib.Omega.{arith}
use mathlib.Core.Bool.{Bool, true, false, not, ◌&&◌, ◌||◌, cond}
use lib.IntN.{ℤ, pos}
use lib.Dec.{T, ltb, eqb, eqb→eq, ltb→lt, nltb→le}
use lib.Ieee.{Float, nan, inf, fin, Format, binary32, binary64, prec, low, emax, up, down, unlike, odd, units, round, neg, add, sub, mul, div, lt, eq, le}
use lib.Ieee.Fits.{up_pos, and_i, and_l, and_r, eq→eqb, round_is}
use lib.Ieee.Order.{round_mono, kept, drop}
use lib.Ieee.Scale.{round_same, finite}
use lib.Ieee.Positive.{num, den, den_pos, positive, le→cross}

-- ---- a finite float as a signed fraction
abbrev pub pos_part : Float → ℕ
pos_part nan = 0
pos_part (inf s) = 0
pos_part (fin false m e) = m * up e
pos_part (fin true m e) = 0

abbrev pub neg_part : Float → ℕ
neg_part nan = 0
neg_part (inf s) = 0
neg_part (fin false m e) = 0
neg_part (fin true m e) = m * up e

abbrev pub Le : Float → Float → Type 0
Le x y = pos_part x * den y + neg_part y * den x ≤ pos_part y * den x + neg_part x * den y

-- ---- the test and the order of fractions
or_split : (a b : Bool) → T (a || b) → T a ⊎ T b
or_split true b t = inl tt
or_split false b t = inr t

-- c is a test that passes where a and b are equal
at_most : (a b : ℕ) (c : Bool) → (T c → a ≡ b) → T (ltb a b || c) → a ≤ b
at_most a b c k t = elim (or_split (ltb a b) c t) [ inl u ↦ le_of_lt (ltb→lt a b u) | inr u ↦ le_of_eq (k u) ]

test-most : (a b : ℕ) (c : Bool) → (a ≡ b → T c) → a ≤ b → T (ltb a b || c)
test-most a b c k h = go (ltb a b) (nltb→le a b)
  where
    go : (u : Bool) → (T (not u) → b ≤ a) → T (u || c)
    go true g = tt
    go false g = k (let l : b ≤ a = g tt in omega arith)

-- of unlike signs: only zeros are level
opposite : (a b : ℕ) → T (ltb 0 (a + b) || (eqb a b && eqb a 0))
opposite a b = go (ltb 0 (a + b)) (nltb→le 0 (a + b))
  where
    go : (u : Bool) → (T (not u) → a + b ≤ 0) → T (u || (eqb a b && eqb a 0))
    go true k = tt
    go false k = let g : a + b ≤ 0 = k tt in let l : a ≡ b = omega arith in let z : a ≡ 0 = omega arith in and_i (eqb a b) (eqb a 0) (eq→eqb l) (eq→eqb z)

pub le→Le : (x y : Float) → T (finite x) → T (finite y) → T (le x y) → Le x y
unfolding le
le→Le nan y p q h = absurd p
le→Le (inf s) y p q h = absurd p
le→Le (fin s m e) nan p q h = absurd q
le→Le (fin s m e) (inf t) p q h = absurd q
le→Le (fin false m e) (fin false n d) p q h =
    let a = m * up e * down d in
    let b = n * up d * down e in
    let k = at_most a b (eqb a b && true) (λ (t : T (eqb a b && true)). eqb→eq a b (and_l (eqb a b) true t)) h in
    omega arith
le→Le (fin false m e) (fin true n d) p q h =
    let a = m * up e * down d in
    let b = n * up d * down e in
    let k = eqb→eq a b (and_l (eqb a b) (eqb a 0) h) in
    let l = eqb→eq a 0 (and_r (eqb a b) (eqb a 0) h) in
    omega arith
le→Le (fin true m e) (fin false n d) p q h = omega arith
le→Le (fin true m e) (fin true n d) p q h =
    let a = m * up e * down d in
    let b = n * up d * down e in
    let k = at_most b a (eqb a b && true) (λ (t : T (eqb a b && true)). sym (eqb→eq a b (and_l (eqb a b) true t))) h in
    omega arith

pub Le→le : (x y : Float) → T (finite x) → T (finite y) → Le x y → T (le x y)
unfolding le
Le→le nan y p q h = absurd p
Le→le (inf s) y p q h = absurd p
Le→le (fin s m e) nan p q h = absurd q
Le→le (fin s m e) (inf t) p q h = absurd q
Le→le (fin false m e) (fin false n d) p q h =
    let a = m * up e * down d in
    let b = n * up d * down e in
    test-most a b (eqb a b && true) (λ (k : a ≡ b). and_i (eqb a b) true (eq→eqb k) tt) (omega arith)
Le→le (fin false m e) (fin true n d) p q h =
    let a : m * up e * down d ≡ 0 = omega arith in
    let b : n * up d * down e ≡ 0 = omega arith in
    and_i (eqb (m * up e * down d) (n * up d * down e)) (eqb (m * up e * down d) 0) (eq→eqb (a ∙ sym b)) (eq→eqb a)
Le→le (fin true m e) (fin false n d) p q h = opposite (m * up e * down d) (n * up d * down e)
Le→le (fin true m e) (fin true n d) p q h =
    let a = m * up e * down d in
    let b = n * up d * down e in
    test-most b a (eqb a b && true) (λ (k : b ≡ a). and_i (eqb a b) true (eq→eqb (sym k)) tt) (omega arith)

-- ---- three signed fractions: (P - N) / c ≤ (Q - M) / d ≤ (R - L) / e
chain : (P N c Q M d R L e : ℕ) → 0 < d → P * d + M * c ≤ Q * c + N * d → Q * e + L * d ≤ R * d + M * e → P * e + L * c ≤ R * c + N * e
chain P N c Q M d R L e D h k =
    let x : P * d * e + M * c * e ≤ Q * c * e + N * d * e = subst₂ (λ (a b : ℕ). a ≤ b) (add-mul (P * d) (M * c) e) (add-mul (Q * c) (N * d) e) (mul-le-mul_right e h) in
    let y : Q * e * c + L * d * c ≤ R * d * c + M * e * c = subst₂ (λ (a b : ℕ). a ≤ b) (add-mul (Q * e) (L * d) c) (add-mul (R * d) (M * e) c) (mul-le-mul_right c k) in
    let u : M * c * e ≡ M * e * c = mul_right_comm M c e in
    let v : Q * c * e ≡ Q * e * c = mul_right_comm Q c e in
    let l : (P * e + L * c) * d ≡ P * d * e + L * d * c = add-mul (P * e) (L * c) d ∙ ap₂ (λ (a b : ℕ). a + b) (mul_right_comm P e d) (mul_right_comm L c d) in
    let r : (R * c + N * e) * d ≡ R * d * c + N * d * e = add-mul (R * c) (N * e) d ∙ ap₂ (λ (a b : ℕ). a + b) (mul_right_comm R c d) (mul_right_comm N e d) in
    le_of_mul-le-mul_right (le_trans (le_of_eq l) (le_trans (let z : P * d * e + L * d * c ≤ R * d * c + N * d * e = omega arith in z) (le_of_eq (sym r)))) D

Le-trans : (x y z : Float) → Le x y → Le y z → Le x z
Le-trans x y z h k = chain (pos_part x) (neg_part x) (den x) (pos_part y) (neg_part y) (den y) (pos_part z) (neg_part z) (den z) (den_pos y) h k

-- ---- the test on any floats: a NaN makes it false, on either side
pub le-trans-float : (x y z : Float) → T (le x y) → T (le y z) → T (le x z)
unfolding le
le-trans-float nan y z h k = absurd h
le-trans-float (inf s) nan z h k = absurd h
le-trans-float (inf true) (inf t) nan h k = absurd k
le-trans-float (inf true) (inf t) (inf true) h k = tt
le-trans-float (inf true) (inf t) (inf false) h k = tt
le-trans-float (inf true) (inf t) (fin u o g) h k = tt
le-trans-float (inf false) (inf true) z h k = absurd h
le-trans-float (inf false) (inf false) nan h k = absurd k
le-trans-float (inf false) (inf false) (inf true) h k = absurd k
le-trans-float (inf false) (inf false) (inf false) h k = tt
le-trans-float (inf false) (inf false) (fin u o g) h k = absurd k
le-trans-float (inf true) (fin t n d) nan h k = absurd k
le-trans-float (inf true) (fin t n d) (inf true) h k = tt
le-trans-float (inf true) (fin t n d) (inf false) h k = tt
le-trans-float (inf true) (fin t n d) (fin u o g) h k = tt
le-trans-float (inf false) (fin t n d) z h k = absurd h
le-trans-float (fin s m e) nan z h k = absurd h
le-trans-float (fin s m e) (inf true) z h k = absurd h
le-trans-float (fin s m e) (inf false) nan h k = absurd k
le-trans-float (fin s m e) (inf false) (inf true) h k = absurd k
le-trans-float (fin s m e) (inf false) (inf false) h k = tt
le-trans-float (fin s m e) (inf false) (fin u o g) h k = absurd k
le-trans-float (fin s m e) (fin t n d) nan h k = absurd k
le-trans-float (fin s m e) (fin t n d) (inf u) h k = k
le-trans-float (fin s m e) (fin t n d) (fin u o g) h k =
    Le→le (fin s m e) (fin u o g) tt tt (Le-trans (fin s m e) (fin t n d) (fin u o g) (le→Le (fin s m e) (fin t n d) tt tt h) (le→Le (fin t n d) (fin u o g) tt tt k))

-- T (le x x) says that x is not a NaN
pub le-refl-finite : (x : Float) → T (finite x) → T (le x x)
le-refl-finite x p = Le→le x x p p (le_of_eq refl)

pub le-ordered : (x y : Float) → T (le x y) → T (le y y)
unfolding le
le-ordered x nan h = absurd (nothing x h)
  where
    nothing : (x : Float) → T (le x nan) → ⊥
    nothing nan t = t
    nothing (inf s) t = t
    nothing (fin s m e) t = t
le-ordered x (inf true) h = tt
le-ordered x (inf false) h = tt
le-ordered x (fin t n d) h = le-refl-finite (fin t n d) tt

not-below : (s : Bool) (m : ℕ) (e : ℤ) (t : Bool) (n : ℕ) (d : ℤ) → T (not (lt (fin s m e) (fin t n d))) → Le (fin t n d) (fin s m e)
unfolding lt
not-below false m e false n d h = let k = nltb→le (m * up e * down d) (n * up d * down e) h in omega arith
not-below false m e true n d h = omega arith
not-below true m e false n d h = let k = nltb→le 0 (m * up e * down d + n * up d * down e) h in omega arith
not-below true m e true n d h = let k = nltb→le (n * up d * down e) (m * up e * down d) h in omega arith

pub not-lt→le : (x y : Float) → T (finite x) → T (finite y) → lt x y ≡ false → T (le y x)
not-lt→le nan y p q h = absurd p
not-lt→le (inf s) y p q h = absurd p
not-lt→le (fin s m e) nan p q h = absurd q
not-lt→le (fin s m e) (inf t) p q h = absurd q
not-lt→le (fin s m e) (fin t n d) p q h = Le→le (fin t n d) (fin s m e) tt tt (not-below s m e t n d (subst (λ (b : Bool). T (not b)) (sym h) tt))

pub lt→le : (x y : Float) → T (lt x y) → T (le x y)
unfolding le
lt→le x y h = go (lt x y) h
  where
    go : (b : Bool) → T b → T (b || eq x y)
    go true t = tt
    go false t = absurd t

pub le_total : (x y : Float) → T (le x x) → T (le y y) → T (le x y) ⊎ T (le y x)
unfolding le
le_total nan y p q = absurd p
le_total (inf s) nan p q = absurd q
le_total (inf true) (inf true) p q = inl tt
le_total (inf true) (inf false) p q = inl tt
le_total (inf false) (inf true) p q = inr tt
le_total (inf false) (inf false) p q = inl tt
le_total (inf true) (fin t n d) p q = inl tt
le_total (inf false) (fin t n d) p q = inr tt
le_total (fin s m e) nan p q = absurd q
le_total (fin s m e) (inf true) p q = inr tt
le_total (fin s m e) (inf false) p q = inl tt
le_total (fin s m e) (fin t n d) p q = go (lt (fin s m e) (fin t n d)) (lt→le (fin s m e) (fin t n d)) (not-below s m e t n d)
  where
    go : (b : Bool) → (T b → T (le (fin s m e) (fin t n d))) → (T (not b) → Le (fin t n d) (fin s m e)) → T (le (fin s m e) (fin t n d)) ⊎ T (le (fin t n d) (fin s m e))
    go true h k = inl (h tt)
    go false h k = inr (Le→le (fin t n d) (fin s m e) tt tt (k tt))

pub finite-between : (l z h : Float) → T (finite l) → T (finite h) → T (le l z) → T (le z h) → T (finite z)
unfolding le
finite-between nan z h p q a b = absurd p
finite-between (inf s) z h p q a b = absurd p
finite-between (fin s m e) nan h p q a b = absurd a
finite-between (fin s m e) (inf true) h p q a b = absurd a
finite-between (fin s m e) (inf false) nan p q a b = absurd q
finite-between (fin s m e) (inf false) (inf t) p q a b = absurd q
finite-between (fin s m e) (inf false) (fin t n d) p q a b = absurd b
finite-between (fin s m e) (fin t n d) h p q a b = tt

-- ---- the sign turned
Le-neg : (s : Bool) (m : ℕ) (e : ℤ) (t : Bool) (n : ℕ) (d : ℤ) → Le (fin s m e) (fin t n d) → Le (fin (not t) n d) (fin (not s) m e)
Le-neg false m e false n d h = omega arith
Le-neg false m e true n d h = omega arith
Le-neg true m e false n d h = omega arith
Le-neg true m e true n d h = omega arith

pub neg-anti : (x y : Float) → T (le x y) → T (le (neg y) (neg x))
unfolding le neg
neg-anti nan y h = absurd h
neg-anti (inf s) nan h = absurd h
neg-anti (inf true) (inf true) h = tt
neg-anti (inf true) (inf false) h = tt
neg-anti (inf false) (inf true) h = absurd h
neg-anti (inf false) (inf false) h = tt
neg-anti (inf true) (fin t n d) h = tt
neg-anti (inf false) (fin t n d) h = absurd h
neg-anti (fin s m e) nan h = absurd h
neg-anti (fin s m e) (inf true) h = absurd h
neg-anti (fin s m e) (inf false) h = tt
neg-anti (fin s m e) (fin t n d) h = Le→le (fin (not t) n d) (fin (not s) m e) tt tt (Le-neg s m e t n d (le→Le (fin s m e) (fin t n d) tt tt h))

pub neg-finite : (x : Float) → T (finite x) → T (finite (neg x))
unfolding neg
neg-finite nan p = absurd p
neg-finite (inf s) p = absurd p
neg-finite (fin s m e) p = tt

-- ---- rounding of a signed fraction
odd-neg : (d q k l : ℕ) → odd d true q k l ≡ neg (odd d false q k l)
unfolding odd neg
odd-neg d zero k l = refl
odd-neg d (suc q) k l = refl

units-neg : (f : Format) (q k : ℕ) → units f true q k ≡ neg (units f false q k)
unfolding units neg
units-neg f q k = go (ltb (q * 2 ^ k) (2 ^ (low f + suc (emax f))))
  where
    go : (b : Bool) → cond b (odd (suc (prec f)) true q k (low f)) (inf true) ≡ neg (cond b (odd (suc (prec f)) false q k (low f)) (inf false))
    go true = odd-neg (suc (prec f)) q k (low f)
    go false = refl

pub round-neg : (f : Format) (a c : ℕ) → round f true a c ≡ neg (round f false a c)
round-neg f a c =
    round_is f true a c
    ∙ units-neg f (kept (prec f) (a * 2 ^ low f) c) (drop (prec f) (a * 2 ^ low f) c)
    ∙ ap neg (sym (round_is f false a c))

zero-round : (f : Format) (s : Bool) → round f s 0 1 ≡ fin s 0 (pos 0)
unfolding round
zero-round binary32 s = refl
zero-round binary64 s = refl

pub round-zero : (f : Format) (s : Bool) (c : ℕ) → 0 < c → round f s 0 c ≡ fin s 0 (pos 0)
round-zero f s c C = round_same f s 0 c 0 1 C (lt-suc_self 0) (sym (zero-mul c)) ∙ zero-round f s

pub data Rounds (f : Format) (P N c : ℕ) (z : Float) : Type 0 where
  plus : (a : ℕ) → a + N ≡ P → z ≡ round f false a c → Rounds f P N c z
  less : (a : ℕ) → a + P ≡ N → z ≡ round f true a c → Rounds f P N c z

zeros : (f : Format) (s t : Bool) (a b c d : ℕ) → 0 < c → 0 < d → a ≡ 0 → b ≡ 0 → T (le (round f s a c) (round f t b d))
unfolding le
zeros f s t a b c d C D p q =
    subst₂ (λ (x y : Float). T (le x y)) (sym (ap (λ (k : ℕ). round f s k c) p ∙ round-zero f s c C)) (sym (ap (λ (k : ℕ). round f t k d) q ∙ round-zero f t d D)) (level s t)
  where
    level : (s t : Bool) → T (le (fin s 0 (pos 0)) (fin t 0 (pos 0)))
    level false false = tt
    level false true = tt
    level true false = tt
    level true true = tt

less-plus : (f : Format) (a b c d : ℕ) → 0 < c → 0 < d → T (le (round f true a c) (round f false b d))
less-plus f a b c d C D =
    le-trans-float (round f true a c) (round f true 0 c) (round f false b d)
    (subst₂ (λ (x y : Float). T (le x y)) (sym (round-neg f a c)) (sym (round-neg f 0 c)) (neg-anti (round f false 0 c) (round f false a c) (round_mono f 0 c a c C C (mul-le-mul_right c zero-le))))
    (le-trans-float (round f true 0 c) (round f false 0 d) (round f false b d) (zeros f true false 0 0 c d C D refl refl) (round_mono f 0 d b d D D (mul-le-mul_right d zero-le)))

no-product : (a d : ℕ) → 0 < d → a * d ≡ 0 → a ≡ 0
no-product a d D e = elim (eq-zero-or-pos a) [ inl z ↦ z | inr p ↦ absurd (lt_irrefl 0 (subst (λ (k : ℕ). 0 < k) e (mul-pos p D))) ]

pub rounds-mono : (f : Format) (P N c P' N' d : ℕ) (z z' : Float) → 0 < c → 0 < d → Rounds f P N c z → Rounds f P' N' d z' → P * d + N' * c ≤ P' * c + N * d → T (le z z')
rounds-mono f P N c P' N' d z z' C D (plus a p e) (plus b q g) h =
    let x : P * d ≡ a * d + N * d = ap (λ (k : ℕ). k * d) (sym p) ∙ add-mul a N d in
    let y : P' * c ≡ b * c + N' * c = ap (λ (k : ℕ). k * c) (sym q) ∙ add-mul b N' c in
    subst₂ (λ (u v : Float). T (le u v)) (sym e) (sym g) (round_mono f a c b d C D (omega arith))
rounds-mono f P N c P' N' d z z' C D (plus a p e) (less b q g) h =
    let x : P * d ≡ a * d + N * d = ap (λ (k : ℕ). k * d) (sym p) ∙ add-mul a N d in
    let y : N' * c ≡ b * c + P' * c = ap (λ (k : ℕ). k * c) (sym q) ∙ add-mul b P' c in
    subst₂ (λ (u v : Float). T (le u v)) (sym e) (sym g) (zeros f false true a b c d C D (no-product a d D (omega arith)) (no-product b c C (omega arith)))
rounds-mono f P N c P' N' d z z' C D (less a p e) (plus b q g) h = subst₂ (λ (u v : Float). T (le u v)) (sym e) (sym g) (less-plus f a b c d C D)
rounds-mono f P N c P' N' d z z' C D (less a p e) (less b q g) h =
    let x : N * d ≡ a * d + P * d = ap (λ (k : ℕ). k * d) (sym p) ∙ add-mul a P d in
    let y : N' * c ≡ b * c + P' * c = ap (λ (k : ℕ). k * c) (sym q) ∙ add-mul b P' c in
    subst₂ (λ (u v : Float). T (le u v)) (sym (e ∙ round-neg f a c)) (sym (g ∙ round-neg f b d)) (neg-anti (round f false b d) (round f false a c) (round_mono f b d a c D C (omega arith)))

-- so what is rounded is not a NaN
pub rounds-ordered : (f : Format) (P N c : ℕ) (z : Float) → 0 < c → Rounds f P N c z → T (le z z)
rounds-ordered f P N c z C r = rounds-mono f P N c P N c z z C C r r (le_of_eq refl)

num_pos : (x : Float) → T (positive x) → 0 < num x
num_pos nan p = absurd p
num_pos (inf s) p = absurd p
num_pos (fin true m e) p = absurd p
num_pos (fin false m e) p = mul-pos (ltb→lt 0 m p) (up_pos e)

-- ---- the operations round their exact result
pub add_rounds : (f : Format) (x y : Float) → T (finite x) → T (finite y)
    → Rounds f (pos_part x * den y + pos_part y * den x) (neg_part x * den y + neg_part y * den x) (den x * den y) (add f x y)
unfolding add
add_rounds f nan y p q = absurd p
add_rounds f (inf s) y p q = absurd p
add_rounds f (fin s m e) nan p q = absurd q
add_rounds f (fin s m e) (inf t) p q = absurd q
add_rounds f (fin false m e) (fin false n d) p q = plus (m * up e * down d + n * up d * down e) (omega arith) refl
add_rounds f (fin false m e) (fin true n d) p q = go (m * up e * down d) (n * up d * down e) (ltb (m * up e * down d) (n * up d * down e)) (ltb→lt (m * up e * down d) (n * up d * down e)) (nltb→le (m * up e * down d) (n * up d * down e))
  where
    go : (a b : ℕ) (u : Bool) → (T u → a < b) → (T (not u) → b ≤ a)
        → Rounds f (a + 0 * down e) (0 * down d + b) (down e * down d) (cond u (round f true (b - a) (down e * down d)) (round f false (a - b) (down e * down d)))
    go a b true h k = let l : a < b = h tt in less (b - a) (omega arith) refl
    go a b false h k = let l : b ≤ a = k tt in plus (a - b) (omega arith) refl
add_rounds f (fin true m e) (fin false n d) p q =
    let a = m * up e * down d in
    let b = n * up d * down e in
    go a b (ltb a b) (ltb b a) (ltb→lt a b) (nltb→le a b) (ltb→lt b a) (nltb→le b a)
  where
    go : (a b : ℕ) (u v : Bool) → (T u → a < b) → (T (not u) → b ≤ a) → (T v → b < a) → (T (not v) → a ≤ b)
        → Rounds f (0 * down d + b) (a + 0 * down e) (down e * down d) (cond u (round f false (b - a) (down e * down d)) (round f v (a - b) (down e * down d)))
    go a b true v h k h' k' = let l : a < b = h tt in plus (b - a) (omega arith) refl
    go a b false true h k h' k' = let l : b ≤ a = k tt in less (a - b) (omega arith) refl
    go a b false false h k h' k' = let l : b ≤ a = k tt in let l' : a ≤ b = k' tt in plus (a - b) (omega arith) refl
add_rounds f (fin true m e) (fin true n d) p q = less (m * up e * down d + n * up d * down e) (omega arith) refl

pub mul-rounds : (f : Format) (x y : Float) → T (finite x) → T (finite y)
    → Rounds f (pos_part x * pos_part y + neg_part x * neg_part y) (pos_part x * neg_part y + neg_part x * pos_part y) (den x * den y) (mul f x y)
unfolding mul
mul-rounds f nan y p q = absurd p
mul-rounds f (inf s) y p q = absurd p
mul-rounds f (fin s m e) nan p q = absurd q
mul-rounds f (fin s m e) (inf t) p q = absurd q
mul-rounds f (fin false m e) (fin false n d) p q = plus (m * up e * (n * up d)) (omega arith) refl
mul-rounds f (fin false m e) (fin true n d) p q = less (m * up e * (n * up d)) (omega arith) refl
mul-rounds f (fin true m e) (fin false n d) p q = less (m * up e * (n * up d)) (omega arith) refl
mul-rounds f (fin true m e) (fin true n d) p q = plus (m * up e * (n * up d)) (omega arith) refl

pub div-rounds : (f : Format) (x y : Float) → T (finite x) → T (positive y) → Rounds f (pos_part x * den y) (neg_part x * den y) (num y * den x) (div f x y)
unfolding div
div-rounds f nan y p q = absurd p
div-rounds f (inf s) y p q = absurd p
div-rounds f (fin s m e) nan p q = absurd q
div-rounds f (fin s m e) (inf t) p q = absurd q
div-rounds f (fin s m e) (fin true n d) p q = absurd q
div-rounds f (fin false m e) (fin false n d) p q = go (eqb n 0) (eqb→eq n 0)
  where
    go : (u : Bool) → (T u → n ≡ 0) → Rounds f (m * up e * down d) (0 * down d) (n * up d * down e) (cond u (cond (eqb m 0) nan (inf false)) (round f false (m * up e * down d) (n * up d * down e)))
    go true h = absurd (lt_irrefl 0 (subst (λ (k : ℕ). 0 < k) (h tt) (ltb→lt 0 n q)))
    go false h = plus (m * up e * down d) (omega arith) refl
div-rounds f (fin true m e) (fin false n d) p q = go (eqb n 0) (eqb→eq n 0)
  where
    go : (u : Bool) → (T u → n ≡ 0) → Rounds f (0 * down d) (m * up e * down d) (n * up d * down e) (cond u (cond (eqb m 0) nan (inf true)) (round f true (m * up e * down d) (n * up d * down e)))
    go true h = absurd (lt_irrefl 0 (subst (λ (k : ℕ). 0 < k) (h tt) (ltb→lt 0 n q)))
    go false h = less (m * up e * down d) (omega arith) refl

-- ---- the sum and the difference
add-cross : (X U a X' U' a' Y W b Y' W' b' : ℕ) → X * a' + U' * a ≤ X' * a + U * a' → Y * b' + W' * b ≤ Y' * b + W * b'
    → (X * b + Y * a) * (a' * b') + (U' * b' + W' * a') * (a * b) ≤ (X' * b' + Y' * a') * (a * b) + (U * b + W * a) * (a' * b')
add-cross X U a X' U' a' Y W b Y' W' b' h k =
    let p = simp (add-mul, mul_assoc, mul_comm) at (mul-le-mul_right (b * b') h) in
    let q = simp (add-mul, mul_assoc, mul_comm, mul_left_comm) at (mul-le-mul_right (a * a') k) in
    simp (add-mul, mul_assoc, mul_comm, mul_left_comm) (omega arith)

pub add-mono : (f : Format) (x x' y y' : Float) → T (finite x) → T (finite x') → T (finite y) → T (finite y') → T (le x x') → T (le y y') → T (le (add f x y) (add f x' y'))
add-mono f x x' y y' p p' q q' h k =
    rounds-mono f (pos_part x * den y + pos_part y * den x) (neg_part x * den y + neg_part y * den x) (den x * den y)
    (pos_part x' * den y' + pos_part y' * den x') (neg_part x' * den y' + neg_part y' * den x') (den x' * den y') (add f x y) (add f x' y')
    (mul-pos (den_pos x) (den_pos y)) (mul-pos (den_pos x') (den_pos y')) (add_rounds f x y p q) (add_rounds f x' y' p' q')
    (add-cross (pos_part x) (neg_part x) (den x) (pos_part x') (neg_part x') (den x') (pos_part y) (neg_part y) (den y) (pos_part y') (neg_part y') (den y') (le→Le x x' p p' h) (le→Le y y' q q' k))

pub sub-mono : (f : Format) (x x' y y' : Float) → T (finite x) → T (finite x') → T (finite y) → T (finite y') → T (le x x') → T (le y' y) → T (le (sub f x y) (sub f x' y'))
unfolding sub
sub-mono f x x' y y' p p' q q' h k = add-mono f x x' (neg y) (neg y') p p' (neg-finite y q) (neg-finite y' q') h (neg-anti y' y k)

-- ---- the product
abbrev pub nought : Float
nought = fin false 0 (pos 0)

one-part : (x : Float) → (pos_part x ≡ 0) ⊎ (neg_part x ≡ 0)
one-part nan = inl refl
one-part (inf s) = inl refl
one-part (fin false m e) = inr refl
one-part (fin true m e) = inl refl

pub nonneg : (y : Float) → T (finite y) → T (le nought y) → neg_part y ≡ 0
nonneg y p h =
    let l : 0 * den y + neg_part y * 1 ≤ pos_part y * 1 + 0 * den y = le→Le nought y tt p h in
    elim (one-part y) [ inl e ↦ omega arith | inr e ↦ e ]

pub nonpos : (y : Float) → T (finite y) → T (le y nought) → pos_part y ≡ 0
nonpos y p h =
    let l : pos_part y * 1 + 0 * den y ≤ 0 * den y + neg_part y * 1 = le→Le y nought p tt h in
    elim (one-part y) [ inl e ↦ e | inr e ↦ omega arith ]

mul-cross : (X U a X' U' a' Y W b : ℕ) → W ≡ 0 → X * a' + U' * a ≤ X' * a + U * a'
    → (X * Y + U * W) * (a' * b) + (X' * W + U' * Y) * (a * b) ≤ (X' * Y + U' * W) * (a * b) + (X * W + U * Y) * (a' * b)
mul-cross X U a X' U' a' Y W b e h =
    let p = simp (add-mul, mul_assoc, mul_comm) at (mul-le-mul_right (Y * b) h) in
    simp (e, mul-zero, add-zero, zero-add, mul_assoc, mul_left_comm) (omega arith)

mul-cross-neg : (X U a X' U' a' Y W b : ℕ) → Y ≡ 0 → X * a' + U' * a ≤ X' * a + U * a'
    → (X' * Y + U' * W) * (a * b) + (X * W + U * Y) * (a' * b) ≤ (X * Y + U * W) * (a' * b) + (X' * W + U' * Y) * (a * b)
mul-cross-neg X U a X' U' a' Y W b e h =
    let p = simp (add-mul, mul_assoc, mul_comm) at (mul-le-mul_right (W * b) h) in
    simp (e, mul-zero, add-zero, zero-add, mul_assoc, mul_left_comm) (omega arith)

pub mul-mono-pos : (f : Format) (x x' y : Float) → T (finite x) → T (finite x') → T (finite y) → T (le nought y) → T (le x x') → T (le (mul f x y) (mul f x' y))
mul-mono-pos f x x' y p p' q s h =
    rounds-mono f (pos_part x * pos_part y + neg_part x * neg_part y) (pos_part x * neg_part y + neg_part x * pos_part y) (den x * den y)
    (pos_part x' * pos_part y + neg_part x' * neg_part y) (pos_part x' * neg_part y + neg_part x' * pos_part y) (den x' * den y) (mul f x y) (mul f x' y)
    (mul-pos (den_pos x) (den_pos y)) (mul-pos (den_pos x') (den_pos y)) (mul-rounds f x y p q) (mul-rounds f x' y p' q)
    (mul-cross (pos_part x) (neg_part x) (den x) (pos_part x') (neg_part x') (den x') (pos_part y) (neg_part y) (den y) (nonneg y q s) (le→Le x x' p p' h))

pub mul-mono-neg : (f : Format) (x x' y : Float) → T (finite x) → T (finite x') → T (finite y) → T (le y nought) → T (le x x') → T (le (mul f x' y) (mul f x y))
mul-mono-neg f x x' y p p' q s h =
    rounds-mono f (pos_part x' * pos_part y + neg_part x' * neg_part y) (pos_part x' * neg_part y + neg_part x' * pos_part y) (den x' * den y)
    (pos_part x * pos_part y + neg_part x * neg_part y) (pos_part x * neg_part y + neg_part x * pos_part y) (den x * den y) (mul f x' y) (mul f x y)
    (mul-pos (den_pos x') (den_pos y)) (mul-pos (den_pos x) (den_pos y)) (mul-rounds f x' y p' q) (mul-rounds f x y p q)
    (mul-cross-neg (pos_part x) (neg_part x) (den x) (pos_part x') (neg_part x') (den x') (pos_part y) (neg_part y) (den y) (nonpos y q s) (le→Le x x' p p' h))

unlike-comm : (s t : Bool) → unlike s t ≡ unlike t s
unlike-comm false false = refl
unlike-comm false true = refl
unlike-comm true false = refl
unlike-comm true true = refl

pub mul-comm-float : (f : Format) (x y : Float) → mul f x y ≡ mul f y x
unfolding mul
mul-comm-float f nan nan = refl
mul-comm-float f nan (inf t) = refl
mul-comm-float f nan (fin t n d) = refl
mul-comm-float f (inf s) nan = refl
mul-comm-float f (inf s) (inf t) = ap inf (unlike-comm s t)
mul-comm-float f (inf s) (fin t n d) = ap (λ (b : Bool). cond (eqb n 0) nan (inf b)) (unlike-comm s t)
mul-comm-float f (fin s m e) nan = refl
mul-comm-float f (fin s m e) (inf t) = ap (λ (b : Bool). cond (eqb m 0) nan (inf b)) (unlike-comm s t)
mul-comm-float f (fin s m e) (fin t n d) =
    ap (λ (b : Bool). round f b (m * up e * (n * up d)) (down e * down d)) (unlike-comm s t)
    ∙ ap₂ (λ (a c : ℕ). round f (unlike t s) a c) (mul_comm (m * up e) (n * up d)) (mul_comm (down e) (down d))

-- ---- the quotient by a divisor above zero
pub div_mono : (f : Format) (x x' y : Float) → T (finite x) → T (finite x') → T (positive y) → T (le x x') → T (le (div f x y) (div f x' y))
div_mono f x x' y p p' q h =
    rounds-mono f (pos_part x * den y) (neg_part x * den y) (num y * den x) (pos_part x' * den y) (neg_part x' * den y) (num y * den x') (div f x y) (div f x' y)
    (mul-pos (num_pos y q) (den_pos x)) (mul-pos (num_pos y q) (den_pos x')) (div-rounds f x y p q) (div-rounds f x' y p' q)
    (cross (pos_part x) (neg_part x) (den x) (pos_part x') (neg_part x') (den x') (num y) (den y) (le→Le x x' p p' h))
  where
    cross : (X U a X' U' a' Y b : ℕ) → X * a' + U' * a ≤ X' * a + U * a' → X * b * (Y * a') + U' * b * (Y * a) ≤ X' * b * (Y * a) + U * b * (Y * a')
    cross X U a X' U' a' Y b h =
        let p = simp (add-mul, mul_assoc, mul_comm) at (mul-le-mul_right (Y * b) h) in
        simp (mul_assoc, mul_comm, mul_left_comm) (omega arith)

-- a larger divisor gives a smaller quotient of what is not negative, and a larger one of what is not positive
pub div-anti-pos : (f : Format) (x y y' : Float) → T (finite x) → T (positive y) → T (positive y') → T (le nought x) → T (le y y') → T (le (div f x y') (div f x y))
div-anti-pos f x y y' p q q' s h =
    rounds-mono f (pos_part x * den y') (neg_part x * den y') (num y' * den x) (pos_part x * den y) (neg_part x * den y) (num y * den x) (div f x y') (div f x y)
    (mul-pos (num_pos y' q') (den_pos x)) (mul-pos (num_pos y q) (den_pos x)) (div-rounds f x y' p q') (div-rounds f x y p q)
    (cross (pos_part x) (neg_part x) (den x) (num y) (den y) (num y') (den y') (nonneg x p s) (le→cross y y' q q' h))
  where
    cross : (X U a Y b Y' b' : ℕ) → U ≡ 0 → Y * b' ≤ Y' * b → X * b' * (Y * a) + U * b * (Y' * a) ≤ X * b * (Y' * a) + U * b' * (Y * a)
    cross X U a Y b Y' b' e h =
        let p = simp (mul_assoc, mul_comm, mul_left_comm) at (mul-le-mul_right (X * a) h) in
        simp (e, zero-mul, mul_assoc, mul_comm, mul_left_comm) (omega arith)

pub div-mono-neg : (f : Format) (x y y' : Float) → T (finite x) → T (positive y) → T (positive y') → T (le x nought) → T (le y y') → T (le (div f x y) (div f x y'))
div-mono-neg f x y y' p q q' s h =
    rounds-mono f (pos_part x * den y) (neg_part x * den y) (num y * den x) (pos_part x * den y') (neg_part x * den y') (num y' * den x) (div f x y) (div f x y')
    (mul-pos (num_pos y q) (den_pos x)) (mul-pos (num_pos y' q') (den_pos x)) (div-rounds f x y p q) (div-rounds f x y' p q')
    (cross (pos_part x) (neg_part x) (den x) (num y) (den y) (num y') (den y') (nonpos x p s) (le→cross y y' q q' h))
  where
    cross : (X U a Y b Y' b' : ℕ) → X ≡ 0 → Y * b' ≤ Y' * b → X * b * (Y' * a) + U * b' * (Y * a) ≤ X * b' * (Y * a) + U * b * (Y' * a)
    cross X U a Y b Y' b' e h =
        let p = simp (mul_assoc, mul_comm, mul_left_comm) at (mul-le-mul_right (U * a) h) in
        simp (e, zero-mul, mul_assoc, mul_comm, mul_left_comm) (omega arith)
