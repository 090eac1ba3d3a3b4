-- Two values that a format holds and that are one number are equal as data; products that are exact, by a power of two above all; the powers of two by their patterns.
-- Assumes nothing.
use mathlib.Core.Path.{◌≡◌, refl, sym, ap, ◌∙◌, subst}
use Prim.Native.Nat.{ℕ, zero, suc, ◌+◌, ◌-◌, ◌*◌, ◌/◌, ◌%◌, ◌^◌, ◌≤◌, ◌<◌}
use native.Mathlib.Nat.{le_trans, le_of_eq, lt_of_lt_of_le, lt_of_le_of_lt, lt_irrefl, lt_of_not-le, zero-lt-suc, mul-one, one-mul, zero-mul, mul-pos, mul_assoc, mul_comm, mul_left_comm, mul_right_comm, mul-mul-mul_comm, mul-le-mul_right, mul-lt-mul_of_pos_right, lt_of_mul-lt-mul_right, eq_of_mul-eq-mul_right, pow-suc, pow-succ', sub-add_cancel}
use native.Mathlib.Omega.{arith}
use mathlib.Core.Bool.{Bool, true, false, ◌&&◌}
use lib.IntN.{ℤ, pos, negsuc}
use lib.Dec.{T, ltb, leb, eqb, eqb→eq, lit<}
use lib.Pow.{pow-add, pow_pos, pow_mono}
use lib.Ieee.{Float, nan, inf, fin, Format, binary64, prec, emax, low, up, down, unlike, round, mul, to_bits, fits}
use lib.Ieee.Fits.{up_pos, down_pos, and_l}
use lib.Ieee.Exact.{HasValue, round_exact}
use lib.Ieee.Scale.{finite, round_same}
use Rattle.laws.proofs.Value.{sign, bare, value-finite, value_same, value-cross}
use Rattle.laws.proofs.Bits.{inf_bits, field_units, units_of, bare-fits, bare-finite, bare-sign, to_bits-finite, to_bits-value}

-- ---- one number, one value
even_odd : (m t : ℕ) → m % 2 ≡ 1 → m ≡ 2 * t → ⊥
even_odd m t o h = omega arith

even : (m n b : ℕ) → m ≡ n * 2 ^ suc b → m ≡ 2 * (n * 2 ^ b)
even m n b h = h ∙ ap (λ (x : ℕ). n * x) (pow-succ' 2 b) ∙ mul_left_comm n 2 (2 ^ b)

odd_pow : (m n a b : ℕ) → m % 2 ≡ 1 → n % 2 ≡ 1 → m * 2 ^ a ≡ n * 2 ^ b → (m ≡ n) × (a ≡ b)
odd_pow m n zero zero o p h = (sym (mul-one m) ∙ h ∙ mul-one n, refl)
odd_pow m n zero (suc b) o p h = absurd (even_odd m (n * 2 ^ b) o (even m n b (sym (mul-one m) ∙ h)))
odd_pow m n (suc a) zero o p h = absurd (even_odd n (m * 2 ^ a) p (even n m a (sym (mul-one n) ∙ sym h)))
odd_pow m n (suc a) (suc b) o p h =
    let r = odd_pow m n a b o p (eq_of_mul-eq-mul_right 2 (zero-lt-suc 1) (m * 2 ^ a) (n * 2 ^ b)
    (mul_assoc m (2 ^ a) 2 ∙ ap (λ (x : ℕ). m * x) (sym (pow-suc 2 a)) ∙ h ∙ ap (λ (x : ℕ). n * x) (pow-suc 2 b) ∙ sym (mul_assoc n (2 ^ b) 2))) in
    (r.0, ap suc r.1)

-- two odd numbers with their exponents
same_parts : (m n : ℕ) (e g : ℤ) → m % 2 ≡ 1 → n % 2 ≡ 1 → m * up e * down g ≡ n * up g * down e → (m ≡ n) × (e ≡ g)
same_parts m n (pos a) (pos b) o p h =
    let r = odd_pow m n a b o p (sym (mul-one (m * 2 ^ a)) ∙ h ∙ mul-one (n * 2 ^ b)) in (r.0, ap pos r.1)
same_parts m n (pos a) (negsuc b) o p h =
    absurd (even_odd n (m * 2 ^ a * 2 ^ b) p (even n (m * 2 ^ a) b (sym (mul-one n) ∙ sym (mul-one (n * 1)) ∙ sym h)))
same_parts m n (negsuc a) (pos b) o p h =
    absurd (even_odd m (n * 2 ^ b * 2 ^ a) o (even m (n * 2 ^ b) a (sym (mul-one m) ∙ sym (mul-one (m * 1)) ∙ h)))
same_parts m n (negsuc a) (negsuc b) o p h =
    let r = odd_pow m n b a o p (pred-pow m n a b (ap (λ (x : ℕ). x * 2 ^ suc b) (sym (mul-one m)) ∙ h ∙ ap (λ (x : ℕ). x * 2 ^ suc a) (mul-one n))) in (r.0, ap negsuc (sym r.1))
  where
    pred-pow : (m n a b : ℕ) → m * 2 ^ suc b ≡ n * 2 ^ suc a → m * 2 ^ b ≡ n * 2 ^ a
    pred-pow m n a b h =
        eq_of_mul-eq-mul_right 2 (zero-lt-suc 1) (m * 2 ^ b) (n * 2 ^ a)
        (mul_assoc m (2 ^ b) 2 ∙ ap (λ (x : ℕ). m * x) (sym (pow-suc 2 b)) ∙ h ∙ ap (λ (x : ℕ). n * x) (pow-suc 2 a) ∙ sym (mul_assoc n (2 ^ a) 2))

is_odd : (f : Format) (s : Bool) (m : ℕ) (e : ℤ) → T (fits f (fin s (suc m) e)) → suc m % 2 ≡ 1
unfolding fits
is_odd f s m e t =
    eqb→eq (suc m % 2) 1 (and_l (eqb (suc m % 2) 1) (ltb (suc m) (2 ^ prec f)) (and_l (eqb (suc m % 2) 1 && ltb (suc m) (2 ^ prec f)) (leb (down e) (2 ^ low f))
    (and_l (eqb (suc m % 2) 1 && ltb (suc m) (2 ^ prec f) && leb (down e) (2 ^ low f)) (ltb (suc m * up e) (2 ^ suc (emax f) * down e)) t)))

two_up : (p : ℕ) → 0 < p → 2 * p ≡ 1 → ⊥
two_up p h e = omega arith

flat : (e : ℤ) → up e * down e ≡ 1 → e ≡ pos 0
flat (pos zero) h = refl
flat (pos (suc k)) h = absurd (two_up (2 ^ k) (pow_pos k) (sym (pow-succ' 2 k) ∙ sym (mul-one (2 ^ suc k)) ∙ h))
flat (negsuc k) h = absurd (two_up (2 ^ k) (pow_pos k) (sym (pow-succ' 2 k) ∙ sym (one-mul (2 ^ suc k)) ∙ h))

zero_exp : (f : Format) (s : Bool) (e : ℤ) → T (fits f (fin s zero e)) → e ≡ pos 0
unfolding fits
zero_exp f s e t = flat e (eqb→eq (up e * down e) 1 t)

not-zero : (m u d : ℕ) → 0 < u → 0 < d → suc m * u * d ≡ 0 → ⊥
not-zero m u d U D h = lt_irrefl 0 (subst (λ (x : ℕ). 0 < x) h (mul-pos (mul-pos (zero-lt-suc m) U) D))

no_size : (u d : ℕ) → 0 * u * d ≡ 0
no_size u d = ap (λ (x : ℕ). x * d) (zero-mul u) ∙ zero-mul d

pub unique : (f : Format) (x y : Float) (s : Bool) (a c b d : ℕ) → 0 < c → 0 < d → T (fits f x) → T (fits f y) → HasValue x s a c → HasValue y s b d → a * d ≡ b * c → x ≡ y
unique f nan y s a c b d C D p q v w h = elim v [ ]
unique f (inf _) y s a c b d C D p q v w h = elim v [ ]
unique f (fin t m e) nan s a c b d C D p q v w h = elim w [ ]
unique f (fin t m e) (inf _) s a c b d C D p q v w h = elim w [ ]
unique f (fin t m e) (fin u n g) s a c b d C D p q v w h = go m n p q cross
  where
    w' : n * up g * c ≡ a * down g
    w' = (value_same (fin u n g) s b d a c D (sym h) w).1

    cross : m * up e * down g ≡ n * up g * down e
    cross = value-cross (fin u n g) s s (m * up e) (down e) (n * up g) (down g) (value_same (fin u n g) s a c (m * up e) (down e) C (sym v.1) (w.0, w')) (w.0, refl)

    signs : t ≡ u
    signs = v.0 ∙ sym w.0

    go : (m n : ℕ) → T (fits f (fin t m e)) → T (fits f (fin u n g)) → m * up e * down g ≡ n * up g * down e → fin t m e ≡ fin u n g
    go zero zero p q k = λ i. fin (signs i) zero ((zero_exp f t e p ∙ sym (zero_exp f u g q)) i)
    go zero (suc n) p q k = absurd (not-zero n (up g) (down e) (up_pos g) (down_pos e) (sym k ∙ no_size (up e) (down g)))
    go (suc m) zero p q k = absurd (not-zero m (up e) (down g) (up_pos e) (down_pos g) (k ∙ no_size (up g) (down e)))
    go (suc m) (suc n) p q k =
        let r = same_parts (suc m) (suc n) e g (is_odd f t m e p) (is_odd f u n g q) k in
        λ i. fin (signs i) (r.0 i) (r.1 i)

-- ---- the product at any fractions that the factors equal, and where it is exact
pub mul-value : (f : Format) (x y : Float) (s t : Bool) (a c b d : ℕ) → 0 < c → 0 < d → HasValue x s a c → HasValue y t b d → mul f x y ≡ round f (unlike s t) (a * b) (c * d)
unfolding mul
mul-value f nan y s t a c b d C D v w = elim v [ ]
mul-value f (inf _) y s t a c b d C D v w = elim v [ ]
mul-value f (fin s' m e) nan s t a c b d C D v w = elim w [ ]
mul-value f (fin s' m e) (inf _) s t a c b d C D v w = elim w [ ]
mul-value f (fin s' m e) (fin t' n g) s t a c b d C D v w =
    ap (λ (z : Bool). round f (unlike z t') (m * up e * (n * up g)) (down e * down g)) v.0
    ∙ ap (λ (z : Bool). round f (unlike s z) (m * up e * (n * up g)) (down e * down g)) w.0
    ∙ round_same f (unlike s t) (m * up e * (n * up g)) (down e * down g) (a * b) (c * d) (mul-pos (down_pos e) (down_pos g)) (mul-pos C D)
    (mul-mul-mul_comm (m * up e) (n * up g) c d
    ∙ ap (λ (z : ℕ). z * (n * up g * d)) v.1
    ∙ ap (λ (z : ℕ). a * down e * z) w.1
    ∙ mul-mul-mul_comm a (down e) b (down g))

-- the product is q * 2 ^ j of the smallest values, with no more digits than the format keeps
mul-exact : (f : Format) (x y : Float) (s t : Bool) (a c b d q j : ℕ) → 0 < c → 0 < d → HasValue x s a c → HasValue y t b d
    → q < 2 ^ prec f → q * 2 ^ j < 2 ^ (low f + suc (emax f)) → a * b * 2 ^ low f ≡ q * 2 ^ j * (c * d) → HasValue (mul f x y) (unlike s t) (a * b) (c * d)
mul-exact f x y s t a c b d q j C D v w Q J h =
    subst (λ (z : Float). HasValue z (unlike s t) (a * b) (c * d)) (sym (mul-value f x y s t a c b d C D v w)) (round_exact f (unlike s t) (a * b) (c * d) q j (mul-pos C D) Q J h)

-- ---- the digits of a finite value: q * 2 ^ j units
pub record Digits (x : Float) : Type 0 where
  pub q : ℕ
  pub j : ℕ
  pub few : q < 2 ^ 53
  pub low : j < 2046
  pub all : q < 2 ^ 52 → j ≡ 0
  pub value : HasValue x (sign x) (q * 2 ^ j) (2 ^ 1074)

with-sign : (x : Float) (a c : ℕ) → HasValue (bare x) false a c → HasValue x (sign x) a c
with-sign nan a c h = absurd h
with-sign (inf s) a c h = absurd h
with-sign (fin s m e) a c h = (refl, h.1)

pub digits : (x : Float) → T (fits binary64 x) → T (finite x) → Digits x
digits x F f =
    let b = to_bits binary64 (bare x) in
    go (b / 2 ^ 52) (b % 2 ^ 52) (field b (to_bits-finite (bare x) (bare-fits x F) (bare-finite x f) (bare-sign x))) (rest b)
    (with-sign x (units_of b) (2 ^ 1074) (to_bits-value (bare x) (bare-fits x F) (bare-finite x f) (bare-sign x)))
  where
    field : (b : ℕ) → b < inf_bits → b / 2 ^ 52 < 2047
    field b h = omega arith

    rest : (b : ℕ) → b % 2 ^ 52 < 2 ^ 52
    rest b = omega arith

    go : (y t : ℕ) → y < 2047 → t < 2 ^ 52 → HasValue x (sign x) (field_units y t) (2 ^ 1074) → Digits x
    go zero t h k v =
        record { q = t; j = 0; few = omega arith; low = lit< tt; all = λ l. refl; value = subst (λ (n : ℕ). HasValue x (sign x) n (2 ^ 1074)) (sym (mul-one t)) v }
    go (suc y) t h k v = record { q = 2 ^ 52 + t; j = y; few = omega arith; low = omega arith; all = λ l. absurd (none t l); value = v }
      where
        none : (t : ℕ) → 2 ^ 52 + t < 2 ^ 52 → ⊥
        none t l = omega arith

-- ---- a product by a power of two is exact as long as it does not overflow, or is normal
like : (s : Bool) → unlike s false ≡ s
like true = refl
like false = refl

pub pow_lt_back : (i p : ℕ) → 2 ^ i < 2 ^ p → i < p
pow_lt_back i p h = lt_of_not-le (λ (g : p ≤ i). lt_irrefl (2 ^ i) (lt_of_lt_of_le h (pow_mono g)))

pub scale-up : (x y : Float) (s : Bool) (a c k : ℕ) → T (fits binary64 x) → 0 < c → HasValue x s a c → HasValue y false (2 ^ k) 1 → a * 2 ^ k < 2 ^ 1024 * c → HasValue (mul binary64 x y) s (a * 2 ^ k) c
scale-up x y s a c k F C v w small =
    let D = digits x F (value-finite x s a c v) in
    let q = D.q in
    let j = D.j in
    let e : q * 2 ^ j * c ≡ a * 2 ^ 1074 = value-cross x (sign x) s (q * 2 ^ j) (2 ^ 1074) a c D.value v in
    let g : a * 2 ^ k * 2 ^ 1074 ≡ q * 2 ^ (j + k) * c =
    mul_right_comm a (2 ^ k) (2 ^ 1074) ∙ ap (λ (z : ℕ). z * 2 ^ k) (sym e) ∙ mul_right_comm (q * 2 ^ j) c (2 ^ k) ∙ ap (λ (z : ℕ). z * c) (mul_assoc q (2 ^ j) (2 ^ k) ∙ ap (λ (z : ℕ). q * z) (sym (pow-add 2 j k))) in
    let u : q * 2 ^ (j + k) < 2 ^ (1074 + 1024) =
    lt_of_mul-lt-mul_right c
    (subst (λ (z : ℕ). z < 2 ^ (1074 + 1024) * c) g (lt_of_lt_of_le (mul-lt-mul_of_pos_right small (pow_pos 1074)) (le_of_eq (mul_right_comm (2 ^ 1024) c (2 ^ 1074) ∙ ap (λ (z : ℕ). z * c) (sym (pow-add 2 1024 1074)))))) in
    subst (λ (z : Bool). HasValue (mul binary64 x y) z (a * 2 ^ k) c) (like s)
    (subst (λ (z : ℕ). HasValue (mul binary64 x y) (unlike s false) (a * 2 ^ k) z) (mul-one c)
    (mul-exact binary64 x y s false a c (2 ^ k) 1 q (j + k) C (zero-lt-suc 0) v w D.few u (g ∙ ap (λ (z : ℕ). q * 2 ^ (j + k) * z) (sym (mul-one c)))))

pub scale-down : (x y : Float) (s : Bool) (a c k : ℕ) → T (fits binary64 x) → 0 < c → HasValue x s a c → HasValue y false 1 (2 ^ k) → c * 2 ^ k ≤ a * 2 ^ 1022 → HasValue (mul binary64 x y) s a (c * 2 ^ k)
scale-down x y s a c k F C v w normal =
    let D = digits x F (value-finite x s a c v) in
    let q = D.q in
    let j = D.j in
    let e : q * 2 ^ j * c ≡ a * 2 ^ 1074 = value-cross x (sign x) s (q * 2 ^ j) (2 ^ 1074) a c D.value v in
    let lo : 2 ^ (52 + k) * c ≤ q * 2 ^ j * c =
    le_trans (le_of_eq (ap (λ (z : ℕ). z * c) (pow-add 2 52 k) ∙ mul_comm (2 ^ 52 * 2 ^ k) c ∙ ap (λ (z : ℕ). c * z) (mul_comm (2 ^ 52) (2 ^ k)) ∙ sym (mul_assoc c (2 ^ k) (2 ^ 52))))
    (le_trans (mul-le-mul_right (2 ^ 52) normal) (le_of_eq (mul_assoc a (2 ^ 1022) (2 ^ 52) ∙ sym e))) in
    let lt : 2 ^ (52 + k) < 2 ^ (53 + j) =
    lt_of_mul-lt-mul_right c (lt_of_le_of_lt lo (mul-lt-mul_of_pos_right (subst (λ (z : ℕ). q * 2 ^ j < z) (sym (pow-add 2 53 j)) (mul-lt-mul_of_pos_right D.few (pow_pos j))) C)) in
    let kj : k ≤ j = from j k (pow_lt_back (52 + k) (53 + j) lt) in
    let back : q * 2 ^ (j - k) * 2 ^ k ≡ q * 2 ^ j = mul_assoc q (2 ^ (j - k)) (2 ^ k) ∙ ap (λ (z : ℕ). q * z) (sym (pow-add 2 (j - k) k) ∙ ap (λ (z : ℕ). 2 ^ z) (sub-add_cancel kj)) in
    let u : q * 2 ^ (j - k) < 2 ^ (1074 + 1024) = lt_of_lt_of_le (mul-lt-mul_of_pos_right D.few (pow_pos (j - k))) (le_trans (le_of_eq (sym (pow-add 2 53 (j - k)))) (pow_mono (fine j k D.low))) in
    subst (λ (z : Bool). HasValue (mul binary64 x y) z a (c * 2 ^ k)) (like s)
    (subst (λ (z : ℕ). HasValue (mul binary64 x y) (unlike s false) z (c * 2 ^ k)) (mul-one a)
    (mul-exact binary64 x y s false a c 1 (2 ^ k) q (j - k) C (pow_pos k) v w D.few u
    (ap (λ (z : ℕ). z * 2 ^ 1074) (mul-one a) ∙ sym e ∙ ap (λ (z : ℕ). z * c) (sym back) ∙ mul_assoc (q * 2 ^ (j - k)) (2 ^ k) c ∙ ap (λ (z : ℕ). q * 2 ^ (j - k) * z) (mul_comm (2 ^ k) c))))
  where
    from : (j k : ℕ) → 52 + k < 53 + j → k ≤ j
    from j k h = omega arith

    fine : (j k : ℕ) → j < 2046 → 53 + (j - k) ≤ 1074 + 1024
    fine j k h = omega arith
