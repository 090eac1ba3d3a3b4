-- The whole number nearest to a root: what says that r is it, that there is one only, and that `nearest_root` is it. Assumes nothing.
use mathlib.Core.Path.{◌≡◌, ap, ◌∙◌, subst}
use mathlib.Core.Logic.{◌⊎◌, inl, inr}
use mathlib.Core.Bool.{Bool, true, false, not, cond}
use Prim.Native.Nat.{ℕ, zero, suc, ◌+◌, ◌*◌, ◌/◌, ◌^◌, ◌≤◌, ◌<◌}
use native.Mathlib.Nat.{le_antisymm, mul-le-mul, mul_comm, mul_assoc, mul_left_comm, add-mul, mul-add, mul-one, one-mul, pow-suc, pow-zero}
use native.Mathlib.Omega.{arith}
use lib.Dec.{T, leb, ltb, leb→le, nleb→lt, ltb→lt, nltb→le}
use Rattle.roots.specs.Sqrt.{root, nearest_root}

pub which : (a b : ℕ) → (a < b) ⊎ (b ≤ a)
which a b = go (ltb a b) (ltb→lt a b) (nltb→le a b)
  where
    go : (t : Bool) → (T t → a < b) → (T (not t) → b ≤ a) → (a < b) ⊎ (b ≤ a)
    go true h k = inl (h tt)
    go false h k = inr (k tt)

-- ---- the largest r with r * r ≤ n
abbrev pub Floor : ℕ → ℕ → Type 0
Floor r n = (r * r ≤ n) × (n < (r + 1) * (r + 1))

digit : (r n : ℕ) (b : Bool) → (T b → (r + 1) * (r + 1) ≤ n) → (T (not b) → n < (r + 1) * (r + 1)) → r * r ≤ n → n < (r + 2) * (r + 2) → Floor (cond b (r + 1) r) n
digit r n true h k l u = (h tt, simp (add-mul, mul-add, mul-one, one-mul) (omega (arith, simp (add-mul, mul-add, mul-one, one-mul) at u)))
digit r n false h k l u = (l, k tt)

-- the root of a quarter, doubled
doubled : (r n : ℕ) → Floor r (n / 4) → (2 * r * (2 * r) ≤ n) × (n < (2 * r + 2) * (2 * r + 2))
doubled r n f =
    let a : r * r ≤ n / 4 = f.0 in
    let b : n / 4 < r * r + r + (r + 1) = subst (λ (x : ℕ). n / 4 < x) (simp (add-mul, mul-add, mul-one, one-mul)) f.1 in
    let e : 2 * r * (2 * r) ≡ 4 * (r * r) = simp (mul_assoc, mul_comm, mul_left_comm) (omega arith) in
    let g : (2 * r + 2) * (2 * r + 2) ≡ 4 * (r * r) + 8 * r + 4 = simp (add-mul, mul-add, mul_assoc, mul_comm, mul_left_comm) (omega arith) in
    (omega arith, omega arith)

pub root-floor : (k n : ℕ) → n < 4 ^ k → Floor (root k n) n
unfolding root
root-floor zero n h = omega (arith, pow-zero 4)
root-floor (suc k) n h =
    let d = doubled (root k (n / 4)) n (root-floor k (n / 4) (omega (arith, pow-suc 4 k))) in
    let r = 2 * root k (n / 4) in
    digit r n (leb ((r + 1) * (r + 1)) n) (leb→le ((r + 1) * (r + 1)) n) (nleb→lt ((r + 1) * (r + 1)) n) d.0 d.1

-- ---- the nearest: the root of n lies from r - 1/2 to r + 1/2
abbrev pub Nearest : ℕ → ℕ → Type 0
Nearest n r = (n ≤ r * r + r) × (r * r < n + r)

floor-pos : (r n : ℕ) → 0 < n → Floor r n → 0 < r
floor-pos zero n h f = absurd (one n h f.1)
  where
    one : (m : ℕ) → 0 < m → m < (0 + 1) * (0 + 1) → ⊥
    one m p q = omega arith
floor-pos (suc r) n h f = omega arith

toward : (r n : ℕ) (b : Bool) → 0 < r → (T b → r * r + r < n) → (T (not b) → n ≤ r * r + r) → Floor r n → Nearest n (cond b (r + 1) r)
toward r n true p h k f =
    let u : n < r * r + r + (r + 1) = subst (λ (x : ℕ). n < x) (simp (add-mul, mul-add, mul-one, one-mul)) f.1 in
    let e : (r + 1) * (r + 1) ≡ r * r + r + (r + 1) = simp (add-mul, mul-add, mul-one, one-mul) in
    let g : r * r + r < n = h tt in
    (omega arith, omega arith)
toward r n false p h k f = (k tt, omega (arith, f.0))

pub nearest-root : (k n : ℕ) → 0 < n → n < 4 ^ k → Nearest n (nearest_root k n)
unfolding nearest_root
nearest-root k n p h =
    let r = root k n in
    let f = root-floor k n h in
    toward r n (ltb (r * r + r) n) (floor-pos r n p f) (ltb→lt (r * r + r) n) (nltb→le (r * r + r) n) f

-- one that is nearest is not below another that is
not-below : (n r q : ℕ) → Nearest n r → Nearest n q → r < q → ⊥
not-below n r zero a b h = omega arith
not-below n r (suc q) a b h =
    let l : r ≤ q = omega arith in
    let m : r * r ≤ q * q = mul-le-mul l l in
    let s : suc q ≡ q + 1 = omega arith in
    let e : suc q * suc q ≡ q * q + q + (q + 1) = ap (λ (x : ℕ). x * x) s ∙ simp (add-mul, mul-add, mul-one, one-mul) in
    omega (arith, a.0, b.1)

pub nearest-unique : (n r q : ℕ) → Nearest n r → Nearest n q → r ≡ q
nearest-unique n r q a b = elim (which r q) [ inl h ↦ absurd (not-below n r q a b h) | inr h ↦ elim (which q r) [ inl g ↦ absurd (not-below n q r b a g) | inr g ↦ le_antisymm g h ] ]

-- ---- what a comparison with s says, of a nearest r
below_self : (s r : ℕ) → r ≤ s → r * r + r ≤ s * s + s
below_self s r h = let m : r * r ≤ s * s = mul-le-mul h h in omega arith

pub above-below : (n r s : ℕ) → Nearest n r → s * s + s < n → s < r
above-below n r s a h = elim (which s r) [ inl k ↦ k | inr k ↦ absurd (clash (below_self s r k)) ]
  where
    clash : r * r + r ≤ s * s + s → ⊥
    clash k = omega (arith, a.0)

pub not-above : (n r s : ℕ) → Nearest n r → n ≤ s * s + s → r ≤ s
not-above n r s a h = elim (which s r) [ inl k ↦ absurd (clash r k a) | inr k ↦ k ]
  where
    clash : (q : ℕ) → s < q → Nearest n q → ⊥
    clash zero k b = omega arith
    clash (suc q) k b =
        let m : s * s + s ≤ q * q + q = below_self q s (omega arith) in
        let e : suc q ≡ q + 1 = omega arith in
        let f : suc q * suc q ≡ q * q + q + (q + 1) = ap (λ (x : ℕ). x * x) e ∙ simp (add-mul, mul-add, mul-one, one-mul) in
        omega (arith, b.1)

-- the 54 digits of a significand and 52 more
scaled-lt : (n : ℕ) → n < 2 ^ 54 → n * 2 ^ 52 < 4 ^ 53
scaled-lt n h = omega arith

pub scaled-nearest : (n : ℕ) → 0 < n → n < 2 ^ 54 → Nearest (n * 2 ^ 52) (nearest_root 53 (n * 2 ^ 52))
scaled-nearest n p h = nearest-root 53 (n * 2 ^ 52) (omega arith) (scaled-lt n h)
