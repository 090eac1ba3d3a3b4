-- A root found digit by digit, as at school: what is left is the number less the square so far, and below the next digit's step. What a digit of 0 or 1 makes of it, and that the digits end at the nearest root. Assumes nothing.
use mathlib.Core.Path.{◌≡◌, refl, sym, ap, ◌∙◌, subst}
use mathlib.Core.Bool.{Bool, true, false, cond}
use mathlib.Core.Logic.{inl, inr}
use Prim.Native.Nat.{ℕ, zero, suc, ◌+◌, ◌-◌, ◌*◌, ◌/◌, ◌^◌, ◌≤◌, ◌<◌}
use native.Mathlib.Nat.{mul_comm, mul_assoc, mul_left_comm, add-mul, mul-add, one-mul, pow-suc, pow-zero, sub-zero, mul-lt-mul_of_pos_left}
use native.Mathlib.Omega.{arith}
use lib.Dec.{ltb}
use lib.Pow.{pow_pos}
use borrow.Author.Tests.{lt-ltb, le-ltb}
use Rattle.roots.specs.Sqrt.{nearest_root}
use Rattle.roots.proofs.WholeRoot.{Nearest, which, scaled-nearest, nearest-unique}

-- ---- the school's invariant: e is what the last digit of q is worth, and a is twice what is left, in units of e
pub record Left (x e q a : ℕ) : Type 0 where
  pub is : e * a + 2 * (q * q) ≡ 2 * x
  pub below : a < 4 * q + 2 * e

-- so q is the root as far as its digits go: one more of the last digit would be too much
pub left-root : (x e q a : ℕ) → 0 < e → Left x e q a → (q * q ≤ x) × (x < (q + e) * (q + e))
left-root x e q a p l =
    let m : e * a < e * (4 * q + 2 * e) = mul-lt-mul_of_pos_left l.below p in
    let s : e * (4 * q + 2 * e) ≡ 4 * (q * e) + 2 * (e * e) = simp (mul-add, mul_comm, mul_left_comm) in
    let t : (q + e) * (q + e) ≡ q * q + 2 * (q * e) + e * e = simp (add-mul, mul-add, mul_comm) (omega arith) in
    (omega (arith, l.is), omega (arith, l.is))

-- a digit of worth h is tried with 2 * q + h, which is (q + h) * (q + h) less q * q in units of h
pub digit-none : (x h q a : ℕ) → Left x (2 * h) q a → a < 2 * q + h → Left x h q (a + a)
digit-none x h q a l t =
    let e : h * (a + a) ≡ 2 * h * a = simp (mul-add, mul_assoc) (omega arith) in
    record { is = omega (arith, l.is); below = omega arith }

taken : (h q d : ℕ) → h * (d + d) + 2 * ((q + h) * (q + h)) ≡ 2 * h * (d + (2 * q + h)) + 2 * (q * q)
taken h q d = simp (add-mul, mul-add, mul_assoc, mul_comm, mul_left_comm) (omega arith)

pub digit-one : (x h q a : ℕ) → Left x (2 * h) q a → 2 * q + h ≤ a → Left x h (q + h) (a + a - (2 * q + h + (2 * q + h)))
digit-one x h q a l t =
    let d = a - (2 * q + h) in
    let s : a ≡ d + (2 * q + h) = omega arith in
    let r : a + a - (2 * q + h + (2 * q + h)) ≡ d + d = omega arith in
    let i : 2 * h * (d + (2 * q + h)) + 2 * (q * q) ≡ 2 * x = subst (λ (v : ℕ). 2 * h * v + 2 * (q * q) ≡ 2 * x) s l.is in
    record { is = ap (λ (v : ℕ). h * v + 2 * ((q + h) * (q + h))) r ∙ taken h q d ∙ i; below = omega (arith, l.below) }

-- ---- what the loop holds of its numbers: the root so far is half of `twice`
pub record Partway (n left twice unit : ℕ) : Type 0 where
  pub root : ℕ
  pub place : ℕ
  pub is_twice : twice ≡ 2 * root
  pub is_unit : unit ≡ 2 ^ place
  pub some : 0 < root
  pub within : root + unit ≤ 2 ^ 53
  pub rest : Left (n * 2 ^ 52) unit root left

-- the first digit is a 1
pub first : (n left : ℕ) → 2 ^ 52 ≤ n → n < 2 ^ 54 → left ≡ 2 * (n - 2 ^ 52) → Partway n left (2 ^ 53) (2 ^ 52)
first n left l u e =
    record {
      root = 2 ^ 52;
      place = 52;
      is_twice = refl;
      is_unit = refl;
      some = pow_pos 52;
      within = omega arith;
      rest = record { is = omega arith; below = omega arith };
    }

-- no number of the loop leaves 64 bits
pub sizes : (n left twice unit : ℕ) → Partway n left twice unit → (0 < unit) × (twice + 2 * unit ≤ 2 ^ 54) × (left < 2 ^ 55)
sizes n left twice unit p =
    let w = p.within in
    let t = p.is_twice in
    let b = p.rest.below in
    (subst (λ (v : ℕ). 0 < v) (sym p.is_unit) (pow_pos p.place), omega arith, omega arith)

halved : (unit k : ℕ) → unit ≡ 2 ^ k → 1 < unit → (j : ℕ) × (unit / 2 ≡ 2 ^ j) × (unit ≡ 2 * (unit / 2))
halved unit zero e h = absurd (clash (e ∙ pow-zero 2) h)
  where
    clash : unit ≡ 1 → 1 < unit → ⊥
    clash a b = omega arith
halved unit (suc k) e h = let s : unit ≡ 2 ^ k * 2 = e ∙ pow-suc 2 k in (k, omega arith, omega arith)

-- one digit more, whichever it is
abbrev pub trial_of : ℕ → ℕ → ℕ
trial_of twice unit = twice + unit / 2

abbrev pub off_of : ℕ → ℕ → ℕ → ℕ
off_of left twice unit = cond (ltb left (trial_of twice unit)) 0 (trial_of twice unit + trial_of twice unit)

abbrev pub twice_of : ℕ → ℕ → ℕ → ℕ
twice_of left twice unit = cond (ltb left (trial_of twice unit)) twice (trial_of twice unit + unit / 2)

pub next : (n left twice unit : ℕ) → Partway n left twice unit → 1 < unit → (off_of left twice unit ≤ left + left) × Partway n (left + left - off_of left twice unit) (twice_of left twice unit) (unit / 2)
next n left twice unit p g =
    let h = unit / 2 in
    let q = p.root in
    let v = halved unit p.place p.is_unit g in
    let l : Left (n * 2 ^ 52) (2 * h) q left = subst (λ (e : ℕ). Left (n * 2 ^ 52) e q left) v.2 p.rest in
    let t = p.is_twice in
    let w = p.within in
    elim (which left (trial_of twice unit)) [
      | inl k ↦
          let r = digit-none (n * 2 ^ 52) h q left l (omega arith) in
          rw (lt-ltb left (trial_of twice unit) k)
          (omega arith, record { root = q; place = v.0; is_twice = t; is_unit = v.1; some = p.some; within = omega (arith, v.2); rest = subst (λ (o : ℕ). Left (n * 2 ^ 52) h q o) (sym (sub-zero (left + left))) r })
      | inr k ↦
          let r = digit-one (n * 2 ^ 52) h q left l (omega arith) in
          let e : trial_of twice unit + trial_of twice unit ≡ 2 * q + h + (2 * q + h) = omega arith in
          rw (le-ltb left (trial_of twice unit) k)
          (omega arith, record { root = q + h; place = v.0; is_twice = omega arith; is_unit = v.1; some = omega (arith, p.some); within = omega (arith, v.2); rest = subst (λ (o : ℕ). Left (n * 2 ^ 52) h (q + h) (left + left - o)) (sym e) r })
    ]

-- ---- the last digit is worth 1: what is left then says which whole number is nearest
nearest-by : (x q a : ℕ) → 0 < q → Left x 1 q a → Nearest x (q + cond (ltb (2 * q) a) 1 0)
nearest-by x q a p l =
    let i : a + 2 * (q * q) ≡ 2 * x = subst (λ (v : ℕ). v + 2 * (q * q) ≡ 2 * x) (one-mul a) l.is in
    let b = l.below in
    let s : (q + 1) * (q + 1) ≡ q * q + 2 * q + 1 = simp (add-mul, mul-add) (omega arith) in
    elim (which (2 * q) a) [
      | inl k ↦ rw (lt-ltb (2 * q) a k) (omega arith, omega arith)
      | inr k ↦ rw (le-ltb (2 * q) a k) (omega arith, omega arith)
    ]

pub ended : (n left twice unit : ℕ) → 0 < n → n < 2 ^ 54 → Partway n left twice unit → unit ≤ 1 → twice / 2 + cond (ltb twice left) 1 0 ≡ nearest_root 53 (n * 2 ^ 52)
ended n left twice unit z u p g =
    let x = n * 2 ^ 52 in
    let q = p.root in
    let o : unit ≡ 1 = omega (arith, sizes n left twice unit p) in
    let l : Left x 1 q left = subst (λ (e : ℕ). Left x e q left) o p.rest in
    let t = p.is_twice in
    let h : twice / 2 ≡ q = omega arith in
    ap (λ (v : ℕ). v + cond (ltb twice left) 1 0) h
    ∙ ap (λ (v : ℕ). q + cond (ltb v left) 1 0) t
    ∙ nearest-unique x (q + cond (ltb (2 * q) left) 1 0) (nearest_root 53 x) (nearest-by x q left p.some l) (scaled-nearest n z u)

-- the rounding adds 1 at most
pub at_most_one : (v a b : ℕ) → v ≡ cond (ltb a b) 1 0 → v ≤ 1
at_most_one v a b = go (ltb a b)
  where
    go : (t : Bool) → v ≡ cond t 1 0 → v ≤ 1
    go true h = omega arith
    go false h = omega arith
