-- The sum of two squares, one or both of which may underflow: within one part in 2^51 of the sum itself, where that is 2^-1000 at least. Assumes nothing.
use mathlib.Core.Path.{◌≡◌, refl, ap, ◌∙◌}
use mathlib.Core.Bool.{Bool, true, false}
use Prim.Native.Nat.{ℕ, ◌+◌, ◌-◌, ◌*◌, ◌^◌, ◌≤◌, ◌<◌}
use native.Mathlib.Nat.{le_trans, le_of_eq, one-mul, mul_assoc, mul_comm, mul_left_comm, mul-pos, mul-le-mul_left}
use lib.Dec.{T, lit<, lit≤}
use lib.Pow.{pow_pos}
use lib.Ieee.{Float, binary64, unlike, round, add, mul}
use lib.Ieee.Exact.{HasValue}
use lib.Ieee.Positive.{num, den, positive, den_pos}
use lib.Ieee.Scale.{finite}
use Rattle.laws.proofs.Power.{mul-value}
use Rattle.laws.proofs.Relative.{Rat, Normal, nonnegative, rat-trans, rat-weaken, normal-of-rat, round-close, round-positive, add-round}
use Rattle.roots.proofs.Mixed.{Mixed, mixed-sum}

-- ---- a square has no minus sign
like : (s : Bool) → unlike s s ≡ false
like true = refl
like false = refl

pub square-round : (p : Float) (s : Bool) (a c : ℕ) → 0 < c → HasValue p s a c → mul binary64 p p ≡ round binary64 false (a * a) (c * c)
square-round p s a c C v = mul-value binary64 p p s s a c a c C C v v ∙ ap (λ (b : Bool). round binary64 b (a * a) (c * c)) (like s)

-- ---- the sum, of what may have underflowed
pub record Summed (S : Float) (P Q : ℕ) : Type 0 where
  pub is_positive : T (positive S)
  pub normal : den S ≤ num S * 2 ^ 1022
  pub close : Rat (2 ^ 51 - 1) (2 ^ 51 + 1) (2 ^ 51) (num S) (den S) P Q

grown : (k j A B L D : ℕ) → A ≤ B * 2 ^ k → D * 2 ^ k ≤ L * 2 ^ j → D * A ≤ L * B * 2 ^ j
grown k j A B L D h g = le_trans (mul-le-mul_left D h) (le_trans (le_of_eq (simp (mul_assoc, mul_comm, mul_left_comm))) (le_trans (mul-le-mul_left B g) (le_of_eq (simp (mul_assoc, mul_comm, mul_left_comm)))))

pub summed : (A B : Float) (a c b d : ℕ) → T (nonnegative A) → T (nonnegative B) → Mixed (2 ^ 1075) (num A) (den A) a c → Mixed (2 ^ 1075) (num B) (den B) b d → 0 < c → 0 < d → c * d ≤ (a * d + b * c) * 2 ^ 1000 → T (finite (add binary64 A B))
    → Summed (add binary64 A B) (a * d + b * c) (c * d)
summed A B a c b d p q r s C D h F =
    let P = a * d + b * c in
    let Q = c * d in
    let n = num A * den B + num B * den A in
    let m = den A * den B in
    let M : 0 < m = mul-pos (den_pos A) (den_pos B) in
    let e = add-round binary64 A B p q in
    let k = mixed-sum (pow_pos 1075) r s (le_trans (grown 1000 1075 Q P 1 (2 ^ 55) h (lit≤ tt)) (le_of_eq (ap (λ (t : ℕ). t * 2 ^ 1075) (one-mul P)))) in
    let N : Normal binary64 n m = normal-of-rat binary64 (lit< tt) (mul-pos C D) k (grown 1000 1022 Q P (2 ^ 52 - 1) (2 ^ 52) h (lit≤ tt)) in
    let g = rat-weaken (lit< tt) (lit≤ tt) (lit≤ tt) (rat-trans M (round-close binary64 n m (add binary64 A B) M N e F) k) in
    record {
      is_positive = round-positive binary64 n m (add binary64 A B) M N e F;
      normal = normal-of-rat binary64 (lit< tt) (mul-pos C D) g (grown 1000 1022 Q P (2 ^ 51 - 1) (2 ^ 51) h (lit≤ tt));
      close = g;
    }
