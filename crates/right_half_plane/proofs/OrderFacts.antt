-- The order rounded is a whole number of at most 1,000, so that it is cast to an integer as it is. Assumes nothing.
use mathlib.Core.Path.{refl, sym, subst}
use Prim.Native.Nat.{ℕ, ◌+◌, ◌*◌, ◌^◌, ◌≤◌, ◌<◌}
use native.Mathlib.Nat.{mul-le-mul_right}
use native.Mathlib.Omega.{arith}
use mathlib.Core.Bool.{Bool, true, false, not}
use lib.Dec.{T, leb, le→leb, leb→le, nleb→lt}
use lib.Ieee.{Float, binary64, of_bits, le, of_int, in_float, to_unsigned, in_unsigned}
use lib.Ieee.Back.{unsigned_back}
use lib.Ieee.Positive.{num, den, den_pos}
use Rattle.laws.proofs.Relative.{nonnegative, nonnegative-value}
use Rattle.laws.proofs.Value.{le-values}
use Rattle.rounding.specs.Round.{round_of, nearest_whole}
use Rattle.rounding.proofs.RoundFacts.{round-value, nearest}
use Rattle.complex.specs.declared.number.Complex.{Complex}
use Rattle.call.specs.Limits.{largest_order}
use Rattle.right_half_plane.specs.Ground.{nearest_order, ground_of, Sized}

nearest-low : (x : Float) → T (nonnegative x) → T (le x largest_order) → nearest_whole (num x) (den x) ≤ 1000
unfolding of_bits
nearest-low x p h =
    let k = nearest_whole (num x) (den x) in
    let l : num x * 1 ≤ 1000 * den x = le-values x largest_order (num x) (den x) 1000 1 (nonnegative-value x p) (refl, refl) h in
    go k (nearest x).low l (leb k 1000) (leb→le k 1000) (nleb→lt k 1000)
  where
    go : (k : ℕ) → 2 * (k * den x) ≤ 2 * num x + den x → num x * 1 ≤ 1000 * den x → (b : Bool) → (T b → k ≤ 1000) → (T (not b) → 1000 < k) → k ≤ 1000
    go k n l true p q = p tt
    go k n l false p q = let r : 1001 * den x ≤ k * den x = mul-le-mul_right (den x) (q tt) in absurd (none (den x) (k * den x) (num x) (den_pos x) r n l)
      where
        none : (d kd n : ℕ) → 0 < d → 1001 * d ≤ kd → 2 * kd ≤ 2 * n + d → n * 1 ≤ 1000 * d → ⊥
        none d kd n z r s l = omega arith

pub order-cast : (x : Float) → T (nonnegative x) → T (le x largest_order) → T (in_unsigned binary64 32 (round_of x)) × (nearest_order x ≤ 1000)
unfolding of_int in_float nearest_order
order-cast x p h =
    let k = nearest_whole (num x) (den x) in
    let b : k ≤ 1000 = nearest-low x p h in
    let w = unsigned_back binary64 32 k (le→leb k (2 ^ 53) (small k b)) (smaller k b) in
    subst (λ (y : Float). T (in_unsigned binary64 32 y) × (to_unsigned 32 y ≤ 1000)) (sym (round-value x false (num x) (den x) (den_pos x) (nonnegative-value x p)))
    (w.0, subst (λ (n : ℕ). n ≤ 1000) (sym w.1) b)
  where
    small : (k : ℕ) → k ≤ 1000 → k ≤ 2 ^ 53
    small k h = omega arith

    smaller : (k : ℕ) → k ≤ 1000 → k < 2 ^ 32
    smaller k h = omega arith

pub ground-sized : (order : Float) (z : Complex) (modulus : Float) (n : ℕ) → 0 < n → n ≤ 512 → T (nonnegative order) → T (le order largest_order) → Sized (ground_of order z modulus n)
unfolding ground_of
ground-sized order z modulus n s f p h = record { some = s; few = f; low = (order-cast order p h).1 }
