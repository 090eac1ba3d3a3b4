-- A list of one value with another value in its first cell. Assumes nothing.
use mathlib.Core.Path.{◌≡◌, ap}
use mathlib.Core.List.{◌∷◌}
use Prim.Native.Nat.{ℕ, zero, suc, ◌-◌, ◌<◌}
use native.Mathlib.Omega.{arith}
use lib.ListN.{set, replicate}

module _ {A : Type 0} where
  pub replicate-first : (n m : ℕ) (a b : A) → 0 < n → m ≡ n - 1 → set (replicate n a) 0 b ≡ b ∷ replicate m a
  replicate-first zero m a b h e = absurd (none h)
    where
      none : 0 < 0 → ⊥
      none h = omega arith
  replicate-first (suc n) m a b h e = ap (λ (k : ℕ). b ∷ replicate k a) (less n m e)
    where
      less : (n m : ℕ) → m ≡ suc n - 1 → n ≡ m
      less n m e = omega arith
