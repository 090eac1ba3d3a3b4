-- Counts over lines: one part after another, and of lines that are shortened. Assumes nothing.
use mathlib.Core.Path.{◌≡◌, refl}
use mathlib.Core.List.{List, [], ◌∷◌, ◌++◌}
use Prim.Native.Nat.{ℕ, ◌+◌}
use native.Mathlib.Omega.{arith}
use lib.ListN.{take}
use Rattle.splitting.specs.Cut.{shortened}
use Rattle.splitting.specs.Count.{total_of, Adds}

-- ---- sums
pub total-append : (f : List ℕ → ℕ) (a b : List (List ℕ)) → total_of f (a ++ b) ≡ total_of f a + total_of f b
unfolding total_of
total-append f [] b = omega arith
total-append f (l ∷ a) b = let e = total-append f a b in omega arith

-- where a line says no more than its first bytes do
pub total-shortened : (f : List ℕ → ℕ) (most : ℕ) → ((l : List ℕ) → f (take most l) ≡ f l) → (ls : List (List ℕ)) → total_of f (shortened most ls) ≡ total_of f ls
unfolding total_of shortened
total-shortened f most same [] = refl
total-shortened f most same (l ∷ ls) = let e = total-shortened f most same ls in let g = same l in omega arith

-- ---- counts
pub adds_none : (s : ℕ) → Adds s 0 s
adds_none s = omega arith

pub adds_again : (s n t m u : ℕ) → Adds s n t → Adds t m u → Adds s (n + m) u
adds_again s n t m u e f = omega arith
