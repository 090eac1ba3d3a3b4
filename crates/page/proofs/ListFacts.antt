-- The numbers that a line may have are the refusals' own: every number in the list is some refusal's. Assumes nothing.
use mathlib.Core.Path.{◌≡◌, subst}
use mathlib.Core.Bool.{Bool, true, not, ◌||◌}
use Prim.Native.Nat.{ℕ}
use lib.Dec.{T, eqb, eqb→eq}
use Rattle.laws.proofs.Bound.{every, every-at}
use Rattle.refusal.specs.Number.{number_of, is_listed}
use Rattle.refusal.specs.declared.refusal.Refusal.{Refusal}
use Rattle.refusal.proofs.Distinct.{case_of}
use Rattle.page.proofs.SaidFacts.{listed-few}

agrees : ℕ → Bool
agrees n = not (is_listed n) || eqb (number_of (case_of n)) n

all-agree : T (every agrees 32)
unfolding agrees is_listed case_of
all-agree = tt

agreed : (n : ℕ) → is_listed n ≡ true → T (agrees n) → number_of (case_of n) ≡ n
unfolding agrees
agreed n e t = eqb→eq (number_of (case_of n)) n (subst (λ (b : Bool). T (not b || eqb (number_of (case_of n)) n)) e t)

pub named : (n : ℕ) → is_listed n ≡ true → (r : Refusal) × (number_of r ≡ n)
named n e = (case_of n, agreed n e (every-at agrees 32 all-agree n (listed-few n e).1))
