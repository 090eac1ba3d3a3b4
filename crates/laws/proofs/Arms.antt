-- A match over 0, 1, .., n - 1 and the rest: what is at most n and none of them is n. Assumes nothing.
use mathlib.Core.Path.{◌≡◌}
use mathlib.Core.Logic.{inl, inr}
use Prim.Native.Nat.{ℕ, zero, suc, ◌<◌}
use native.Mathlib.Nat.{eq-or-lt_of_le, le_of_suc-le-suc}
use native.Mathlib.Omega.{arith}

-- what the last arm is told: none of the others' numbers
abbrev pub NoneOf : ℕ → ℕ → Type 0
NoneOf zero j = Unit {0}
NoneOf (suc n) j = NoneOf n j × (j ≡ n → ⊥)

pub last : (n j : ℕ) → j < suc n → NoneOf n j → j ≡ n
last zero j h r = omega arith
last (suc n) j h r = elim (eq-or-lt_of_le (le_of_suc-le-suc h)) [ inl e ↦ e | inr l ↦ absurd (r.1 (last n j l r.0)) ]
