-- What is not over goes on, and what is over does not; what the status tells. Assumes nothing.
use mathlib.Core.Path.{◌≡◌, refl, sym, ap, ◌∙◌, subst}
use mathlib.Core.Bool.{Bool, true, false, cond}
use Prim.Native.Nat.{ℕ}
use native.Mathlib.Omega.{arith}
use borrow.Author.Tests.{eq-eqb, ne_eqb, eqb-true}
use lib.Dec.{T, eqb}
use Rattle.splitting.specs.declared.state.State.{State}
use Rattle.splitting.specs.declared.state.State.TheVariants.{Going, Whole, Unwritten, Unread}
use Rattle.splitting.specs.State.{is_over, status_of}

pub not-over : (s : State) → is_over s ≡ false → s ≡ Going
not-over Going e = refl
not-over Whole e = absurd (subst T e tt)
not-over Unwritten e = absurd (subst T e tt)
not-over Unread e = absurd (subst T e tt)

pub over-not-going : (s : State) → is_over s ≡ true → s ≡ Going → ⊥
over-not-going s e f = subst T (sym e ∙ ap is_over f) tt

-- ---- told at the end
pub status-clean : (s : State) (n : ℕ) → s ≡ Whole → n ≡ 0 → 48 ≡ status_of s n
status-clean s n e z = sym (ap (λ (x : State). status_of x n) e ∙ simp (eq-eqb n 0 z))

pub status-refused : (s : State) (n : ℕ) → s ≡ Whole → (n ≡ 0 → ⊥) → 49 ≡ status_of s n
status-refused s n e z = sym (ap (λ (x : State). status_of x n) e ∙ simp (ne_eqb n 0 z))

zero-clean : (n : ℕ) (b : Bool) → eqb n 0 ≡ b → ◌≡◌ {A = ℕ} (cond b 48 49) 48 → n ≡ 0
zero-clean n true k e = eqb-true n 0 k
zero-clean n false k e = absurd (omega arith)

pub status-zero : (s : State) (n : ℕ) → status_of s n ≡ 48 → (s ≡ Whole) × (n ≡ 0)
status-zero Whole n e = (refl, zero-clean n (eqb n 0) refl e)
status-zero Going n e = absurd (omega arith)
status-zero Unwritten n e = absurd (omega arith)
status-zero Unread n e = absurd (omega arith)
