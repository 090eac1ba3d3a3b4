-- The trials of the start search as the loop takes them: a value above zero, one trial more, the first that meets the test, and none. Assumes nothing.
use mathlib.Core.Path.{◌≡◌, refl}
use mathlib.Core.Bool.{true, false}
use Prim.Native.Nat.{ℕ, zero, suc, ◌+◌, ◌-◌, ◌≤◌, ◌<◌}
use native.Mathlib.Omega.{arith}
use borrow.Author.Tests.{le-leb, lt-leb}
use lib.Dec.{T}
use lib.Ieee.{Float, nan, inf, fin, binary64, of_bits, lt}
use Rattle.std.specs.Prelude.{Some, None}
use Rattle.machine.specs.Magnitude.{magnitude_of}
use Rattle.miller.specs.Trials.{next_trial, trial_after, trials_taken, trial_index}

-- a value above zero is its own magnitude
pub magnitude-above : (p : Float) → T (lt (of_bits binary64 0) p) → magnitude_of p ≡ p
unfolding magnitude_of of_bits lt
magnitude-above nan h = absurd h
magnitude-above (inf true) h = absurd h
magnitude-above (inf false) h = refl
magnitude-above (fin true m e) h = absurd h
magnitude-above (fin false m e) h = refl

module _ (modulus square : Float) where
  pub trial-next : (i : ℕ) → 1 ≤ i → next_trial modulus square i (trial_after modulus square (i - 1)) ≡ trial_after modulus square i
  unfolding trial_after
  trial-next zero h = absurd (none h)
    where
      none : 1 ≤ 0 → ⊥
      none h = omega arith
  trial-next (suc i) h = let e : suc i - 1 ≡ i = omega arith in rw e refl

  pub index-met : (test : Float) (i : ℕ) → trials_taken modulus square test ≡ i → i ≤ 30 → trial_index modulus square test ≡ Some (i + 1)
  unfolding trial_index
  index-met test i e h = simp (e, le-leb i 30 h)

  pub index-unmet : (test : Float) (i : ℕ) → trials_taken modulus square test ≡ i → 30 < i → trial_index modulus square test ≡ None
  unfolding trial_index
  index-unmet test i e h = simp (e, lt-leb i 30 h)
