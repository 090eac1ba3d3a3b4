-- What the start search and the seeds give, whatever they are asked with: a start is at most 256, the backward steps are the start, and the trial index is
-- that of the first trial whose test is met. Assumes nothing.
use mathlib.Core.Path.{◌≡◌, refl, sym, subst}
use mathlib.Core.Logic.{◌⊎◌, inl, inr}
use mathlib.Core.Bool.{Bool, true, false, cond, ◌&&◌}
use Prim.Native.Nat.{ℕ, ◌+◌, ◌≤◌, ◌<◌}
use native.Mathlib.Omega.{arith}
use borrow.Author.Tests.{leb-true, leb-false}
use lib.Dec.{leb}
use lib.Ieee.{Float, neg, lt, le}
use lib.Ieee.Scale.{finite}
use Rattle.std.specs.Prelude.{Option, Some, None, Result, Ok, Err}
use Rattle.laws.specs.Run.{first_from}
use Rattle.laws.proofs.Run.{found}
use Rattle.complex.specs.declared.number.Complex.{Complex}
use Rattle.refusal.specs.declared.refusal.Refusal as refusals
use Rattle.miller.specs.declared.point.Point.{Point}
use Rattle.miller.specs.declared.point.Order.{Order}
use Rattle.refusal.specs.declared.refusal.Refusal.{Refusal}
use Rattle.miller.specs.declared.seeds.Miller.{Miller}
use Rattle.machine.specs.Small.{one}
use Rattle.miller.specs.Whole.{truncated}
use Rattle.miller.specs.Point.{is_real}
use Rattle.miller.specs.Trials.{met_after, trials_taken, trial_index}
use Rattle.miller.specs.Search.{is_start, start_from, threshold, raw_start, corrected, convergence_test, by_recurrence, formula_of, start_of}
use Rattle.miller.specs.Seeds.{real_seeds, complex_seeds, seeds_from, seeds_at, seeds_of}
use Rattle.miller.proofs.BackwardFacts.{real-steps-are-the-start, complex-steps-are-the-start}

-- ---- a start is at most 256
abbrev pub Small : Option ℕ → Type 0
Small (Some k) = k ≤ 256
Small None = Unit

from-small : (raw : Float) → Small (start_from raw)
unfolding start_from is_start
from-small raw = go (finite raw) (lt (neg one) raw) (leb (truncated raw) 256) refl
  where
    go : (a b c : Bool) → leb (truncated raw) 256 ≡ c → Small (cond (a && b && c) (Some (truncated raw)) None)
    go false b c e = tt
    go true false c e = tt
    go true true false e = tt
    go true true true e = leb-true (truncated raw) 256 e

corrected-small : (point : Point) (s : Option ℕ) → Small (corrected point s)
unfolding corrected
corrected-small point (Some k) = from-small (raw_start point k)
corrected-small point None = tt

recurrence-small : (point : Point) (order : Order) → Small (by_recurrence point order)
unfolding by_recurrence
recurrence-small point order = go (le (convergence_test point order) one) (trial_index point.modulus order.square (convergence_test point order))
  where
    go : (b : Bool) (s : Option ℕ) → Small (cond b (Some 1) (corrected point s))
    go true s = omega arith
    go false s = corrected-small point s

pub start_small : (point : Point) (order : Order) → Small (start_of point order)
unfolding start_of
start_small point order = go (lt threshold point.modulus)
  where
    go : (b : Bool) → Small (cond b (by_recurrence point order) (start_from (formula_of point order.rotation)))
    go true = recurrence-small point order
    go false = from-small (formula_of point order.rotation)

-- ---- the trials: the index is one more than the first of 1 to 30 that meets the test, and there is none exactly where none meets it
module _ (modulus square test : Float) where
  pub record FirstMet (k i : ℕ) : Type 0 where
    pub index : k ≡ i + 1
    pub from : 1 ≤ i
    pub to : i ≤ 30
    pub meets : met_after modulus square test i ≡ true
    pub before : (j : ℕ) → 1 ≤ j → j < i → met_after modulus square test j ≡ false

  at-index : (i k : ℕ) → cond (leb i 30) (Some (i + 1)) None ≡ Some k → (k ≡ i + 1) × (i ≤ 30)
  at-index i k e = go (leb i 30) refl e
    where
      go : (b : Bool) → leb i 30 ≡ b → cond b (Some (i + 1)) None ≡ Some k → (k ≡ i + 1) × (i ≤ 30)
      go true t h = (cc, leb-true i 30 t)
      go false t h = let z : ◌≡◌ {A = ℕ} 0 1 = cc in absurd (omega arith)

  no_index : (i : ℕ) → cond (leb i 30) (Some (i + 1)) None ≡ None → 30 < i
  no_index i e = go (leb i 30) refl e
    where
      go : (b : Bool) → leb i 30 ≡ b → cond b (Some (i + 1)) None ≡ None → 30 < i
      go true t h = let z : ◌≡◌ {A = ℕ} 0 1 = cc in absurd (omega arith)
      go false t h = leb-false i 30 t

  pub index-is-first : (k : ℕ) → trial_index modulus square test ≡ Some k → (i : ℕ) × FirstMet k i
  unfolding trial_index trials_taken
  index-is-first k e =
      let r = found (met_after modulus square test) 30 1 in
      let i = first_from (met_after modulus square test) 30 1 in
      let h = at-index i k e in
      (i, record { index = h.0; from = r.from; to = h.1; meets = passed i h.1 r.passes; before = r.before })
    where
      passed : (i : ℕ) → i ≤ 30 → (met_after modulus square test i ≡ true) ⊎ (i ≡ 1 + 30) → met_after modulus square test i ≡ true
      passed i h (inl e) = e
      passed i h (inr e) = absurd (omega arith)

  pub unmet-by-all : trial_index modulus square test ≡ None → (i : ℕ) → 1 ≤ i → i ≤ 30 → met_after modulus square test i ≡ false
  unfolding trial_index trials_taken
  unmet-by-all e i l h =
      let r = found (met_after modulus square test) 30 1 in
      let g : 30 < first_from (met_after modulus square test) 30 1 = no_index (first_from (met_after modulus square test) 30 1) e in
      r.before i l (omega arith)

-- ---- the backward steps of an answer are its start, so at most 256; no start is refusal 6
backward-is-start : (point : Point) (order : Order) (coefficient : Complex) (alone : Bool) (start : ℕ) → (seeds_from point order coefficient alone start).backward ≡ start
unfolding seeds_from real_seeds complex_seeds
backward-is-start point order coefficient alone start = go (is_real point.z)
  where
    go : (b : Bool) → (cond b (real_seeds point.z.re order coefficient.re alone start) (complex_seeds point.z order coefficient alone start)).backward ≡ start
    go true = real-steps-are-the-start point.z.re order.distance start
    go false = complex-steps-are-the-start point.z order.distance start

-- an outcome: a pair after at most 256 backward steps, or refusal 6
abbrev pub Settled : Result Miller Refusal → Type 0
Settled (Ok m) = m.backward ≤ 256
Settled (Err r) = r ≡ refusals.TheVariants.Start

pub seeds-settled : (point : Point) (order : Order) (coefficient : Complex) (alone : Bool) → Settled (seeds_of point order coefficient alone)
unfolding seeds_of seeds_at
seeds-settled point order coefficient alone = go (start_of point order) (start_small point order)
  where
    go : (s : Option ℕ) → Small s → Settled (seeds_at point order coefficient alone s)
    go (Some k) h = subst (λ (n : ℕ). n ≤ 256) (sym (backward-is-start point order coefficient alone k)) h
    go None h = refl
