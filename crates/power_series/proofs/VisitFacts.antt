-- What the visit of n orders leaves: its cells, 2 to each order; where it stopped, an entry of 0 and below it the fixed not-a-number; each
-- order from there up counted once, as a zero, a seed or a step of the recurrence; no step before two seeds, and no sum of more than 19
-- terms. Assumes nothing.
use mathlib.Core.Path.{◌≡◌, refl, sym, ap, ◌∙◌}
use mathlib.Core.Logic.{◌⊎◌, inl, inr}
use mathlib.Core.Bool.{true, false}
use mathlib.Core.List.{List, ◌∷◌, ◌++◌}
use Prim.Native.Nat.{ℕ, zero, suc, ◌+◌, ◌-◌, ◌*◌, ◌≤◌, ◌<◌}
use native.Mathlib.Nat.{zero-lt-suc}
use native.Mathlib.Omega.{arith}
use lib.ListN.{length, replicate, length-append, length-replicate}
use lib.Ieee.{Float}
use Rattle.laws.specs.Run.{run}
use Rattle.laws.proofs.Run.{Ends, run_ends}
use Rattle.machine.specs.Constants.{not_a_number}
use Rattle.machine.specs.Small.{nothing}
use Rattle.complex.specs.declared.number.Complex.{Complex}
use Rattle.series_step.specs.declared.setting.Setting.{Setting}
use Rattle.series_step.specs.declared.descent.Descent.{Descent}
use Rattle.series_step.specs.Descent.{start_descent}
use Rattle.series_step.specs.Step.{step_of}
use Rattle.series_step.proofs.StepFacts.{zeroed, kept, recurred, did}
use Rattle.power_series.specs.Visit.{Walk, start_walk, is_stopped, with_entry, next_walk, walk_of, visited_of, visit_of}
use Rattle.power_series.proofs.WalkFacts.{stopping, stepping}

-- the orders that are done
abbrev pub orders_of : Descent → ℕ
orders_of s = s.counts.zeros + s.seeded + s.counts.rungs

-- of n orders i are done
record Along (n i : ℕ) (w : Walk) : Type 0 where
  pub left : w.standing.left ≡ n - i
  pub counted : orders_of w.standing.state ≡ i
  pub after-seeds : 0 < w.standing.state.counts.rungs → 2 ≤ w.standing.state.seeded
  pub longest : w.standing.state.counts.longest_sum ≤ 19
  pub written : length w.cells ≡ i * 2
  pub begun : w.standing.state.stopped ≡ true → 0 < i
  pub zero-entry : w.standing.state.stopped ≡ true → (rest : List Float) × (w.cells ≡ nothing ∷ nothing ∷ rest)

false-true : false ≡ true → ⊥
false-true e = let z : ◌≡◌ {A = ℕ} 0 1 = cc in omega arith

module _ (g : Setting) (n : ℕ) where
  starts : Along n 0 (start_walk n)
  unfolding start_walk start_descent
  starts = record {
    left = omega arith;
    counted = refl;
    after-seeds = λ h. omega arith;
    longest = omega arith;
    written = refl;
    begun = λ e. absurd (false-true e);
    zero-entry = λ e. absurd (false-true e);
  }

  orders-more : (k : ℕ) (s : Descent) → orders_of (step_of g k s) ≡ orders_of s + 1
  orders-more k s = elim (did g k s) [ zeroed d ↦ omega arith | kept d ↦ omega arith | recurred d ↦ omega arith ]

  seeds-first : (k : ℕ) (s : Descent) → (0 < s.counts.rungs → 2 ≤ s.seeded) → 0 < (step_of g k s).counts.rungs → 2 ≤ (step_of g k s).seeded
  seeds-first k s o h =
      elim (did g k s) [
        | zeroed d ↦ (let l = o (omega arith) in omega arith)
        | kept d ↦ (let l = o (omega arith) in omega arith)
        | recurred d ↦ omega arith
      ]

  sum-longest : (k : ℕ) (s : Descent) → s.counts.longest_sum ≤ 19 → (step_of g k s).counts.longest_sum ≤ 19
  sum-longest k s l = elim (did g k s) [ zeroed d ↦ d.longest l | kept d ↦ d.longest l | recurred d ↦ d.longest l ]

  entry : (k : ℕ) (s : Descent) (cells : List Float) → (step_of g k s).stopped ≡ true → (rest : List Float) × ((step_of g k s).above.re ∷ (step_of g k s).above.im ∷ cells ≡ nothing ∷ nothing ∷ rest)
  entry k s cells e =
      elim (did g k s) [
        | zeroed d ↦ (cells, ap (λ (z : Complex). z.re ∷ z.im ∷ cells) d.entry)
        | kept d ↦ absurd (false-true (sym d.stopped ∙ e))
        | recurred d ↦ absurd (false-true (sym d.stopped ∙ e))
      ]

  goes : (i : ℕ) (w : Walk) → is_stopped w ≡ false → Along n i w → Along n (suc i) (next_walk g w)
  unfolding next_walk with_entry
  goes i w o a =
      let k = w.standing.left - 1 in
      let s = w.standing.state in
      let more = orders-more k s in
      let left : w.standing.left ≡ n - i = a.left in
      let counted : orders_of s ≡ i = a.counted in
      let written : length w.cells ≡ i * 2 = a.written in
      record {
        left = omega arith;
        counted = more ∙ omega arith;
        after-seeds = seeds-first k s a.after-seeds;
        longest = sum-longest k s a.longest;
        written = omega arith;
        begun = λ e. omega arith;
        zero-entry = λ e. entry k s w.cells e;
      }

  -- where it ends
  abbrev ended : Ends stopping (stepping g) (Along n) n 0 (start_walk n)
  ended = run_ends stopping (stepping g) (Along n) goes n 0 (start_walk n) starts

  along : Along n ended.k (walk_of g n)
  unfolding walk_of
  along = ended.holds

  within : ended.k ≤ n
  within = let h : ended.k ≤ 0 + n = ended.to in omega arith

  pub orders-counted : orders_of (walk_of g n).standing.state + (walk_of g n).standing.left ≡ n
  orders-counted =
      let left = along.left in
      let counted = along.counted in
      let few = within in
      omega arith

  -- two orders at least are seeded before the first step, so that of one order there is none
  pub rungs-few : (walk_of g n).standing.state.counts.rungs ≤ n - 2
  rungs-few =
      let s = (walk_of g n).standing.state in
      let counted : orders_of s ≡ ended.k = along.counted in
      let few = within in
      go s.counts.rungs s.counts.zeros s.seeded (omega arith) along.after-seeds
    where
      go : (r z d : ℕ) → z + d + r ≤ n → (0 < r → 2 ≤ d) → r ≤ n - 2
      go zero z d h o = omega arith
      go (suc r) z d h o = let l = o (zero-lt-suc r) in omega arith

  pub longest-few : (walk_of g n).standing.state.counts.longest_sum ≤ 19
  longest-few = along.longest

  pub cells-length : length (visit_of g n).cells ≡ n * 2
  unfolding visit_of visited_of
  cells-length =
      let left = along.left in
      let written = along.written in
      let few = within in
      simp (length-append, length-replicate) (omega arith)

  -- a visit that stopped: the entry at its place is 0, and below it is the fixed not-a-number
  pub record Stopped : Type 0 where
    pub low : (visit_of g n).visit.place < n
    pub rest : List Float
    pub cells : (visit_of g n).cells ≡ replicate ((visit_of g n).visit.place * 2) not_a_number ++ (nothing ∷ nothing ∷ rest)

  pub stopped-cells : (visit_of g n).visit.stopped ≡ true → Stopped
  unfolding visit_of visited_of
  stopped-cells e =
      let left = along.left in
      let begun : 0 < ended.k = along.begun e in
      let few = within in
      let z = along.zero-entry e in
      record { low = omega arith; rest = z.0; cells = ap (λ (l : List Float). replicate ((walk_of g n).standing.left * 2) not_a_number ++ l) z.1 }

  -- one that did not stop went through all orders
  pub whole : (visit_of g n).visit.stopped ≡ false → (visit_of g n).visit.place ≡ 0
  unfolding visit_of visited_of walk_of is_stopped
  whole e = at ended.ended
    where
      at : (stopping ended.k (run stopping (stepping g) n 0 (start_walk n)) ≡ true) ⊎ (ended.k ≡ 0 + n) → (walk_of g n).standing.left ≡ 0
      at (inl h) = absurd (false-true (sym e ∙ h))
      at (inr h) = let left = along.left in omega arith
