-- What one order of the visit does: it is set to zero, or seeded, or follows by the recurrence, with the count that each raises; no sum is
-- longer than 19, and only a zeroed order stops the visit. Assumes nothing.
use mathlib.Core.Path.{◌≡◌, refl}
use mathlib.Core.Bool.{Bool, true, false, cond}
use Prim.Native.Nat.{ℕ, ◌+◌, ◌≤◌, ◌<◌}
use native.Mathlib.Omega.{arith}
use lib.Dec.{ltb}
use lib.Ieee.{Float, neg, lt, le}
use borrow.Author.Tests.{ltb-true, ltb-false}
use Rattle.machine.specs.Constants.{exponent_limit, absolute_approximation_limit}
use Rattle.complex.specs.declared.number.Complex.{Complex}
use Rattle.complex.specs.Arithmetic.{product_of, times_real, zero_pair}
use Rattle.complex.specs.Functions.{modulus_of}
use Rattle.series_sum.specs.Sum.{sum_of}
use Rattle.series_sum.proofs.SumRun.{sum-few}
use Rattle.series_step.specs.declared.setting.Setting.{Setting}
use Rattle.series_step.specs.declared.descent.Tally.{Tally}
use Rattle.series_step.specs.declared.descent.Descent.{Descent}
use Rattle.series_step.specs.Setting.{order_at}
use Rattle.series_step.specs.Leading.{leading_of}
use Rattle.series_step.specs.Mark.{longest_of, marked_of}
use Rattle.series_step.specs.Seed.{coefficient_of, is_gone, zeroed_of, kept_of, gone_if, summed_of, seed_if, seed_of}
use Rattle.series_step.specs.Recurred.{backward_of, cleared_if, under_mark, recurred_if, recurred_of}
use Rattle.series_step.specs.Step.{step_if, step_of}

-- ---- the three ways, from s to t
-- no longest sum of more than 19 terms comes of one that is not
abbrev pub StaysFew : Descent → Descent → Type 0
StaysFew s t = s.counts.longest_sum ≤ 19 → t.counts.longest_sum ≤ 19

pub record Zeroed (g : Setting) (k : ℕ) (s t : Descent) : Type 0 where
  pub open-seed : s.seeded < 2
  pub seeded : t.seeded ≡ s.seeded
  pub zeros : t.counts.zeros ≡ s.counts.zeros + 1
  pub rungs : t.counts.rungs ≡ s.counts.rungs
  pub longest : StaysFew s t
  pub entry : t.above ≡ zero_pair
  pub stopped : t.stopped ≡ lt (order_at g.order k) g.abs_half_z_sq

pub record Kept (s t : Descent) : Type 0 where
  pub open-seed : s.seeded < 2
  pub seeded : t.seeded ≡ s.seeded + 1
  pub zeros : t.counts.zeros ≡ s.counts.zeros
  pub rungs : t.counts.rungs ≡ s.counts.rungs
  pub longest : StaysFew s t
  pub stopped : t.stopped ≡ false

pub record Recurred (s t : Descent) : Type 0 where
  pub both : 2 ≤ s.seeded
  pub seeded : t.seeded ≡ s.seeded
  pub zeros : t.counts.zeros ≡ s.counts.zeros
  pub rungs : t.counts.rungs ≡ s.counts.rungs + 1
  pub longest : StaysFew s t
  pub stopped : t.stopped ≡ false

pub data Did (g : Setting) (k : ℕ) (s t : Descent) : Type 0 where
  zeroed : Zeroed g k s t → Did g k s t
  kept : Kept s t → Did g k s t
  recurred : Recurred s t → Did g k s t

-- the longer of two that are not
longer-few : (terms longest : ℕ) → terms ≤ 19 → longest ≤ 19 → longest_of terms longest ≤ 19
unfolding longest_of
longer-few terms longest a b = go (ltb longest terms)
  where
    go : (t : Bool) → cond t terms longest ≤ 19
    go true = a
    go false = b

module _ (g : Setting) (k : ℕ) (s : Descent) where
  abbrev order : Float
  order = order_at g.order k

  by_value : (b : Bool) (value lead : Complex) (terms : ℕ) → terms ≤ 19 → s.seeded < 2 → Did g k s (gone_if b g order value (marked_of lead.re terms s))
  unfolding gone_if zeroed_of kept_of marked_of
  by_value true value lead terms few h =
      zeroed (record { open-seed = h; seeded = refl; zeros = refl; rungs = refl; longest = λ l. longer-few terms s.counts.longest_sum few l; entry = refl; stopped = refl })
  by_value false value lead terms few h =
      kept (record { open-seed = h; seeded = refl; zeros = refl; rungs = refl; longest = λ l. longer-few terms s.counts.longest_sum few l; stopped = refl })

  by-exponent : (b : Bool) (lead : Complex) → s.seeded < 2 → Did g k s (seed_if b g order lead s)
  unfolding seed_if zeroed_of summed_of
  by-exponent true lead h = zeroed (record { open-seed = h; seeded = refl; zeros = refl; rungs = refl; longest = λ l. l; entry = refl; stopped = refl })
  by-exponent false lead h =
      let sum = sum_of order g.half_z_sq g.abs_half_z_sq in
      let m = marked_of lead.re sum.terms s in
      let value = product_of sum.value (coefficient_of lead m.near_underflow) in
      by_value (is_gone m.near_underflow value) value lead sum.terms (sum-few order g.half_z_sq g.abs_half_z_sq) h

  abbrev counted : Tally
  counted = record { zeros = s.counts.zeros; longest_sum = s.counts.longest_sum; rungs = s.counts.rungs + 1 }

  by-modulus : (b : Bool) (entry next : Complex) → 2 ≤ s.seeded → Did g k s (cleared_if b entry next counted s)
  unfolding cleared_if
  by-modulus true entry next h = recurred (record { both = h; seeded = refl; zeros = refl; rungs = refl; longest = λ l. l; stopped = refl })
  by-modulus false entry next h = recurred (record { both = h; seeded = refl; zeros = refl; rungs = refl; longest = λ l. l; stopped = refl })

  by-mark : (b : Bool) (next : Complex) → 2 ≤ s.seeded → Did g k s (recurred_if b next counted s)
  unfolding recurred_if under_mark
  by-mark true next h =
      let entry = times_real next s.scale_factor in
      by-modulus (lt absolute_approximation_limit (modulus_of entry)) entry next h
  by-mark false next h = recurred (record { both = h; seeded = refl; zeros = refl; rungs = refl; longest = λ l. l; stopped = refl })

  by-seeds : (b : Bool) → ltb s.seeded 2 ≡ b → Did g k s (step_if b g k s)
  unfolding step_if seed_of recurred_of
  by-seeds true e = by-exponent (le (leading_of g order).re (neg exponent_limit)) (leading_of g order) (ltb-true s.seeded 2 e)
  by-seeds false e = by-mark s.near_underflow (backward_of g k s.y_k_plus_2 s.y_k_plus_1) (ltb-false s.seeded 2 e)

  pub did : Did g k s (step_of g k s)
  unfolding step_of
  did = by-seeds (ltb s.seeded 2) refl

-- no count grows by more than one
pub zeros-grow : (g : Setting) (k : ℕ) (s : Descent) → (step_of g k s).counts.zeros ≤ s.counts.zeros + 1
zeros-grow g k s = elim (did g k s) [ zeroed d ↦ omega arith | kept d ↦ omega arith | recurred d ↦ omega arith ]

pub rungs-grow : (g : Setting) (k : ℕ) (s : Descent) → (step_of g k s).counts.rungs ≤ s.counts.rungs + 1
rungs-grow g k s = elim (did g k s) [ zeroed d ↦ omega arith | kept d ↦ omega arith | recurred d ↦ omega arith ]
