-- The near-underflow mark stays until an entry is large enough: an order that is seeded or set to zero never clears it, and a step of the recurrence
-- clears it only where the modulus of its entry exceeds A. Assumes nothing.
use mathlib.Core.Path.{◌≡◌, refl, sym, ap, ◌∙◌, subst}
use mathlib.Core.Bool.{Bool, true, false, ◌||◌}
use mathlib.Core.Logic.{◌⊎◌, inl, inr}
use Prim.Native.Nat.{ℕ, ◌+◌}
use lib.Dec.{T, ltb}
use lib.Ieee.{Float, neg, lt, le}
use Rattle.machine.specs.Constants.{approximation_limit, absolute_approximation_limit, exponent_limit}
use Rattle.complex.specs.declared.number.Complex.{Complex}
use Rattle.complex.specs.Arithmetic.{product_of, times_real}
use Rattle.complex.specs.Functions.{modulus_of}
use Rattle.series_sum.specs.Sum.{sum_of}
use Rattle.series_step.specs.declared.setting.Setting.{Setting}
use Rattle.series_step.specs.declared.descent.Tally.{Tally}
use Rattle.series_step.specs.declared.descent.Descent.{Descent}
use Rattle.series_step.specs.Setting.{order_at}
use Rattle.series_step.specs.Leading.{leading_of}
use Rattle.series_step.specs.Mark.{mark_of, marked_of}
use Rattle.series_step.specs.Seed.{coefficient_of, is_gone, zeroed_of, kept_of, gone_if, summed_of, seed_if, seed_of}
use Rattle.series_step.specs.Recurred.{backward_of, cleared_if, under_mark, recurred_if, recurred_of}
use Rattle.series_step.specs.Step.{step_if, step_of}

abbrev Marked : Descent → Type 0
Marked s = s.near_underflow ≡ true

or-true : (b : Bool) → b || true ≡ true
or-true true = refl
or-true false = refl

-- ---- an order that is seeded or set to zero
gone-marked : (b : Bool) (g : Setting) (order : Float) (value : Complex) (s : Descent) → Marked s → Marked (gone_if b g order value s)
unfolding gone_if zeroed_of kept_of
gone-marked true g order value s m = m
gone-marked false g order value s m = m

marked-marked : (exponent : Float) (terms : ℕ) (s : Descent) → Marked s → Marked (marked_of exponent terms s)
unfolding marked_of mark_of
marked-marked exponent terms s m = ap (λ (b : Bool). le exponent (neg approximation_limit) || b) m ∙ or-true (le exponent (neg approximation_limit))

module _ (g : Setting) (order : Float) (s : Descent) (m : Marked s) where
  seeded-marked : (b : Bool) (lead : Complex) → Marked (seed_if b g order lead s)
  unfolding seed_if zeroed_of summed_of
  seeded-marked true lead = m
  seeded-marked false lead =
      let sum = sum_of order g.half_z_sq g.abs_half_z_sq in
      let w = marked_of lead.re sum.terms s in
      let value = product_of sum.value (coefficient_of lead w.near_underflow) in
      gone-marked (is_gone w.near_underflow value) g order value w (marked-marked lead.re sum.terms s m)

  pub seeding-never-clears : (seed_of g order s).near_underflow ≡ true
  unfolding seed_of
  seeding-never-clears = let lead = leading_of g order in seeded-marked (le lead.re (neg exponent_limit)) lead

-- ---- a step of the recurrence: marked still, or its entry is above A
abbrev Large : Descent → Type 0
Large t = T (lt absolute_approximation_limit (modulus_of t.above))

cleared-large :
    (b : Bool) (entry next : Complex) (counts : Tally) (s : Descent) → b ≡ lt absolute_approximation_limit (modulus_of entry) →
    let t = cleared_if b entry next counts s in Marked t ⊎ Large t
unfolding cleared_if
cleared-large true entry next counts s e = inr (subst T e tt)
cleared-large false entry next counts s e = inl refl

under-marked : (next : Complex) (counts : Tally) (s : Descent) → let t = recurred_if true next counts s in Marked t ⊎ Large t
unfolding recurred_if under_mark
under-marked next counts s =
    let entry = times_real next s.scale_factor in
    cleared-large (lt absolute_approximation_limit (modulus_of entry)) entry next counts s refl

module _ (g : Setting) (k : ℕ) (s : Descent) (m : Marked s) where
  pub recurrence-clears-large : let t = recurred_of g k s in (t.near_underflow ≡ true) ⊎ T (lt absolute_approximation_limit (modulus_of t.above))
  unfolding recurred_of
  recurrence-clears-large =
      let next = backward_of g k s.y_k_plus_2 s.y_k_plus_1 in
      let counts : Tally = record { zeros = s.counts.zeros; longest_sum = s.counts.longest_sum; rungs = s.counts.rungs + 1 } in
      subst (λ (b : Bool). let t = recurred_if b next counts s in Marked t ⊎ Large t) (sym m) (under-marked next counts s)

  by_way : (b : Bool) → let t = step_if b g k s in Marked t ⊎ Large t
  unfolding step_if
  by_way true = inl (seeding-never-clears g (order_at g.order k) s m)
  by_way false = recurrence-clears-large

  -- whichever the order is
  pub mark-stays : let t = step_of g k s in (t.near_underflow ≡ true) ⊎ T (lt absolute_approximation_limit (modulus_of t.above))
  unfolding step_of
  mark-stays = by_way (ltb s.seeded 2)
