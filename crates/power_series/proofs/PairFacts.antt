-- The two highest orders of a visit seeded far from underflow, and the recurrence after them: what each step of the visit is there. Assumes
-- nothing.
use mathlib.Core.Path.{◌≡◌, refl, sym, ap, ◌∙◌, subst}
use mathlib.Core.Bool.{Bool, true, false, ◌||◌}
use mathlib.Core.List.{List}
use Prim.Native.Nat.{ℕ, ◌+◌, ◌-◌, ◌*◌, ◌≤◌, ◌<◌}
use native.Mathlib.Omega.{arith}
use lib.Dec.{T}
use lib.ListN.{length, set}
use lib.Ieee.{Float, of_bits, neg, lt, le, eq}
use borrow.Author.Tests.{lt-ltb, le-ltb}
use Rattle.laws.proofs.Order.{le-trans-float}
use Rattle.machine.specs.Constants.{exponent_limit, approximation_limit}
use Rattle.complex.specs.declared.number.Complex.{Complex}
use Rattle.complex.specs.Arithmetic.{product_of}
use Rattle.complex.specs.Functions.{complex_exp_of}
use Rattle.series_sum.specs.declared.sum.Sum.{Sum}
use Rattle.series_sum.specs.Sum.{sum_of}
use Rattle.series_step.specs.declared.setting.Setting.{Setting}
use Rattle.series_step.specs.declared.descent.Tally.{Tally}
use Rattle.series_step.specs.declared.descent.Descent.{Descent}
use Rattle.series_step.specs.Setting.{order_at}
use Rattle.series_step.specs.Descent.{start_descent}
use Rattle.series_step.specs.Leading.{leading_of}
use Rattle.series_step.specs.Mark.{mark_of, marked_of}
use Rattle.series_step.specs.Seed.{coefficient_if, coefficient_of, is_gone, kept_of, gone_if, summed_of, seed_if, seed_of}
use Rattle.series_step.specs.Recurred.{backward_of, recurred_if, recurred_of}
use Rattle.series_step.specs.Step.{step_if, step_of}
use Rattle.series_sum.specs.declared.sums.Two.{Two}
use Rattle.power_series.specs.Visit.{walk_of}
use Rattle.power_series.specs.shapes.Pair.{entered_of, pair_of, Settled, Begun}
use Rattle.power_series.proofs.WalkFacts.{Walking, walking_start, walking-put}

-- ---- far from underflow
wider : T (le (neg exponent_limit) (neg approximation_limit))
unfolding exponent_limit approximation_limit of_bits neg le lt eq
wider = tt

not-lost : (x : Float) → le x (neg approximation_limit) ≡ false → le x (neg exponent_limit) ≡ false
not-lost x h = go (le x (neg exponent_limit)) refl
  where
    go : (b : Bool) → le x (neg exponent_limit) ≡ b → b ≡ false
    go false e = refl
    go true e = absurd (subst T h (le-trans-float x (neg exponent_limit) (neg approximation_limit) (subst T (sym e) tt) wider))

-- ---- a seed
module _ (g : Setting) (k : ℕ) (s : Descent) where
  abbrev order : Float
  order = order_at g.order k

  abbrev lead : Complex
  lead = leading_of g order

  abbrev sum : Sum
  sum = sum_of order g.half_z_sq g.abs_half_z_sq

  abbrev pub entered_at : Descent
  entered_at = entered_of lead (complex_exp_of lead) sum s

  unmarked : s.near_underflow ≡ false → le lead.re (neg approximation_limit) ≡ false → (marked_of lead.re sum.terms s).near_underflow ≡ false
  unfolding marked_of mark_of
  unmarked o h = ap (λ (b : Bool). b || s.near_underflow) h ∙ o

  summed-plainly : s.near_underflow ≡ false → le lead.re (neg approximation_limit) ≡ false → summed_of g order lead s ≡ entered_at
  unfolding summed_of coefficient_of coefficient_if is_gone gone_if entered_of
  summed-plainly o h =
      ap (λ (b : Bool). gone_if (is_gone b (product_of sum.value (coefficient_of lead b))) g order (product_of sum.value (coefficient_of lead b)) (marked_of lead.re sum.terms s)) (unmarked o h)

  step-plainly : s.seeded < 2 → s.near_underflow ≡ false → le lead.re (neg approximation_limit) ≡ false → step_of g k s ≡ entered_at
  unfolding step_of step_if seed_of seed_if
  step-plainly n o h = ap (λ (b : Bool). step_if b g k s) (lt-ltb s.seeded 2 n) ∙ ap (λ (b : Bool). seed_if b g order lead s) (not-lost lead.re h) ∙ summed-plainly o h

  entered-off : s.near_underflow ≡ false → le lead.re (neg approximation_limit) ≡ false → entered_at.near_underflow ≡ false
  unfolding entered_of kept_of
  entered-off o h = unmarked o h

-- ---- the pair
module _ (g : Setting) (n : ℕ) where
  abbrev pub lead_first : Complex
  lead_first = leading_of g (order_at g.order (n - 1))

  abbrev pub lead_second : Complex
  lead_second = leading_of g (order_at g.order (n - 2))

  abbrev higher : Descent
  higher = entered_at g (n - 1) start_descent

  abbrev lower : Descent
  lower = entered_at g (n - 2) higher

  start-open : start_descent.seeded < 2
  unfolding start_descent
  start-open = omega arith

  start-off : start_descent.near_underflow ≡ false
  unfolding start_descent
  start-off = refl

  one-seeded : higher.seeded ≡ 1
  unfolding start_descent marked_of kept_of entered_of
  one-seeded = refl

  two-seeded : lower.seeded ≡ 2
  unfolding start_descent marked_of kept_of entered_of
  two-seeded = refl

  no-zeros : lower.counts.zeros ≡ 0
  unfolding start_descent marked_of kept_of entered_of
  no-zeros = refl

  no-rungs : lower.counts.rungs ≡ 0
  unfolding start_descent marked_of kept_of entered_of
  no-rungs = refl

  higher-goes : higher.stopped ≡ false
  unfolding kept_of entered_of
  higher-goes = refl

  lower-goes : lower.stopped ≡ false
  unfolding kept_of entered_of
  lower-goes = refl

  pub begun : le lead_first.re (neg approximation_limit) ≡ false → le lead_second.re (neg approximation_limit) ≡ false → Begun g n (pair_of g n lead_first lead_second)
  unfolding pair_of
  begun a b =
      let off = entered-off g (n - 1) start_descent start-off a in
      let few : higher.seeded < 2 = let e = one-seeded in omega arith in
      let zeros = no-zeros in
      let rungs = no-rungs in
      record {
        higher = sym (step-plainly g (n - 1) start_descent start-open start-off a);
        lower = sym (step-plainly g (n - 2) higher few off b);
        goes = higher-goes;
        settled = record { seeded = two-seeded; off = entered-off g (n - 2) higher off b; goes = lower-goes; low = omega arith; zeros = omega arith; rungs = omega arith };
      }

-- ---- the cells of the pair
module _ (g : Setting) (n : ℕ) (p : Two Descent) (b : Begun g n p) (d : List Float) where
  two-less : (n : ℕ) → n - 2 ≡ n - 1 - 1
  two-less n = omega arith

  start-goes : start_descent.stopped ≡ false
  unfolding start_descent
  start-goes = refl

  pub paired-walk :
      length d ≡ n * 2 → 1 < n →
      (first : List Float) → first ≡ set (set d ((n - 1) * 2 + 1) p.higher.above.im) ((n - 1) * 2) p.higher.above.re →
      (second : List Float) → second ≡ set (set first ((n - 1 - 1) * 2 + 1) p.lower.above.im) ((n - 1 - 1) * 2) p.lower.above.re →
      Walking g (walk_of g n) d n (n - 1 - 1) p.lower second
  paired-walk e h first f second s =
      let higher = walking-put g d n (walking_start g d n e start_descent refl) p.higher b.higher (omega arith) start-goes first f in
      walking-put g d n higher p.lower (b.lower ∙ ap (λ (k : ℕ). step_of g k p.higher) (two-less n)) (omega arith) b.goes second s

-- ---- the recurrence
module _ (g : Setting) (k : ℕ) (s : Descent) where
  abbrev counted : Tally
  counted = record { zeros = s.counts.zeros; longest_sum = s.counts.longest_sum; rungs = s.counts.rungs + 1 }

  pub settled-step : s.seeded ≡ 2 → step_of g k s ≡ recurred_of g k s
  unfolding step_of step_if
  settled-step e = ap (λ (b : Bool). step_if b g k s) (le-ltb s.seeded 2 (omega arith))

  pub settled-next : {n left : ℕ} → Settled n left s → 0 < left → Settled n (left - 1) (recurred_of g k s)
  unfolding recurred_of recurred_if
  settled-next {n} {left} w h =
      let low : left ≤ n = w.low in
      let zeros : s.counts.zeros + left ≤ n = w.zeros in
      let rungs : s.counts.rungs + left ≤ n = w.rungs in
      subst (λ (b : Bool). Settled n (left - 1) (recurred_if b (backward_of g k s.y_k_plus_2 s.y_k_plus_1) counted s)) (sym w.off)
      (record { seeded = w.seeded; off = refl; goes = refl; low = omega arith; zeros = omega arith; rungs = omega arith })
