-- The visit of the one order 0, unscaled: ln of the leading term is a zero in each part, its exponential is 1 with a zero beside it, and
-- the product with the sum is the sum. Assumes nothing.
use mathlib.Core.Path.{◌≡◌, refl, sym, ap, ◌∙◌, subst}
use mathlib.Core.Bool.{Bool, true, false}
use mathlib.Core.List.{List, [], ◌∷◌}
use Prim.Native.Nat.{ℕ, zero, suc}
use native.Mathlib.Nat.{zero-lt-suc}
use native.Mathlib.Omega.{arith}
use lib.ListN.{length, set}
use lib.Dec.{T}
use lib.Ieee.{Float, binary64, of_bits, of_int, round, fits, neg, add, sub, lt, le, eq}
use lib.Ieee.Fits.{mul-fits}
use lib.Ieee.Scale.{finite}
use borrow.Author.Tests.{lt-ltb}
use Rattle.laws.specs.Operators.{◌⊕◌}
use Rattle.laws.proofs.Run.{run_on, run_out}
use Rattle.laws.proofs.Unit.{mul-one-float}
use Rattle.laws.proofs.Zero.{zero_of, zero_is}
use Rattle.machine.specs.Constants.{exponent_limit, approximation_limit}
use Rattle.machine.specs.Small.{nothing, half, one}
use Rattle.complex.specs.declared.number.Complex.{Complex}
use Rattle.complex.specs.Arithmetic.{product_of, times_real, minus_real}
use Rattle.complex.specs.Functions.{modulus_of}
use Rattle.complex.proofs.AtZero.{exp-zeros}
use Rattle.complex.proofs.LnFacts.{complex-ln-finite}
use Rattle.gamma_ln.proofs.AtOne.{log-gamma-at-one}
use Rattle.series_sum.specs.declared.sum.Sum.{Sum}
use Rattle.series_sum.specs.Sum.{sum_of}
use Rattle.series_step.specs.declared.setting.Setting.{Setting}
use Rattle.series_step.specs.declared.descent.Descent.{Descent}
use Rattle.series_step.specs.Setting.{order_at, half_square, turned_of, square_of, setting_of}
use Rattle.series_step.specs.Descent.{start_descent}
use Rattle.series_step.specs.Leading.{lowered_if, leading_of}
use Rattle.series_step.specs.Mark.{mark_of, scale_of, longest_of, marked_of}
use Rattle.series_step.specs.Seed.{coefficient_if, coefficient_of, is_gone, kept_of, gone_if, summed_of, seed_if, seed_of}
use Rattle.series_step.specs.Step.{step_if, step_of}
use Rattle.power_series.specs.Visit.{Visited, start_walk, is_stopped, with_entry, next_walk, walk_of, visited_of, visit_of}
use Rattle.power_series.specs.shapes.Alone.{Something, Plain}
use Rattle.power_series.proofs.WalkFacts.{stopping, stepping}
use Rattle.power_series.proofs.UnitFacts.{mul-zero-float, sub-zero-float, zero-add-float}

-- ---- values at the zeros
order-zero : (s : Bool) → order_at (zero_of s) 0 ≡ zero_of false
unfolding order_at of_int add round
order-zero true = refl
order-zero false = refl

next_one : add binary64 (zero_of false) one ≡ one
unfolding of_bits add
next_one = refl

less_zero : (a : Bool) → sub binary64 (zero_of a) (zero_of false) ≡ zero_of a
unfolding sub add neg
less_zero true = refl
less_zero false = refl

within : (a : Bool) → le (zero_of a) (neg exponent_limit) ≡ false
unfolding exponent_limit of_bits neg le lt eq
within true = refl
within false = refl

unmarked : (a : Bool) → le (zero_of a) (neg approximation_limit) ≡ false
unfolding approximation_limit of_bits neg le lt eq
unmarked true = refl
unmarked false = refl

-- ---- 1, with a zero beside it, as a factor
unit : (w : Complex) (b : Bool) → Something w.re → Something w.im → product_of w (record { re = one; im = zero_of b }) ≡ w
unfolding product_of
unit w b p q =
    let x = mul-zero-float w.im b q.bounded in
    let y = mul-zero-float w.re b p.bounded in
    rw (mul-one-float w.re p.holds, mul-one-float w.im q.holds, x.1, y.1, sub-zero-float w.re x.0 p, zero-add-float w.im y.0 q)

own-scale : (w : Complex) → Something w.re → Something w.im → times_real w one ≡ w
unfolding times_real
own-scale w p q = rw (mul-one-float w.re p.holds, mul-one-float w.im q.holds)

longest-first : (n : ℕ) → longest_of n 0 ≡ n
unfolding longest_of
longest-first zero = refl
longest-first (suc n) = rw (lt-ltb 0 (suc n) (zero-lt-suc n))

-- ---- the visit
abbrev setting : Bool → Float → Complex → Float → Setting
setting turned v z m = setting_of false turned v z m

abbrev pub sum_at : Bool → Float → Complex → Float → Sum
sum_at turned v z m = sum_of (order_at v 0) (setting turned v z m).half_z_sq (setting turned v z m).abs_half_z_sq

module _ (turned : Bool) (v : Float) (z : Complex) (m : Float) (s : Bool) (nought : v ≡ zero_of s) where
  abbrev g : Setting
  g = setting turned v z m

  abbrev order : Float
  order = order_at v 0

  abbrev sum : Sum
  sum = sum_at turned v z m

  order_is : order ≡ zero_of false
  order_is = ap (λ (x : Float). order_at x 0) nought ∙ order-zero s

  module _ (p : Plain (modulus_of (times_real z half)) sum.value) where
    logarithm : T (finite g.ln_half_z.re) × T (finite g.ln_half_z.im)
    unfolding setting_of times_real
    logarithm = complex-ln-finite (times_real z half) (mul-fits binary64 z.re half) (mul-fits binary64 z.im half) p.holds p.above

    leading : (a : Bool) × (b : Bool) × (leading_of g order ≡ record { re = zero_of a; im = zero_of b })
    unfolding setting_of leading_of lowered_if minus_real times_real
    leading =
        let x = mul-zero-float g.ln_half_z.re false logarithm.0 in
        let y = mul-zero-float g.ln_half_z.im false logarithm.1 in
        (x.0, y.0, rw (order_is, next_one, log-gamma-at-one, x.1, y.1, less_zero x.0))

    abbrev lead : Bool → Bool → Complex
    lead a b = record { re = zero_of a; im = zero_of b }

    abbrev marked : Bool → Descent
    marked a = marked_of (zero_of a) sum.terms start_descent

    mark-is : (a : Bool) → (marked a).near_underflow ≡ false
    unfolding marked_of mark_of start_descent
    mark-is a = rw (unmarked a)

    scale-is : (a : Bool) → (marked a).scale_factor ≡ one
    unfolding marked_of scale_of start_descent
    scale-is a = rw (unmarked a)

    summed : (a b : Bool) → summed_of g order (lead a b) start_descent ≡ kept_of sum.value (marked a)
    unfolding summed_of coefficient_of coefficient_if is_gone gone_if
    summed a b =
        ap (λ (near : Bool). gone_if (is_gone near (product_of sum.value (coefficient_of (lead a b) near))) g order (product_of sum.value (coefficient_of (lead a b) near)) (marked a)) (mark-is a)
        ∙ ap (λ (w : Complex). kept_of (product_of sum.value w) (marked a)) (exp-zeros a b)
        ∙ ap (λ (w : Complex). kept_of w (marked a)) (unit sum.value b p.re p.im)

    stepped : step_of g 0 start_descent ≡ kept_of sum.value (marked leading.0)
    unfolding setting_of step_of step_if seed_of seed_if start_descent
    stepped =
        ap (λ (w : Complex). seed_if (le w.re (neg exponent_limit)) g order w start_descent) leading.2
        ∙ ap (λ (t : Bool). seed_if t g order (lead leading.0 leading.1) start_descent) (within leading.0)
        ∙ summed leading.0 leading.1

    walked : walk_of g 1 ≡ with_entry 0 (step_of g 0 start_descent) []
    unfolding walk_of start_walk is_stopped next_walk start_descent
    walked = run_on stopping (stepping g) 0 0 (start_walk 1) refl ∙ run_out stopping (stepping g) 1 (next_walk g (start_walk 1))

    kept_entry : (a : Bool) → (kept_of sum.value (marked a)).above ≡ sum.value
    unfolding kept_of
    kept_entry a = ap (times_real sum.value) (scale-is a) ∙ own-scale sum.value p.re p.im

    ended : (a : Bool) → (visited_of (with_entry 0 (kept_of sum.value (marked a)) [])).visit ≡ record { zeros = 0; stopped = false; place = 0; longest_sum = sum.terms; rungs = 0 }
    unfolding visited_of with_entry kept_of marked_of start_descent
    ended a = rw (longest-first sum.terms)

    written : (a : Bool) → (visited_of (with_entry 0 (kept_of sum.value (marked a)) [])).cells ≡ sum.value.re ∷ sum.value.im ∷ []
    unfolding visited_of with_entry
    written a = ap (λ (w : Complex). w.re ∷ w.im ∷ []) (kept_entry a)

    whole : visit_of g 1 ≡ visited_of (with_entry 0 (kept_of sum.value (marked leading.0)) [])
    unfolding visit_of
    whole = ap visited_of (walked ∙ ap (λ (t : Descent). with_entry 0 t []) stepped)

    alone-visit : (visit_of g 1).visit ≡ record { zeros = 0; stopped = false; place = 0; longest_sum = sum.terms; rungs = 0 }
    alone-visit = ap (λ (w : Visited). w.visit) whole ∙ ended leading.0

    alone-cells : (visit_of g 1).cells ≡ sum.value.re ∷ sum.value.im ∷ []
    alone-cells = ap (λ (w : Visited). w.cells) whole ∙ written leading.0

-- ---- the same from the test that the order is 0, and from the sum by another name
order-plus : (v : Float) → v ⊕ nothing ≡ order_at v 0
unfolding order_at of_int round of_bits
order-plus v = refl

pub sum_is : (turned : Bool) (v : Float) (z : Complex) (m : Float) → sum_of (v ⊕ nothing) (turned_of turned (square_of m (times_real z half))) (half_square m) ≡ sum_at turned v z m
unfolding setting_of
sum_is turned v z m = ap (λ (o : Float). sum_of o (turned_of turned (square_of m (times_real z half))) (half_square m)) (order-plus v)

module _ (turned : Bool) (v : Float) (z : Complex) (m : Float) (F : T (fits binary64 v)) (e : eq v nothing ≡ true) (r : Sum) (is : r ≡ sum_at turned v z m) (p : Plain (modulus_of (times_real z half)) r.value) where
  same : Plain (modulus_of (times_real z half)) (sum_at turned v z m).value
  same = subst (λ (q : Sum). Plain (modulus_of (times_real z half)) q.value) is p

  pub alone-visited : record { zeros = 0; stopped = false; place = 0; longest_sum = r.terms; rungs = 0 } ≡ (visit_of (setting_of false turned v z m) 1).visit
  alone-visited =
      let n = zero_is v F e in
      ap (λ (q : Sum). record { zeros = 0; stopped = false; place = 0; longest_sum = q.terms; rungs = 0 }) is ∙ sym (alone-visit turned v z m n.0 n.1 same)

  pub alone-written : r.value.re ∷ r.value.im ∷ [] ≡ (visit_of (setting_of false turned v z m) 1).cells
  alone-written =
      let n = zero_is v F e in
      ap (λ (q : Sum). q.value.re ∷ q.value.im ∷ []) is ∙ sym (alone-cells turned v z m n.0 n.1 same)

pub pair-cells : (xs : List Float) (a b : Float) → length xs ≡ 2 → set (set xs 1 b) 0 a ≡ a ∷ b ∷ []
pair-cells [] a b h = absurd (short h)
  where
    short : ◌≡◌ {A = ℕ} 0 2 → ⊥
    short h = omega arith
pair-cells (x ∷ []) a b h = absurd (short h)
  where
    short : ◌≡◌ {A = ℕ} 1 2 → ⊥
    short h = omega arith
pair-cells (x ∷ y ∷ []) a b h = refl
pair-cells (x ∷ y ∷ w ∷ xs) a b h = absurd (long (length xs) h)
  where
    long : (n : ℕ) → suc (suc (suc n)) ≡ 2 → ⊥
    long n h = omega arith
