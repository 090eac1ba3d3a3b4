-- Every log-gamma that an answered call by the power series asks for is of an argument above zero, and its series ends by its own test. Assumes nothing.
use mathlib.Core.Path.{◌≡◌, refl, sym, subst}
use mathlib.Core.Bool.{Bool, false}
use Prim.Native.Nat.{ℕ, ◌-◌, ◌/◌, ◌≤◌}
use native.Mathlib.Omega.{arith}
use borrow.Author.Tests.{lt-ltb, le-ltb}
use lib.IntN.{pos}
use lib.Dec.{T}
use lib.Ieee.{Float, binary64, of_bits, of_int, add, le, lt}
use lib.Ieee.Positive.{positive, between}
use Rattle.laws.proofs.Run.{run_ends}
use Rattle.laws.proofs.Relative.{nonnegative}
use Rattle.laws.proofs.Bound.{nonnegative-le, lo-test, up-lo-le}
use Rattle.laws.proofs.Whole.{whole-up}
use Rattle.laws.proofs.Interval.{iv, In, checked, add_i, add-in, in-literals}
use Rattle.machine.specs.Constants.{underflow_limit}
use Rattle.machine.specs.Small.{nothing, one}
use Rattle.complex.specs.Arithmetic.{times_real, minus_real}
use Rattle.gamma_ln.specs.Series as stirling
use Rattle.gamma_ln.specs.GammaLn.{series_argument_of, gamma_ln_of}
use Rattle.gamma_ln.proofs.Counts.{series-ends}
use Rattle.call.specs.Limits.{largest_order}
use Rattle.call.proofs.LimitFacts.{lent}
use Rattle.series_step.specs.declared.setting.Setting.{Setting}
use Rattle.series_step.specs.Setting.{order_at, order_plus_one, setting_of}
use Rattle.series_step.specs.Leading.{lowered_if, leading_of}
use Rattle.series_step.specs.Seed.{seed_of}
use Rattle.series_step.specs.Recurred.{recurred_of}
use Rattle.series_step.specs.Step.{step_if, step_of}
use Rattle.power_series.specs.Visit.{Walk, start_walk, is_stopped, with_entry, next_walk}
use Rattle.power_series.proofs.WalkFacts.{stopping, stepping}
use Rattle.power_series.proofs.VisitSums.{Wanted, walk_after}
use Rattle.bessel.specs.declared.arguments.Arguments.{Arguments}
use Rattle.bessel.specs.Arguments.{arguments_of}
use Rattle.bessel.specs.Series.{series_outcome}
use Rattle.bessel.proofs.CheckFacts.{series-passed}
use Rattle.bessel.proofs.ArgumentFacts.{order-limits}
use Rattle.bessel.proofs.SeriesOutcome.{answered-whole}
use Rattle.call.specs.Answer.{number_in}

-- ---- where the visit asks for log-gamma: at each order that it seeds, of that order plus one; a step of the recurrence asks for none
pub record Seeding (g : Setting) (w : Walk) : Type 0 where
  pub step : (next_walk g w).standing.state ≡ seed_of g (order_at g.order (w.standing.left - 1)) w.standing.state
  pub leading :
      let order = order_at g.order (w.standing.left - 1) in
      leading_of g order ≡ lowered_if g.scaled (minus_real (times_real g.ln_half_z order) (gamma_ln_of (order_plus_one g.order (w.standing.left - 1))).value) g.re

pub seeding : (g : Setting) (w : Walk) → Wanted w → Seeding g w
unfolding next_walk with_entry step_of step_if leading_of order_plus_one
seeding g w h = record { step = rw (lt-ltb w.standing.state.seeded 2 h.seeds); leading = refl }

pub recurring : (g : Setting) (w : Walk) → 2 ≤ w.standing.state.seeded → (next_walk g w).standing.state ≡ recurred_of g (w.standing.left - 1) w.standing.state
unfolding next_walk with_entry step_of step_if
recurring g w h = rw (le-ltb w.standing.state.seeded 2 h)

-- x is an argument of which this call asks for log-gamma: its modulus is not below the underflow limit, so that the visit is made, and after so many orders a seed is wanted
-- at the next
pub record Asked (scaled turned : Bool) (a : Arguments) (length : ℕ) (x : Float) : Type 0 where
  pub begun : lt a.modulus underflow_limit ≡ false
  pub after : ℕ
  pub wanted : Wanted (walk_after (setting_of scaled turned a.order a.z a.modulus) (length / 2) after)
  pub argument : x ≡ order_plus_one a.order ((walk_after (setting_of scaled turned a.order a.z a.modulus) (length / 2) after).standing.left - 1)

-- ---- no more orders are left than there were
left-few : (g : Setting) (n i : ℕ) → (walk_after g n i).standing.left ≤ n
unfolding start_walk next_walk with_entry
left-few g n i = (run_ends stopping (stepping g) (λ j w. w.standing.left ≤ n) (keeps g n) i 0 (start_walk n) (omega arith)).holds
  where
    keeps : (g : Setting) (n k : ℕ) (w : Walk) → is_stopped w ≡ false → w.standing.left ≤ n → (next_walk g w).standing.left ≤ n
    keeps g n k w e h = omega arith

-- ---- an order of at most 1,000, plus k, plus one lies between 1 and 1,513
whole-between : (k : ℕ) → k ≤ 512 → In (iv nothing (of_bits binary64 0x4080000000000000)) (of_int binary64 (pos k))
unfolding of_bits
whole-between k h =
    let u = whole-up binary64 k (omega arith) in
    in-literals nothing (of_bits binary64 0x4080000000000000) (of_int binary64 (pos k)) tt
    (nonnegative-le nothing (of_int binary64 (pos k)) tt u.sign (omega arith))
    (up-lo-le (of_int binary64 (pos k)) (of_bits binary64 0x4080000000000000) u (lo-test (of_bits binary64 0x4080000000000000) 512 1 tt) (omega arith))

above_zero : (v : Float) (k : ℕ) → T (nonnegative v) → T (le v largest_order) → k ≤ 512 → T (positive (order_plus_one v k))
unfolding order_plus_one order_at of_bits add add_i checked le
above_zero v k p h few =
    let low : T (le nothing v) = nonnegative-le nothing v tt p (omega arith) in
    let a = add-in binary64 (iv nothing largest_order) (iv nothing (of_bits binary64 0x4080000000000000)) v (of_int binary64 (pos k)) (in-literals nothing largest_order v tt low h) (whole-between k few) tt in
    let b = add-in binary64 (add_i binary64 (iv nothing largest_order) (iv nothing (of_bits binary64 0x4080000000000000))) (iv one one) (order_at v k) one a (in-literals one one one tt tt tt) tt in
    between one (order_plus_one v k) (of_bits binary64 0x4097A40000000000) tt tt b.2 b.3

pub answered-log-gammas-end :
    (scaled turned : Bool) (v re im : Float) (length : ℕ) → number_in (series_outcome scaled turned v re im length).answer ≡ 0 →
    (x : Float) → Asked scaled turned (arguments_of v re im) length x → T (positive x) × stirling.EndsByTest (series_argument_of x)
answered-log-gammas-end scaled turned v re im length n x q =
    let a = arguments_of v re im in
    let g = setting_of scaled turned a.order a.z a.modulus in
    let p = (series-passed a length (answered-whole scaled turned v re im length n).passed).0 in
    let l = lent length p.lent in
    let o = order-limits v re im length p in
    let few : (walk_after g (length / 2) q.after).standing.left ≤ length / 2 = left-few g (length / 2) q.after in
    let above = above_zero a.order ((walk_after g (length / 2) q.after).standing.left - 1) o.0 o.1 (omega arith) in
    let y : T (positive x) = subst (λ (u : Float). T (positive u)) (sym q.argument) above in
    (y, series-ends x y)
