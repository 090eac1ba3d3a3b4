-- How large the counts of any outcome of K and of the power series can be, a refusal's too: each fits two bytes. Assumes nothing.
use mathlib.Core.Path.{◌≡◌, ap}
use mathlib.Core.Logic.{inl, inr}
use mathlib.Core.Bool.{Bool}
use Prim.Native.Nat.{ℕ, ◌+◌, ◌-◌, ◌/◌, ◌≤◌}
use native.Mathlib.Omega.{arith}
use lib.IntN.{nat_abs}
use lib.Ieee.{Float}
use Rattle.call.specs.Answer.{answered_of, number_in, zeros_in, longest_in, rungs_in, backward_in}
use Rattle.call.proofs.LimitFacts.{lent}
use Rattle.right_half_plane.specs.Ground.{nearest_order}
use Rattle.right_half_plane.proofs.OrderFacts.{order-cast}
use Rattle.bessel.specs.Arguments.{arguments_of}
use Rattle.bessel.specs.Outcome.{Outcome}
use Rattle.bessel.specs.Series.{visit_answer, series_outcome}
use Rattle.bessel.specs.K.{counts_answer, k_outcome}
use Rattle.bessel.proofs.CallFacts.{RefusedWhole}
use Rattle.bessel.proofs.CheckFacts.{k-passed, series-passed}
use Rattle.bessel.proofs.ArgumentFacts.{order-limits}
use Rattle.bessel.proofs.SeriesOutcome as series
use Rattle.bessel.proofs.KernelOutcome as kernel

-- of at most 512 orders from at most 1,000 on: 512 zeros, 19 terms, 1,000 + 512 - 2 rungs, 256 backward steps
pub record Bounded (o : Outcome) : Type 0 where
  pub zeros : nat_abs (zeros_in o.answer) ≤ 512
  pub longest-sum : longest_in o.answer ≤ 19
  pub rungs : rungs_in o.answer ≤ 1510
  pub backward : backward_in o.answer ≤ 256

pub refused-bounded : (length : ℕ) (o : Outcome) → RefusedWhole length o → Bounded o
refused-bounded length o r =
    let z : nat_abs (zeros_in o.answer) ≡ 0 = ap nat_abs r.zeros in
    let l : longest_in o.answer ≡ 0 = r.longest-sum in
    let g : rungs_in o.answer ≡ 0 = r.rungs in
    let b : backward_in o.answer ≡ 0 = r.backward in
    record { zeros = omega arith; longest-sum = omega arith; rungs = omega arith; backward = omega arith }

module _ (scaled : Bool) (v re im : Float) (length : ℕ) where
  counts-number : kernel.AnsweredWhole scaled (arguments_of v re im) length (k_outcome scaled v re im length) → number_in (k_outcome scaled v re im length).answer ≡ 0
  unfolding counts_answer answered_of
  counts-number w = ap number_in w.answer

  k-answered : kernel.AnsweredWhole scaled (arguments_of v re im) length (k_outcome scaled v re im length) → Bounded (k_outcome scaled v re im length)
  k-answered w =
      let a = arguments_of v re im in
      let p = k-passed a length w.passed in
      let l = lent length p.lent in
      let o = order-limits v re im length p in
      let c = kernel.answered-counts scaled v re im length (counts-number w) in
      let t = kernel.answered-terms scaled v re im length (counts-number w) in
      let n : nearest_order a.order ≤ 1000 = (order-cast a.order o.0 o.1).1 in
      let z : nat_abs (zeros_in (k_outcome scaled v re im length).answer) ≡ c.count = ap nat_abs c.zeros in
      let few : c.count ≤ length / 2 = c.few in
      let most : length ≤ 1024 = l.most in
      let r : rungs_in (k_outcome scaled v re im length).answer ≡ nearest_order a.order + length / 2 - 2 = c.rungs in
      record { zeros = omega arith; longest-sum = omega arith; rungs = omega arith; backward = c.backward }

  pub k-bounded : Bounded (k_outcome scaled v re im length)
  k-bounded =
      elim (kernel.whole scaled v re im length) [
        | inl r ↦ refused-bounded length (k_outcome scaled v re im length) r
        | inr w ↦ k-answered w
      ]

module _ (scaled turned : Bool) (v re im : Float) (length : ℕ) where
  visit-number : series.AnsweredWhole scaled turned (arguments_of v re im) length (series_outcome scaled turned v re im length) → number_in (series_outcome scaled turned v re im length).answer ≡ 0
  unfolding visit_answer answered_of
  visit-number w = ap number_in w.answer

  series-answered : series.AnsweredWhole scaled turned (arguments_of v re im) length (series_outcome scaled turned v re im length) → Bounded (series_outcome scaled turned v re im length)
  series-answered w =
      let a = arguments_of v re im in
      let l = lent length (series-passed a length w.passed).0.lent in
      let c = series.answered-counts scaled turned v re im length (visit-number w) in
      let most : length ≤ 1024 = l.most in
      let z : nat_abs (zeros_in (series_outcome scaled turned v re im length).answer) ≤ length / 2 = c.zeros in
      let r : rungs_in (series_outcome scaled turned v re im length).answer ≤ length / 2 - 2 = c.rungs in
      let b : backward_in (series_outcome scaled turned v re im length).answer ≡ 0 = c.backward in
      record { zeros = omega arith; longest-sum = c.longest-sum; rungs = omega arith; backward = omega arith }

  pub series-bounded : Bounded (series_outcome scaled turned v re im length)
  series-bounded =
      elim (series.whole scaled turned v re im length) [
        | inl r ↦ refused-bounded length (series_outcome scaled turned v re im length) r
        | inr w ↦ series-answered w
      ]
