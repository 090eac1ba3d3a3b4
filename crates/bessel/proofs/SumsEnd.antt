-- Every sum that an admitted call by the power series begins leaves by its own test, after 19 terms at most: refusals 3, 12 and 5 leave only such sums. Assumes nothing.
use mathlib.Core.Path.{◌≡◌}
use mathlib.Core.Bool.{Bool, true, false}
use Prim.Native.Nat.{ℕ, ◌-◌, ◌/◌}
use native.Mathlib.Omega.{arith}
use lib.Dec.{T}
use lib.Ieee.{Float, binary64, fits}
use Rattle.call.specs.Checks.{none_applies}
use Rattle.call.proofs.LimitFacts.{lent}
use Rattle.series_sum.specs.Sum.{sum_is_one}
use Rattle.series_step.specs.Setting.{order_plus_one, half_square}
use Rattle.series_step.specs.Setting.{setting_of}
use Rattle.series_sum.proofs.SumEnds.{EndsByTest}
use Rattle.power_series.proofs.VisitSums.{Wanted, walk_after, visit-sums-end}
use Rattle.bessel.specs.Arguments.{arguments_of}
use Rattle.bessel.specs.Checks.{series_checks}
use Rattle.bessel.specs.Series.{series_outcome}
use Rattle.bessel.proofs.CheckFacts.{series-passed}
use Rattle.bessel.proofs.ArgumentFacts.{order-up, modulus-limit}
use Rattle.bessel.proofs.SeriesOutcome.{answered-whole}
use Rattle.call.specs.Answer.{number_in}

-- wherever the visit wants a seed and its sum is not 1 at once
pub admitted-sums-end :
    (scaled turned : Bool) (v re im : Float) (length : ℕ) → T (fits binary64 re) → T (fits binary64 im) → none_applies (series_checks (arguments_of v re im) length) ≡ true →
    (i : ℕ) → let a = arguments_of v re im in let g = setting_of scaled turned a.order a.z a.modulus in let u = order_plus_one a.order ((walk_after g (length / 2) i).standing.left - 1) in
    Wanted (walk_after g (length / 2) i) → sum_is_one (half_square a.modulus) u ≡ false → EndsByTest g.half_z_sq (half_square a.modulus) u
admitted-sums-end scaled turned v re im length Fr Fi n i h e =
    let a = arguments_of v re im in
    let p = series-passed a length n in
    let l = lent length p.0.lent in
    visit-sums-end scaled turned a.order a.z a.modulus (length / 2) (order-up v re im length p.0) (modulus-limit v re im length p.0 Fr Fi) (omega arith) p.1 i h e

-- the sums of an answered call
pub answered-sums-end :
    (scaled turned : Bool) (v re im : Float) (length : ℕ) → T (fits binary64 re) → T (fits binary64 im) → number_in (series_outcome scaled turned v re im length).answer ≡ 0 →
    (i : ℕ) → let a = arguments_of v re im in let g = setting_of scaled turned a.order a.z a.modulus in let u = order_plus_one a.order ((walk_after g (length / 2) i).standing.left - 1) in
    Wanted (walk_after g (length / 2) i) → sum_is_one (half_square a.modulus) u ≡ false → EndsByTest g.half_z_sq (half_square a.modulus) u
answered-sums-end scaled turned v re im length Fr Fi n i h e = admitted-sums-end scaled turned v re im length Fr Fi (answered-whole scaled turned v re im length n).passed i h e
