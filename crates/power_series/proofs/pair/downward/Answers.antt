-- `power_series::pair::downward` meets its contract: one order, a pair that is near underflow, and the others. Assumes nothing.
use mathlib.Core.Path.{◌≡◌, sym, ap, ◌∙◌, subst}
use mathlib.Core.Bool.{false}
use Prim.Native.Nat.{ℕ, ◌<◌}
use native.Mathlib.Omega.{arith}
use lib.Ieee.{Float, neg, le}
use Rattle.laws.specs.Operators.{◌⊕◌}
use Rattle.machine.specs.Constants.{approximation_limit}
use Rattle.complex.specs.declared.number.Complex.{Complex}
use Rattle.series_step.specs.Setting.{order_at}
use Rattle.series_step.specs.Leading.{leading_of}
use Rattle.series_sum.specs.declared.sums.Two.{Two}
use Rattle.series_step.specs.declared.descent.Descent.{Descent}
use Rattle.power_series.specs.shapes.Pair.{pair_of, Begun}
use Rattle.power_series.proofs.WalkFacts.{standing-left, concluded-visit}
use Rattle.power_series.proofs.PairFacts.{lead_first, lead_second, begun}
use Rattle.power_series.proofs.pair.downward.Goals as goal

pub paired-r-requires : goal.paired-r-requires
unfolding approximation_limit order_at
paired-r-requires c =
    let a = c.args in
    let n = c.len-n.result in
    let more : 1 < n = omega (arith, c.if-n-lt2.false) in
    let first = c.leading-first in
    let second = c.leading-second in
    let is_first : first.result ≡ lead_first a.g n = first.ensures ∙ ap (λ (q : Float). leading_of a.g (a.g.order ⊕ q)) c.from.ensures in
    let is_second : second.result ≡ lead_second a.g n = second.ensures ∙ ap (λ (q : Float). leading_of a.g (a.g.order ⊕ q)) c.from-2.ensures in
    let b =
    begun a.g n (subst (λ (z : Complex). le z.re (neg approximation_limit) ≡ false) is_first c.if-first.false)
    (subst (λ (z : Complex). le z.re (neg approximation_limit) ≡ false) is_second c.if-second.false) in
    let e =
    c.seeds.ensures
    ∙ ap (λ (z : Complex). pair_of a.g n z second.result) is_first
    ∙ ap (λ (z : Complex). pair_of a.g n (lead_first a.g n) z) is_second in
    subst (λ (q : ℕ). (1 < q) × Begun a.g q c.seeds.result) c.len-n.ensures (more, subst (λ (p : Two Descent). Begun a.g n p) (sym e) b)

pub concluded-requires : goal.concluded-requires
concluded-requires c =
    let d = c.paired-r in
    let h = standing-left _ _ d.result d.ensures.visit.0 in
    omega (arith, h, d.ensures.kept.1)

pub returns-clause-visit : goal.returns-clause-visit
returns-clause-visit c =
    let d = c.paired-r in
    concluded-visit _ _ d.result d.new.out.cells.now d.ensures.visit.0 d.ensures.visit.1 c.concluded.ensures.visit
