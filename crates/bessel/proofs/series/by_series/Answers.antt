-- `bessel::series::by_series` meets its contract: the visit, its counts, and the judgement of its finished entries. Assumes nothing.
use lib.IntN.{ℤ}
use lib.ListN.{length}
use mir.Syntax.{w32}
use mir.Facts.{to_z-of_z}
use Rattle.call.specs.Answer.{answered_of}
use Rattle.bessel.specs.Outcome.{Outcome}
use Rattle.bessel.specs.Series.{visited_by}
use Rattle.call.proofs.LimitFacts.{lent}
use Rattle.bessel.proofs.SeriesFacts.{counts-small, judged-visit}
use native.Mathlib.Omega.{arith}
use mathlib.Core.Path.{ap, ◌∙◌}
use Rattle.bessel.proofs.series.by_series.Goals as goal

pub power_series-visit-requires : goal.power_series-visit-requires
power_series-visit-requires c = let l = lent _ c.requires in (l.some, l.even, l.most)

pub signed-requires : goal.signed-requires
signed-requires c =
    let d = c in
    let b = counts-small _ _ _ _ _ _ _ d.requires d.power_series-visit.ensures.0 in
    omega arith

pub overflow_mul-visit : goal.overflow_mul-visit
overflow_mul-visit c =
    let d = c in
    let b = counts-small _ _ _ _ _ _ _ d.requires d.power_series-visit.ensures.0 in
    omega arith

pub returns : goal.returns
unfolding visited_by answered_of
returns c =
    let j = c in
    let a = j in
    let d = a in
    let s = d in
    let e = judged-visit (length s.args.out.now) _ _ _ _ _ _ d.power_series-visit.auto.out d.power_series-visit.ensures.0 d.power_series-visit.ensures.1 a.signed.ensures (ap (λ (k : ℤ). answered_of k d.power_series-visit.result.longest_sum d.power_series-visit.result.rungs 0) (to_z-of_z {w = w32} (record { sfits = a.signed.type_inv }))) in
    (j.judge.ensures.0 ∙ ap (λ (o : Outcome). o.answer) e, j.judge.ensures.1 ∙ ap (λ (o : Outcome). o.cells) e)
