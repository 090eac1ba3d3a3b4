-- `series_sum::sums::both` meets its contract: what is left of each sum, side by side and then by itself. Assumes nothing.
use mathlib.Core.Path.{sym, ap, ◌∙◌}
use native.Mathlib.Omega.{arith}
use Rattle.machine.specs.Constants.{tolerance}
use Rattle.series_sum.specs.declared.sum.Partial.{Partial}
use Rattle.series_sum.specs.Sum.{sum_tolerance, sum_unless}
use Rattle.series_sum.specs.shapes.Sum.{sum_rest}
use Rattle.series_sum.specs.shapes.Sums.{outcome_of}
use Rattle.series_sum.proofs.SumRun.{terms-start, rest-start}
use Rattle.series_sum.proofs.sums.both.Goals as goal

pub side_by_side-reached-requires : goal.side_by_side-reached-requires
side_by_side-reached-requires c =
    let t = ap (λ (p : Partial). p.terms) c.start.ensures ∙ terms-start _ in
    let u = ap (λ (p : Partial). p.terms) c.start-2.ensures ∙ terms-start _ in
    (omega arith, u ∙ sym t)

pub returns : goal.returns
unfolding tolerance sum_tolerance sum_unless
returns c =
    let d = c in
    let higher = sym d.side_by_side-reached.ensures.2 ∙ ap (sum_rest _ _ _) d.start.ensures ∙ sym (rest-start _ _ _ _) in
    let lower = sym d.side_by_side-reached.ensures.3 ∙ ap (sum_rest _ _ _) d.start-2.ensures ∙ sym (rest-start _ _ _ _) in
    (c.ended.ensures ∙ ap outcome_of higher, c.ended-2.ensures ∙ ap outcome_of lower)
