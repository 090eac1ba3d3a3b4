-- `series_sum::sum::single_n_iteration` meets its contract: the sum that is 1 at once, and the run. Assumes nothing.
use mathlib.Core.Path.{sym, ap, ◌∙◌}
use native.Mathlib.Omega.{arith}
use Rattle.machine.specs.Constants.{tolerance}
use Rattle.series_sum.specs.declared.sum.Partial.{Partial}
use Rattle.series_sum.specs.Sum.{sum_tolerance, sum_is_one, sum_unless, sum_of}
use Rattle.series_sum.specs.shapes.Sum.{sum_rest}
use Rattle.series_sum.proofs.SumRun.{terms-start, rest-start}
use Rattle.series_sum.proofs.sum.single_n_iteration.Goals as goal

pub returns-then-abs_half_z_sq-order_plus_one : goal.returns-then-abs_half_z_sq-order_plus_one
unfolding tolerance sum_is_one sum_unless sum_of
returns-then-abs_half_z_sq-order_plus_one c = simp c.if-abs_half_z_sq-order_plus_one.true

pub finish-requires : goal.finish-requires
finish-requires c =
    let t = ap (λ (p : Partial). p.terms) c.start.ensures ∙ terms-start _ in
    omega arith

pub returns : goal.returns
unfolding tolerance sum_tolerance sum_is_one sum_unless sum_of
returns c =
    let d = c in
    let e = c.finish.ensures ∙ ap (sum_rest _ _ _) d.start.ensures ∙ sym (rest-start _ _ _ _) in
    c.from.ensures ∙ simp (d.if-abs_half_z_sq-order_plus_one.false, e)
