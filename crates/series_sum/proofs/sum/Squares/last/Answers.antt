-- `Squares::last` meets its contract: one term more, the sum's own end, and the bound. Assumes nothing.
use mathlib.Core.Path.{sym, ◌∙◌}
use Prim.Native.Nat.{◌≤◌, ◌<◌}
use native.Mathlib.Omega.{arith}
use Rattle.series_sum.specs.Sum.{next_sum}
use Rattle.series_sum.proofs.SumRun.{terms-next, rest-next, rest-stop, rest_end}
use Rattle.series_sum.proofs.sum.Squares.last.Goals as goal

pub returns-then-e-tolerance : goal.returns-then-e-tolerance
returns-then-e-tolerance c =
    let s = c in
    let a = s.args in
    let h : a.s.terms < 19 = omega arith in
    let t = terms-next a.self.half_z_sq a.self.abs_half_z_sq a.s in
    let e : 19 ≤ (next_sum a.self.half_z_sq a.self.abs_half_z_sq a.s).terms = omega (arith, s.requires, t) in
    c.next.ensures ∙ sym (rest-next _ _ _ a.s h c.if-e-tolerance.true ∙ rest_end _ _ _ _ e)

pub returns-else-e-tolerance : goal.returns-else-e-tolerance
returns-else-e-tolerance c = sym (rest-stop _ _ _ c.args.s c.if-e-tolerance.false)

pub returns-else-s-lt19 : goal.returns-else-s-lt19
returns-else-s-lt19 c = sym (rest_end _ _ _ c.args.s (omega arith))
