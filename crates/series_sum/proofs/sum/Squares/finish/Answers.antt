-- `Squares::finish` meets its contract: before each turn what is left of the sum, from the state as it is, ends as it did at first.
-- Assumes nothing.
use mathlib.Core.Path.{refl, sym, ◌∙◌}
use Prim.Native.Nat.{◌<◌}
use native.Mathlib.Omega.{arith}
use Rattle.series_sum.proofs.SumRun.{next-counts, rest-after, rest-stop}
use Rattle.series_sum.proofs.sum.Squares.finish.Goals as goal

pub loop-s-init : goal.loop-s-init
loop-s-init c = (c.requires, refl)

pub next-t-requires : goal.next-t-requires
next-t-requires c = omega arith

pub next-s-requires : goal.next-s-requires
next-s-requires c =
    let t = next-counts _ _ _ _ c.next-t.ensures in
    omega arith

pub loop-s-smaller : goal.loop-s-smaller
loop-s-smaller c =
    let t = next-counts _ _ _ _ c.next-t.ensures in
    let u = next-counts _ _ _ _ c.next-s.ensures in
    omega arith

pub loop-s-preserved : goal.loop-s-preserved
loop-s-preserved c =
    let d = c in
    let l = d.loop-s in
    let t = next-counts _ _ _ _ d.next-t.ensures in
    let u = next-counts _ _ _ _ c.next-s.ensures in
    let h : l.s.terms < 19 = omega arith in
    let k : d.next-t.result.terms < 19 = omega arith in
    (omega arith, l.invariant.1 ∙ rest-after _ _ _ _ _ d.next-t.ensures h d.if-e-tolerance.true ∙ rest-after _ _ _ _ _ c.next-s.ensures k c.if-f-tolerance.true)

pub returns-else-f-tolerance : goal.returns-else-f-tolerance
returns-else-f-tolerance c =
    let d = c in
    let l = d.loop-s in
    let h : l.s.terms < 19 = omega arith in
    sym (l.invariant.1 ∙ rest-after _ _ _ _ _ d.next-t.ensures h d.if-e-tolerance.true ∙ rest-stop _ _ _ d.next-t.result c.if-f-tolerance.false)

pub returns-else-e-tolerance : goal.returns-else-e-tolerance
returns-else-e-tolerance c =
    let l = c.loop-s in
    sym (l.invariant.1 ∙ rest-stop _ _ _ l.s c.if-e-tolerance.false)

pub last-requires : goal.last-requires
last-requires c = (omega arith, omega arith)

pub returns : goal.returns
returns c = c.last.ensures ∙ sym c.loop-s.invariant.1
