-- `series_sum::sums::side_by_side` meets its contract: before each turn what is left of each sum, from the states as they are, ends as it
-- did at first. Assumes nothing.
use mathlib.Core.Path.{◌≡◌, refl, sym, ◌∙◌}
use Prim.Native.Nat.{◌<◌}
use native.Mathlib.Omega.{arith}
use Rattle.series_sum.proofs.SumRun.{next-counts, rest-after, both_go}
use Rattle.series_sum.proofs.sums.side_by_side.Goals as goal

pub loop-higher-init : goal.loop-higher-init
loop-higher-init c =
    let s = c in
    (s.requires.0, s.requires.1, refl, refl)

pub returns-then-not-both_go_on : goal.returns-then-not-both_go_on
returns-then-not-both_go_on c = c.loop-higher.invariant

pub next-h-requires : goal.next-h-requires
next-h-requires c = omega arith

pub next-l-requires : goal.next-l-requires
next-l-requires c = omega (arith, c.loop-higher.invariant.1)

pub returns-then-not-both_go_on-2 : goal.returns-then-not-both_go_on-2
returns-then-not-both_go_on-2 c =
    let a = c.next-h in
    let b = c.next-l in
    let l = c.loop-higher in
    let t = next-counts _ _ _ _ a.ensures in
    let u = next-counts _ _ _ _ b.ensures in
    let same : l.lower.terms ≡ l.higher.terms = l.invariant.1 in
    let h : l.higher.terms < 19 = omega arith in
    let k : l.lower.terms < 19 = omega arith in
    let go = both_go _ _ l.higher l.lower (sym c.both_go_on.ensures ∙ c.if-not-both_go_on.false) in
    (omega arith, omega arith, l.invariant.2 ∙ rest-after _ _ _ _ _ a.ensures h go.0, l.invariant.3 ∙ rest-after _ _ _ _ _ b.ensures k go.1)

pub next-higher-requires : goal.next-higher-requires
next-higher-requires c =
    let t = next-counts _ _ _ _ c.next-h.ensures in
    omega arith

pub next-lower-requires : goal.next-lower-requires
next-lower-requires c =
    let d = c in
    let t = next-counts _ _ _ _ d.next-l.ensures in
    omega (arith, d.loop-higher.invariant.1)

pub loop-higher-smaller : goal.loop-higher-smaller
loop-higher-smaller c =
    let t = next-counts _ _ _ _ c.next-h.ensures in
    let u = next-counts _ _ _ _ c.next-higher.ensures in
    omega arith

pub loop-higher-preserved : goal.loop-higher-preserved
loop-higher-preserved c =
    let w = c.loop-higher in
    let a = c.next-h in
    let b = c.next-l in
    let n = c.next-higher in
    let h = a.result in
    let l = b.result in
    let t = next-counts _ _ w.higher _ a.ensures in
    let u = next-counts _ _ _ _ b.ensures in
    let p = next-counts _ _ _ _ n.ensures in
    let q = next-counts _ _ _ _ c.next-lower.ensures in
    let first : w.lower.terms ≡ w.higher.terms = w.invariant.1 in
    let few : w.higher.terms < 19 = omega arith in
    let few' : w.lower.terms < 19 = omega arith in
    let on = both_go _ _ w.higher w.lower (sym c.both_go_on.ensures ∙ c.if-not-both_go_on.false) in
    let higher = w.invariant.2 ∙ rest-after _ _ _ _ _ a.ensures few on.0 in
    let lower = w.invariant.3 ∙ rest-after _ _ _ _ _ b.ensures few' on.1 in
    let same : l.terms ≡ h.terms = omega arith in
    let m : h.terms < 19 = omega (arith, c.loop-higher-test.true) in
    let k : l.terms < 19 = omega arith in
    let go = both_go _ _ h l (sym c.both_go_on-in-loop-higher.ensures ∙ c.if-not-both_go_on-2.false) in
    (omega arith, omega arith, higher ∙ rest-after _ _ _ _ _ n.ensures m go.0, lower ∙ rest-after _ _ _ _ _ c.next-lower.ensures k go.1)

pub returns : goal.returns
returns c = c.loop-higher.invariant
