-- `series_step::seed::summed` meets its contract: the value is gone, or kept. Assumes nothing.
use mathlib.Core.Path.{◌≡◌, ap}
use native.Mathlib.Omega.{arith}
use Rattle.series_step.specs.declared.descent.Descent.{Descent}
use Rattle.series_step.specs.Mark.{marked_of}
use Rattle.series_step.specs.Seed.{gone_if, summed_of}
use Rattle.series_step.proofs.seed.summed.Goals as goal

pub zeroed-requires : goal.zeroed-requires
unfolding marked_of
zeroed-requires c =
    let d = c in
    let s = d in
    let e : d.marked-m.result.counts.zeros ≡ s.args.s.counts.zeros = ap (λ (q : Descent). q.counts.zeros) d.marked-m.ensures in
    omega (arith, s.requires)

pub returns-then-is_gone : goal.returns-then-is_gone
unfolding gone_if summed_of
returns-then-is_gone c =
    let d = c in
    rw (← d.single_n_iteration-sum.ensures)
    (rw (← d.marked-m.ensures, ← d.coefficient.ensures, ← c.mul-value.ensures, ← c.is_gone.ensures, c.if-is_gone.true) c.zeroed.ensures)

pub kept-requires : goal.kept-requires
unfolding marked_of
kept-requires c =
    let d = c in
    let s = d in
    let e : d.marked-m.result.seeded ≡ s.args.s.seeded = ap (λ (q : Descent). q.seeded) d.marked-m.ensures in
    omega (arith, s.requires)

pub returns : goal.returns
unfolding gone_if summed_of
returns c =
    let d = c in
    rw (← d.single_n_iteration-sum.ensures)
    (rw (← d.marked-m.ensures, ← d.coefficient.ensures, ← c.mul-value.ensures, ← c.is_gone.ensures, c.if-is_gone.false) c.kept.ensures)
