-- `power_series::pair::entered` meets its contract. Assumes nothing.
use mathlib.Core.Path.{◌≡◌, ap}
use native.Mathlib.Omega.{arith}
use Rattle.series_step.specs.declared.descent.Descent.{Descent}
use Rattle.series_step.specs.Mark.{marked_of}
use Rattle.power_series.specs.shapes.Pair.{entered_of}
use Rattle.power_series.proofs.pair.entered.Goals as goal

pub kept-requires : goal.kept-requires
unfolding marked_of
kept-requires c =
    let s = c in
    let m = c.marked in
    let e : m.result.seeded ≡ s.args.s.seeded = ap (λ (q : Descent). q.seeded) m.ensures in
    omega (arith, s.requires)

pub returns : goal.returns
unfolding entered_of
returns c = simp (c.kept.ensures, c.mul.ensures, c.marked.ensures)
