-- `power_series::pair::seeds` meets its contract. Assumes nothing.
use mathlib.Core.Path.{◌≡◌, ap}
use Prim.Native.Nat.{◌+◌}
use native.Mathlib.Omega.{arith}
use Rattle.series_step.specs.declared.descent.Descent.{Descent}
use Rattle.series_step.specs.Setting.{order_at}
use Rattle.series_step.specs.Descent.{start_descent}
use Rattle.series_step.specs.Mark.{marked_of}
use Rattle.series_step.specs.Seed.{kept_of}
use Rattle.power_series.specs.shapes.Pair.{entered_of, pair_of}
use Rattle.power_series.proofs.pair.seeds.Goals as goal

pub entered-higher-requires : goal.entered-higher-requires
unfolding start_descent
entered-higher-requires c =
    let e : c.start.result.seeded ≡ 0 = ap (λ (q : Descent). q.seeded) c.start.ensures in
    omega arith

pub entered-lower-requires : goal.entered-lower-requires
unfolding start_descent marked_of kept_of entered_of
entered-lower-requires c =
    let s = c.start in
    let e : s.result.seeded ≡ 0 = ap (λ (q : Descent). q.seeded) s.ensures in
    let f : c.entered-higher.result.seeded ≡ s.result.seeded + 1 = ap (λ (q : Descent). q.seeded) c.entered-higher.ensures in
    omega arith

pub returns : goal.returns
unfolding order_at pair_of
returns c =
    let d = c in
    let x = d in
    let t = d.two_sums-sums.ensures in
    simp (c.entered-lower.ensures, c.entered-higher.ensures, c.start.ensures, t.0, t.1, x.exp-other.ensures, x.exp-whole.ensures, c.from.ensures, c.from-2.ensures)
