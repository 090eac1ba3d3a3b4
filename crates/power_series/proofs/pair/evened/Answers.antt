-- `power_series::pair::evened` meets its contract: an even number of orders, and one step more. Assumes nothing.
use mathlib.Core.Path.{◌≡◌, sym, ◌∙◌, subst}
use Prim.Native.Nat.{◌-◌, ◌*◌, ◌<◌}
use native.Mathlib.Omega.{arith}
use lib.ListN.{length}
use Rattle.series_step.specs.declared.descent.Descent.{Descent}
use Rattle.power_series.specs.Entries.{orders}
use Rattle.power_series.specs.shapes.Pair.{Settled}
use Rattle.power_series.proofs.WalkFacts.{walking-from, walking-put, walking-whole}
use Rattle.power_series.proofs.PairFacts.{settled-step, settled-next}
use Rattle.power_series.proofs.pair.evened.Goals as goal

pub returns-clause-visit : goal.returns-clause-visit
returns-clause-visit c =
    let a = c.args in
    let e = a.out.now in
    let n = orders e in
    let ready = c.requires in
    let t = c.recurred-state in
    let more : 0 < a.left = omega arith in
    let whole : length e.cells.now ≡ n * 2 = omega (arith, e.even) in
    let w = walking-from a.g e.cells.now n a.left a.s whole ready in
    let next = walking-put _ _ _ w t.result (t.ensures ∙ sym (settled-step a.g (a.left - 1) a.s ready.seeded)) more ready.goes _ c.put.ensures.cells in
    (omega arith, subst (λ (q : Descent). Settled n (a.left - 1) q) (sym t.ensures) (settled-next a.g (a.left - 1) a.s ready more), walking-whole _ _ _ next)
