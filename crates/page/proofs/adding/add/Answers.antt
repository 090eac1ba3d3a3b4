-- `page::adding::add` meets its contract: one cell is written. Assumes nothing.
use mathlib.Core.Path.{sym, ap, ◌∙◌}
use Prim.Native.Nat.{ℕ, ◌≤◌}
use native.Mathlib.Omega.{arith}
use lib.ListN.{get_or, set}
use Rattle.page.specs.Layout.{most_cell}
use Rattle.page.proofs.CellFacts.{added-min}
use Rattle.page.specs.Steps.{with_added}
use Rattle.page.proofs.adding.add.Goals as goal

pub returns : goal.returns
unfolding with_added
returns c =
    let a = c.args in
    let page = a.page.now in
    let h : get_or page a.at 0 ≤ most_cell = omega (arith, c.fits-page a.at) in
    ap (λ (x : ℕ). set page a.at x) (c.saturating_add.ensures ∙ sym (added-min (get_or page a.at 0) a.n h))
