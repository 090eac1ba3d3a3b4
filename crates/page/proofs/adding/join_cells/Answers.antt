-- `page::adding::join_cells` meets its contract: one cell behind the other. Assumes nothing.
use mathlib.Core.Path.{◌≡◌, sym, ap, ◌∙◌}
use mathlib.Core.List.{[], ◌∷◌, ◌++◌}
use Prim.Native.Nat.{ℕ, ◌≤◌}
use native.Mathlib.Numerals.{add-one}
use native.Mathlib.Omega.{arith}
use lib.ListN.{get_or}
use Rattle.laws.proofs.Seam.{seam-start, seam-store, seam-as, seam-full, seam-behind}
use Rattle.page.specs.Layout.{cells, most_cell}
use Rattle.page.specs.Parts.{up_to}
use Rattle.page.specs.Joining.{added_to, joined_cells}
use Rattle.page.proofs.CellFacts.{added-min}
use Rattle.page.proofs.adding.join_cells.Goals as goal

pub loop-i-init : goal.loop-i-init
unfolding up_to
loop-i-init c = seam-start _

pub loop-i-preserved : goal.loop-i-preserved
unfolding up_to
loop-i-preserved c =
    let a = c.args in
    let into = a.into.now in
    let from = a.from.now in
    let l = c.loop-i in
    let i = l.i in
    let f : ℕ → ℕ = λ k. added_to (get_or into k 0) (get_or from k 0) in
    let same : get_or l.into i 0 ≡ get_or into i 0 = seam-behind i 0 (omega arith) l.invariant in
    let fits : get_or l.into i 0 ≤ most_cell = omega (arith, same, c.fits-into i) in
    let value : c.saturating_add.result ≡ f i = c.saturating_add.ensures ∙ sym (added-min (get_or l.into i 0) (get_or from i 0) fits) ∙ ap (λ (x : ℕ). added_to x (get_or from i 0)) same in
    seam-as (ap (λ (x : ℕ). up_to i f ++ (x ∷ [])) value ∙ sym (ap (λ (k : ℕ). up_to k f) (add-one i)))
    (seam-store c.saturating_add.result (omega (arith, c.loop-i-test.true, l.invariant.same)) l.invariant)

pub returns : goal.returns
unfolding joined_cells
returns c =
    let l = c.loop-i in
    let a = c.args in
    let f : ℕ → ℕ = λ k. added_to (get_or a.into.now k 0) (get_or a.from.now k 0) in
    let e : l.i ≡ cells = omega (arith, l.invariant.room, l.invariant.same, c.loop-i-test.false) in
    seam-full (omega arith) l.invariant ∙ ap (λ (k : ℕ). up_to k f) e
