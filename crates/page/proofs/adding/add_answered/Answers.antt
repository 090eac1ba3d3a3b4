-- `page::adding::add_answered` meets its contract: four cells are written. Assumes nothing.
use mathlib.Core.Path.{ap, ◌∙◌}
use Prim.Native.Nat.{ℕ}
use lib.IntN.{nat_abs}
use borrow.Author.Rules.{rules}
use mir.Syntax.{w32}
use mir.Val.{SFits}
use mir.Facts.{to_z-of_z}
use Rattle.page.specs.Layout.{rungs_at, backward_at, zeros_at}
use Rattle.page.specs.Steps.{with_added, with_answered}
use Rattle.page.proofs.adding.add_answered.Goals as goal

pub returns : goal.returns
unfolding with_answered
returns c =
    let r = c.args.r in
    let fits : SFits w32 r.zeros = search rules in
    let back = to_z-of_z {w = w32} {z = r.zeros} fits in
    let e1 = c.add.ensures in
    let e2 = c.add-2.ensures ∙ ap (λ (n : ℕ). with_added rungs_at n c.add.new.page) c.from.ensures ∙ ap (with_added rungs_at r.rungs) e1 in
    let e3 = c.add-3.ensures ∙ ap (λ (n : ℕ). with_added backward_at n c.add-2.new.page) c.from-2.ensures ∙ ap (with_added backward_at r.backward) e2 in
    c.add-4.ensures ∙ ap (λ (n : ℕ). with_added zeros_at n c.add-3.new.page) (c.magnitude.ensures ∙ ap nat_abs back) ∙ ap (with_added zeros_at (nat_abs r.zeros)) e3
