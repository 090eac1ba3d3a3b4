-- `frame::writing::write_cells` meets its contract: one cell behind the other. Assumes nothing.
use mathlib.Core.Path.{◌≡◌, refl, sym, ap, subst, ◌∙◌}
use mathlib.Core.List.{List}
use Prim.Native.Nat.{ℕ, ◌+◌, ◌*◌}
use native.Mathlib.Omega.{arith}
use lib.Ieee.{Float}
use lib.ListN.{length}
use lib.Seq.{take_all}
use Rattle.frame.specs.Layout.{float_width}
use Rattle.frame.specs.Over.{over}
use Rattle.frame.specs.Writing.{cells_of}
use Rattle.frame.proofs.OverFacts.{over_none}
use Rattle.frame.proofs.WriteFacts.{Cells, cells-next}
use Rattle.frame.proofs.writing.write_cells.Goals as goal

pub loop-i-init : goal.loop-i-init
unfolding cells_of
loop-i-init c = record { below = omega arith; reached = omega arith; is = sym (over_none _ _); same = refl }

pub loop-i-preserved : goal.loop-i-preserved
loop-i-preserved c =
    let l = c.loop-i in
    let a = c.args in
    let place = a.at + l.i * float_width in
    let more : place + float_width ≡ a.at + (l.i + 1) * float_width = omega arith in
    subst (λ (k : ℕ). Cells a.cells.now a.at a.out.now c.spell.new.out k (l.i + 1)) more
    (cells-next a.cells.now a.at a.out.now l.out place l.i _ _ _ (omega (arith, c.requires)) c.loop-i-test.true l.invariant c.pattern.ensures c.spell.ensures c.spell.auto.out)

pub returns : goal.returns
returns c =
    let l = c.loop-i in
    let a = c.args in
    let e : l.i ≡ length a.cells.now = omega (arith, l.invariant.below) in
    (refl, l.invariant.is ∙ ap (λ (x : List Float). over a.at (cells_of x) a.out.now) (take_all l.i a.cells.now c.loop-i-test.false))
