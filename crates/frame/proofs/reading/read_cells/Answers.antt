-- `frame::reading::read_cells` meets its contract: one cell behind the other. Assumes nothing.
use mathlib.Core.Path.{◌≡◌, sym, ap, ◌∙◌}
use mathlib.Core.List.{[], ◌∷◌, ◌++◌}
use Prim.Native.Nat.{ℕ}
use native.Mathlib.Numerals.{add-one}
use native.Mathlib.Omega.{arith}
use lib.Ieee.{Float, binary64, of_bits}
use lib.ListN.{length}
use Rattle.laws.proofs.Seam.{seam-start, seam-store, seam-as, seam-full}
use Rattle.frame.specs.Reading.{cells_read}
use Rattle.frame.proofs.reading.read_cells.Goals as goal

pub loop-i-init : goal.loop-i-init
unfolding cells_read
loop-i-init c = seam-start _

pub loop-i-preserved : goal.loop-i-preserved
unfolding cells_read
loop-i-preserved c =
    let l = c.loop-i in
    let line = c.args.line.now in
    let value = c.of_pattern.ensures ∙ ap (of_bits binary64) c.cell_bits.ensures in
    seam-as (ap (λ (x : Float). cells_read l.i line ++ (x ∷ [])) value ∙ sym (ap (λ (k : ℕ). cells_read k line) (add-one l.i)))
    (seam-store c.of_pattern.result (omega (arith, c.loop-i-test.true, l.invariant.same)) l.invariant)

pub returns : goal.returns
returns c =
    let l = c.loop-i in
    let e : l.i ≡ length c.args.out.now = omega (arith, l.invariant.room, l.invariant.same, c.loop-i-test.false) in
    seam-full (omega arith) l.invariant ∙ ap (λ (k : ℕ). cells_read k c.args.line.now) e
