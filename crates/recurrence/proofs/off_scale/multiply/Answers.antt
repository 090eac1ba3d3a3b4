-- `recurrence::off_scale::multiply` meets its contract: the cells in front of the next one are the products. Assumes nothing.
use mathlib.Core.Path.{◌≡◌, ap, ◌∙◌}
use mathlib.Core.List.{[], ◌∷◌, ◌++◌}
use Prim.Native.Nat.{ℕ}
use native.Mathlib.Nat.{le_refl}
use native.Mathlib.Omega.{arith}
use lib.ListN.{length, take}
use lib.Seq.{take-length}
use lib.Ieee.{Float, nan, binary64, mul}
use Rattle.laws.proofs.Seam.{seam-store, seam-as, seam-behind, seam-full}
use Rattle.recurrence.specs.shapes.Stretch.{products_of}
use Rattle.recurrence.proofs.OffScaleFacts.{products-none, products-next}
use Rattle.recurrence.proofs.off_scale.multiply.Goals as goal

pub loop-x-init : goal.loop-x-init
loop-x-init c = products-none _ _

pub loop-x-preserved : goal.loop-x-preserved
loop-x-preserved c =
    let part = c.args.part.now in
    let by = c.args.by in
    let s = c.loop-x.invariant in
    let h = c.loop-x-test.true in
    seam-as (ap (λ (x : Float). products_of by (take c.loop-x.x-index part) ++ (mul binary64 x by ∷ [])) (seam-behind c.loop-x.x-index nan (le_refl c.loop-x.x-index) s) ∙ products-next by part c.loop-x.x-index nan h) (seam-store _ h s)

pub returns : goal.returns
returns c =
    let part = c.args.part.now in
    let n = c.loop-x.auto.x-index-end in
    let m = c.loop-x-test.false in
    let e : c.loop-x.x-index ≡ length part = omega arith in
    seam-full m c.loop-x.invariant ∙ ap (λ (k : ℕ). products_of c.args.by (take k part)) e ∙ ap (products_of c.args.by) (take-length part)
