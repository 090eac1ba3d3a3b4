-- `series_step::recurred::backward` meets its contract: turned, and not. Assumes nothing.
use Rattle.series_step.specs.Recurred.{backward_if, backward_of}
use Rattle.series_step.proofs.recurred.backward.Goals as goal

pub returns-then-g : goal.returns-then-g
unfolding backward_if backward_of
returns-then-g c =
    let d = c in
    simp (c.sub.ensures, c.if-g.true, d.mul-product.ensures, d.mul.ensures, d.from.ensures)

pub returns : goal.returns
unfolding backward_if backward_of
returns c =
    let d = c in
    simp (c.add.ensures, c.if-g.false, d.mul-product.ensures, d.mul.ensures, d.from.ensures)
