-- `miller::seeds::second` meets its contract. Assumes nothing.
use Rattle.miller.specs.shapes.Ratio.{product_unless}
use Rattle.miller.proofs.seeds.second.Goals as goal

pub returns-then-alone : goal.returns-then-alone
unfolding product_unless
returns-then-alone g c = simp (c.from_real.ensures, c.if-alone.true)

pub returns : goal.returns
unfolding product_unless
returns g c = simp (c.product.ensures, c.if-alone.false)
