-- `miller::seeds::ratio` meets its contract: the definition's operations, one after the other. Assumes nothing.
use Rattle.miller.specs.shapes.Ratio.{ratio_of, ratio_unless}
use Rattle.miller.proofs.seeds.ratio.Goals as goal

pub returns-then-alone : goal.returns-then-alone
unfolding ratio_unless
returns-then-alone g c = simp (c.from_real.ensures, c.if-alone.true)

pub returns : goal.returns
unfolding ratio_unless ratio_of
returns g c =
    simp (
      c.plus_real-2.ensures,
      c.quotient.ensures,
      c.plus_real-shifted.ensures,
      c.plus_real.ensures,
      c.opposite.ensures,
      c.product-ratio.ensures,
      c.over_real-2.ensures,
      c.conjugate.ensures,
      c.over_real.ensures,
      c.modulus-length.ensures,
      c.if-alone.false,
    )
