-- `miller::seeds::complex_seeds` meets its contract: the definition's operations, one after the other. Assumes nothing.
use Rattle.miller.specs.Seeds.{complex_first_seed, complex_seeds}
use Rattle.miller.proofs.RatioFacts.{complex-second-is}
use Rattle.miller.proofs.seeds.complex_seeds.Goals as goal

pub returns : goal.returns
unfolding complex_seeds complex_first_seed
returns c =
    simp (
      c.second.ensures,
      c.product-first.ensures,
      c.product.ensures,
      c.over_real.ensures,
      c.over_real-turned.ensures,
      c.conjugate.ensures,
      c.modulus-length.ensures,
      c.ratio-ratio.ensures,
      c.complex_steps-s.ensures,
      complex-second-is,
    )
