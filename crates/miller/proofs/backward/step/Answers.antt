-- `miller::backward::step` meets its contract: the definition's operations, one after the other. Assumes nothing.
use Rattle.miller.specs.Backward.{share_of}
use Rattle.miller.specs.shapes.Steps.{next_of, step_of}
use Rattle.miller.proofs.backward.step.Goals as goal

pub returns : goal.returns
unfolding step_of next_of share_of
returns g c =
    simp (
      c.plus.ensures,
      c.times_real-next.ensures,
      c.minus.ensures,
      c.times_real.ensures,
      c.product.ensures,
      c.times_real-factor.ensures,
      c.plus_real.ensures,
    )
