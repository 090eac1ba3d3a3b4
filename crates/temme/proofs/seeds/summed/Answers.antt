-- `temme::seeds::summed` meets its contract. Assumes nothing.
use Rattle.machine.specs.Constants.{tolerance}
use Rattle.temme.specs.Seeds.{summed_of}
use Rattle.temme.proofs.seeds.summed.Goals as goal

pub returns-then-modulus : goal.returns-then-modulus
unfolding summed_of tolerance
returns-then-modulus c = simp (c.sum.ensures, c.fixed.ensures, c.if-modulus.true)

pub returns : goal.returns
unfolding summed_of tolerance
returns c = simp c.if-modulus.false
