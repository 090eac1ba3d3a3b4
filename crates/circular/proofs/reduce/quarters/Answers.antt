-- `circular::reduce::quarters` meets its contract: the code is the definition, operation by operation. Assumes nothing.
use Rattle.circular.specs.Reduce.{quarters_of}
use Rattle.circular.proofs.reduce.quarters.Goals as goal

pub returns : goal.returns
unfolding quarters_of
returns c = simp c.pattern-quarter.ensures
