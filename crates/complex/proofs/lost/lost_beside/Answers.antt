-- `complex::lost::lost_beside` meets its contract. Assumes nothing.
use Rattle.complex.specs.Lost.{lost_beside}
use Rattle.machine.specs.Constants.{absolute_approximation_limit, inverse_tolerance}
use Rattle.complex.proofs.lost.lost_beside.Goals as goal

pub returns-then-smaller : goal.returns-then-smaller
unfolding lost_beside absolute_approximation_limit inverse_tolerance
returns-then-smaller c = simp c.if-smaller.true

pub returns-else-smaller : goal.returns-else-smaller
unfolding lost_beside absolute_approximation_limit inverse_tolerance
returns-else-smaller c = simp c.if-smaller.false
