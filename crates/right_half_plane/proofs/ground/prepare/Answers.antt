-- `right_half_plane::ground::prepare` meets its contract: the rounded order is a whole number. Assumes nothing.
use Rattle.right_half_plane.specs.Ground.{nearest_order, ground_of}
use Rattle.right_half_plane.proofs.OrderFacts.{order-cast}
use Rattle.right_half_plane.proofs.ground.prepare.Goals as goal

pub float_to_int-result : goal.float_to_int-result
float_to_int-result c = rw c.round-whole.ensures (order-cast c.args.order c.requires.0 c.requires.1).0

pub returns : goal.returns
unfolding ground_of nearest_order
returns c = simp (c.fraction_square.ensures, c.two_over_with.ensures, c.round-whole.ensures)
