-- `roots::hypot::scaled` meets its contract, step by step. Assumes nothing.
use Rattle.roots.specs.Hypot.{sum_of_squares, scaled_hypot}
use Rattle.roots.proofs.hypot.scaled.Goals as goal

pub returns : goal.returns
unfolding sum_of_squares scaled_hypot
returns c = simp (c.root.ensures, c.pattern-s.ensures)
