-- `roots::hypot::root` meets its contract, step by step. Assumes nothing.
use Rattle.roots.specs.Hypot.{root_at}
use Rattle.roots.proofs.hypot.root.Goals as goal

pub returns : goal.returns
unfolding root_at
returns c = simp (c.twice_root.ensures, c.half_power.ensures)
