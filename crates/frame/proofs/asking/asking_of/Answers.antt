-- `frame::asking::asking_of` meets its contract: three patterns read. Assumes nothing.
use Rattle.frame.specs.Asking.{asking_of}
use Rattle.frame.proofs.asking.asking_of.Goals as goal

pub returns : goal.returns
unfolding asking_of
returns c = simp (c.of_pattern-3.ensures, c.of_pattern-2.ensures, c.of_pattern.ensures)
