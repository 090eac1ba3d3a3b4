-- `temme::seeds::fixed` meets its contract. Assumes nothing.
use Rattle.temme.specs.Seeds.{quarter_square, fixed_of}
use Rattle.temme.proofs.seeds.fixed.Goals as goal

pub returns : goal.returns
unfolding fixed_of quarter_square
returns c = simp (c.times_real.ensures, c.square.ensures)
