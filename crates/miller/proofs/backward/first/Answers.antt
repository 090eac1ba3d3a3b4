-- `miller::backward::first` meets its contract. Assumes nothing.
use Rattle.machine.specs.Constants.{tolerance}
use Rattle.miller.specs.shapes.Steps.{first_of}
use Rattle.miller.proofs.backward.first.Goals as goal

pub returns : goal.returns
unfolding first_of tolerance
returns g c = simp (c.from_real.ensures, c.from_real-2.ensures, c.from_real-3.ensures)
