-- `miller::search::formula` meets its contract. Assumes nothing.
use Rattle.machine.specs.Constants.{tolerance}
use Rattle.miller.specs.Search.{precision_of, formula_of}
use Rattle.miller.proofs.search.formula.Goals as goal

pub returns : goal.returns
unfolding formula_of precision_of tolerance
returns c = simp (c.curve-height.ensures, c.ln-precision.ensures, c.sqrt.ensures)
