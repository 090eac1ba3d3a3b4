-- `recurrence::trial::ln_magnitude` meets its contract. Assumes nothing.
use Rattle.recurrence.specs.Trial.{ln_magnitude}
use Rattle.recurrence.proofs.trial.ln_magnitude.Goals as goal

pub returns : goal.returns
unfolding ln_magnitude
returns c = simp (c.ln.ensures, c.norm_square.ensures)
