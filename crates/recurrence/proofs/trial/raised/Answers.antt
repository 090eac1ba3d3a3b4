-- `recurrence::trial::raised` meets its contract: the calls in their order. Assumes nothing.
use Rattle.machine.specs.Constants.{tolerance}
use Rattle.recurrence.specs.Trial.{raised_of}
use Rattle.recurrence.proofs.trial.raised.Goals as goal

pub returns : goal.returns
unfolding raised_of tolerance
returns c = simp (c.over_real.ensures, c.exp.ensures, c.minus.ensures, c.ln.ensures)
