-- `recurrence::first::ended` meets its contract, by what the trial kept. Assumes nothing.
use Rattle.recurrence.specs.First.{ended_of}
use Rattle.recurrence.proofs.first.ended.Goals as goal

pub returns-in-Some : goal.returns-in-Some
unfolding ended_of
returns-in-Some c = rw c.in-Some.is

pub returns-in-None : goal.returns-in-None
unfolding ended_of
returns-in-None c = rw c.in-None.is
