-- `recurrence::first::settled` meets its contract: by what the two trials kept. Assumes nothing.
use Rattle.recurrence.specs.Search.{is_found}
use Rattle.recurrence.specs.First.{settled_of}
use Rattle.recurrence.proofs.first.settled.Goals as goal

pub returns-in_default : goal.returns-in_default
unfolding settled_of is_found
returns-in_default c = rw (c.ended.ensures, c.in_default.is)

pub returns-in_default-latest : goal.returns-in_default-latest
unfolding settled_of is_found
returns-in_default-latest c = rw (c.ended-in_default-latest.ensures, c.in-Some.is, c.in_default-latest.is)

pub returns : goal.returns
unfolding settled_of is_found
returns c = rw (c.in-Some.is, c.in-Some-latest.is)
