-- `complex::lost::lost` meets its contract: the two orders of the magnitudes. Assumes nothing.
use Rattle.complex.specs.Lost.{lost_of}
use Rattle.complex.proofs.lost.lost.Goals as goal

pub returns-then-im-re : goal.returns-then-im-re
unfolding lost_of
returns-then-im-re c =
    let d = c in
    rw (c.lost_beside.ensures, ← d.magnitude-re.ensures, ← d.magnitude-im.ensures, c.if-im-re.true)

pub returns : goal.returns
unfolding lost_of
returns c =
    let d = c in
    rw (c.lost_beside-2.ensures, ← d.magnitude-re.ensures, ← d.magnitude-im.ensures, c.if-im-re.false)
