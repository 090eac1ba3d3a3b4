-- `temme::seeds::over_fraction` meets its contract. Assumes nothing.
use Rattle.temme.specs.Seeds.{shinc_of}
use Rattle.temme.proofs.seeds.over_fraction.Goals as goal

pub returns-then-fraction : goal.returns-then-fraction
unfolding shinc_of
returns-then-fraction c = simp c.if-fraction.true

pub returns : goal.returns
unfolding shinc_of
returns c = simp (c.over_real.ensures, c.if-fraction.false)
