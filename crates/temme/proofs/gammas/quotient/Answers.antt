-- `temme::gammas::quotient` meets its contract. Assumes nothing.
use Rattle.temme.specs.Gammas.{difference_quotient}
use Rattle.temme.proofs.gammas.quotient.Goals as goal

pub returns-then-magnitude : goal.returns-then-magnitude
unfolding difference_quotient
returns-then-magnitude c = simp (c.difference.ensures, ← c.magnitude.ensures, c.if-magnitude.true)

pub returns : goal.returns
unfolding difference_quotient
returns c = simp (← c.magnitude.ensures, c.if-magnitude.false)
