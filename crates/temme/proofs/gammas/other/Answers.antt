-- `temme::gammas::other` meets its contract: away from 0 the quotient by the sine is taken. Assumes nothing.
use Rattle.temme.specs.Gammas.{one_over_sinc, gammas_of}
use Rattle.temme.proofs.gammas.other.Goals as goal

pub returns : goal.returns
unfolding gammas_of one_over_sinc
returns c =
    let d = c in
    simp (c.quotient.ensures, c.exp-plus.ensures, d.value.ensures, d.sin_pi.ensures, d.requires)
