-- `gamma_ln::gamma_ln::stirling` meets its contract. Assumes nothing.
use Rattle.gamma_ln.specs.GammaLn.{ln_two_pi, stirling_of}
use Rattle.gamma_ln.proofs.gamma_ln.stirling.Goals as goal

pub returns : goal.returns
unfolding ln_two_pi stirling_of
returns c = simp (c.ln-logarithm.ensures, c.series-tail.ensures)
