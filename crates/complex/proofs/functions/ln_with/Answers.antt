-- `complex::functions::ln_with` meets its contract. Assumes nothing.
use Rattle.complex.specs.Functions.{ln_with}
use Rattle.complex.proofs.functions.ln_with.Goals as goal

pub returns : goal.returns
unfolding ln_with
returns c = simp c.ln.ensures
