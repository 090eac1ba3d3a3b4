-- `complex::functions::polar` meets its contract: sine and cosine come together. Assumes nothing.
use Rattle.circular.specs.SinCos.{sin_cos_of}
use Rattle.complex.specs.Functions.{polar_of}
use Rattle.complex.proofs.functions.polar.Goals as goal

pub returns : goal.returns
unfolding polar_of sin_cos_of
returns c = simp c.sin_cos-turn.ensures
