-- `miller::seeds::real_seeds` meets its contract. Assumes nothing.
use Rattle.miller.specs.Backward.{on_real_line}
use Rattle.miller.specs.Seeds.{real_first_seed, real_seeds}
use Rattle.miller.proofs.RatioFacts.{real-second-is}
use Rattle.miller.proofs.seeds.real_seeds.Goals as goal

pub returns : goal.returns
unfolding real_seeds real_first_seed on_real_line
returns c = simp (c.second.ensures, c.magnitude-length.ensures, c.ratio-ratio.ensures, c.real_steps-s.ensures, real-second-is)
