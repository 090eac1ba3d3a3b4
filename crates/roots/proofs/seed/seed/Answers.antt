-- `roots::seed::seed` meets its contract: the patterns are below that of 4, and the rest is the definition's steps. Assumes nothing.
use native.Mathlib.Omega.{arith}
use Rattle.laws.proofs.Bits.{bits-no-nan}
use Rattle.roots.specs.Seed.{quadratic, seed_of}
use Rattle.roots.proofs.seed.seed.Goals as goal

pub float_from_bits-d : goal.float_from_bits-d
float_from_bits-d c = bits-no-nan _ (omega arith)

pub float_from_bits-d-2 : goal.float_from_bits-d-2
float_from_bits-d-2 c = bits-no-nan _ (omega arith)

pub returns : goal.returns
unfolding quadratic seed_of
returns c = let e = c.quadratic_of-q.ensures in rw (e.0, e.1, e.2)
