-- `exponential::exp::exp_pair` meets its contract: the indices are in range by the reduction, and the formula is the definition's. Assumes nothing.
use native.Mathlib.Omega.{arith}
use Rattle.exponential.specs.Exp.{shifted, steps, rest, exp_pair}
use Rattle.exponential.proofs.Reduction.{shifted-no-nan, shifted-bits}
use Rattle.exponential.proofs.exp.exp_pair.Goals as goal

pub float_to_bits-n : goal.float_to_bits-n
unfolding shifted
float_to_bits-n c = shifted-no-nan c.args.x c.requires.t c.requires.t_2

pub overflow_sub-n : goal.overflow_sub-n
unfolding shifted
overflow_sub-n c = let b = shifted-bits c.args.x c.requires.t c.requires.t_2 in omega arith

pub coarse-requires : goal.coarse-requires
unfolding shifted
coarse-requires c = let b = shifted-bits c.args.x c.requires.t c.requires.t_2 in omega arith

pub returns : goal.returns
unfolding exp_pair steps rest shifted
returns c = simp (c.multiplied.ensures, c.grown.ensures, c.fine.ensures, c.coarse.ensures)
