-- `miller::backward::with_real_part` meets its contract: the real part is given, the rest are the definition's steps. Assumes nothing.
use Rattle.complex.specs.Arithmetic.{plus_of, minus_of, product_of, times_real, plus_real}
use Rattle.miller.specs.Backward.{share_of, complex_next, complex_step}
use Rattle.miller.proofs.backward.with_real_part.Goals as goal

pub returns : goal.returns
unfolding complex_step complex_next share_of plus_of minus_of product_of times_real plus_real
returns c = simp c.requires.1
