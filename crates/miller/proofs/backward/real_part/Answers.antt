-- `miller::backward::real_part` meets its contract: it does the definition's steps. Assumes nothing.
use mathlib.Core.Path.{refl}
use Rattle.complex.specs.Arithmetic.{minus_of, product_of, times_real, plus_real}
use Rattle.miller.specs.Backward.{share_of, complex_next}
use Rattle.miller.proofs.backward.real_part.Goals as goal

pub returns : goal.returns
unfolding complex_next share_of minus_of product_of times_real plus_real
returns c = refl
