-- `complex::functions::off_zero` meets its contract: one sine and one cosine serve all three. Assumes nothing.
use Rattle.circular.specs.SinCos.{sin_cos_of}
use Rattle.complex.specs.Functions.{polar_of, complex_exp_of, complex_cosh_of, complex_sinh_of}
use Rattle.complex.proofs.functions.off_zero.Goals as goal

pub returns : goal.returns
unfolding polar_of complex_exp_of complex_cosh_of complex_sinh_of sin_cos_of
returns c =
    let turn = c.sin_cos-turn.ensures in (
      simp (c.exp-r.ensures, turn),
      simp (c.cosh-c.ensures, c.sinh-s.ensures, turn),
      simp (c.cosh-c.ensures, c.sinh-s.ensures, turn),
    )
