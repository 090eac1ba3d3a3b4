-- `gamma_ln::series::series` meets its contract. Assumes nothing.
use Rattle.machine.specs.Constants.{tolerance}
use Rattle.gamma_ln.specs.Coefficients.{coefficients}
use Rattle.gamma_ln.specs.Series.{inverse_of, square_of, first_term_of, bound_of, series_of, first_of}
use Rattle.gamma_ln.proofs.series.series.Goals as goal

pub returns-then-power : goal.returns-then-power
unfolding coefficients series_of inverse_of square_of first_term_of bound_of tolerance
returns-then-power c = simp (c.further.ensures, c.if-power.true)

pub returns-else-power : goal.returns-else-power
unfolding coefficients series_of inverse_of first_term_of tolerance first_of
returns-else-power c = simp c.if-power.false
