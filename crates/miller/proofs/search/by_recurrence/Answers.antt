-- `miller::search::by_recurrence` meets its contract: no trial, a trial that met the test, or none. Assumes nothing.
use mathlib.Core.Path.{sym, ◌∙◌}
use Rattle.machine.specs.Constants.{tolerance}
use Rattle.miller.specs.Search.{corrected, convergence_test, by_recurrence}
use Rattle.miller.proofs.search.by_recurrence.Goals as goal

pub returns-then-test : goal.returns-then-test
unfolding by_recurrence convergence_test tolerance
returns-then-test c = simp c.if-test.true

pub returns-in_err-index : goal.returns-in_err-index
unfolding by_recurrence convergence_test corrected tolerance
returns-in_err-index c = simp (c.from_residual.ensures, c.if-test.false, sym c.trial_index.ensures ∙ c.in_err-index.was)

pub returns : goal.returns
unfolding by_recurrence convergence_test corrected tolerance
returns c = simp (c.start_from.ensures, c.raw_start.ensures, c.if-test.false, sym c.trial_index.ensures ∙ c.in_ok-index.was)
