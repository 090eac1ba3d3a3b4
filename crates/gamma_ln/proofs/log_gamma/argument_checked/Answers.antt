-- `gamma_ln::log_gamma::argument_checked` meets its contract: the checks of the list, in their order. Assumes nothing.
use Rattle.std.proofs.Common.{rules}
use Rattle.call.specs.Checks.{refused_if, verdict_from, verdict_of}
use Rattle.gamma_ln.specs.LogGamma.{argument_checks}
use Rattle.gamma_ln.proofs.log_gamma.argument_checked.Goals as goal

pub returns-in_err-refused_if : goal.returns-in_err-refused_if
unfolding verdict_of verdict_from refused_if argument_checks
returns-in_err-refused_if c = search rules

pub returns : goal.returns
unfolding verdict_of verdict_from refused_if argument_checks
returns c = search rules
