-- `call::checks::limits_checked` meets its contract, check by check. Assumes nothing.
use Rattle.std.proofs.Common.{rules}
use Rattle.call.specs.Checks.{refused_if, verdict_from, verdict_of, limit_checks}
use Rattle.call.proofs.checks.limits_checked.Goals as goal

pub returns-in_err-refused_if : goal.returns-in_err-refused_if
unfolding verdict_of verdict_from refused_if limit_checks
returns-in_err-refused_if c = search rules

pub returns-in_err-refused_if-2 : goal.returns-in_err-refused_if-2
unfolding verdict_of verdict_from refused_if limit_checks
returns-in_err-refused_if-2 c = search rules

pub returns : goal.returns
unfolding verdict_of verdict_from refused_if limit_checks
returns c = search rules
