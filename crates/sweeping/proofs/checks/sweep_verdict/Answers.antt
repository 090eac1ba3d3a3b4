-- `sweeping::checks::sweep_verdict` meets its contract: its checks, in their order. Assumes nothing.
use Rattle.std.proofs.Common.{rules}
use Rattle.call.specs.Checks.{refused_if, verdict_from, verdict_of}
use Rattle.sweeping.specs.Checks.{sweep_checks}
use Rattle.sweeping.proofs.checks.sweep_verdict.Goals as goal

pub returns-in_err-refused_if : goal.returns-in_err-refused_if
unfolding verdict_of verdict_from refused_if sweep_checks
returns-in_err-refused_if c = search rules

pub returns-in_err-refused_if-2 : goal.returns-in_err-refused_if-2
unfolding verdict_of verdict_from refused_if sweep_checks
returns-in_err-refused_if-2 c = search rules

pub returns-in_err-refused_if-3 : goal.returns-in_err-refused_if-3
unfolding verdict_of verdict_from refused_if sweep_checks
returns-in_err-refused_if-3 c = search rules

pub returns-in_err-refused_if-4 : goal.returns-in_err-refused_if-4
unfolding verdict_of verdict_from refused_if sweep_checks
returns-in_err-refused_if-4 c = search rules

pub returns-in_err-refused_if-5 : goal.returns-in_err-refused_if-5
unfolding verdict_of verdict_from refused_if sweep_checks
returns-in_err-refused_if-5 c = search rules

pub returns-in_err-refused_if-6 : goal.returns-in_err-refused_if-6
unfolding verdict_of verdict_from refused_if sweep_checks
returns-in_err-refused_if-6 c = search rules

pub returns : goal.returns
unfolding verdict_of verdict_from refused_if sweep_checks
returns c = search rules
