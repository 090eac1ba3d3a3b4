-- `bessel::checks::argument_verdict` meets its contract: the shared parts of the list, one behind the other. Assumes nothing.
use Rattle.std.proofs.Common.{rules}
use Rattle.call.proofs.FirstFacts.{verdict-joined}
use Rattle.bessel.specs.Checks.{argument_checks}
use Rattle.bessel.proofs.checks.argument_verdict.Goals as goal

pub returns-in_err-length_checked : goal.returns-in_err-length_checked
unfolding argument_checks
returns-in_err-length_checked c = rw (verdict-joined, ← c.length_checked.ensures, c.in_err-length_checked.was) (search rules)

pub returns-in_err-finite_checked : goal.returns-in_err-finite_checked
unfolding argument_checks
returns-in_err-finite_checked c =
    rw (verdict-joined, verdict-joined, ← c.length_checked.ensures, ← c.finite_checked.ensures, c.in_ok-length_checked.was, c.in_err-finite_checked.was) (search rules)

pub returns : goal.returns
unfolding argument_checks
returns c =
    rw (verdict-joined, verdict-joined, ← c.length_checked.ensures, ← c.finite_checked.ensures, c.in_ok-length_checked.was, c.in_ok-finite_checked.was) c.limits_checked.ensures
