-- `gamma_ln::log_gamma::log_gamma` meets its contract: the verdict, and the value behind it. Assumes nothing.
use mathlib.Core.Path.{◌≡◌, ap, ◌∙◌}
use Rattle.std.proofs.Common.{rules}
use Rattle.gamma_ln.specs.LogGamma.{log_gamma_by, log_gamma_of, outcome_of}
use Rattle.gamma_ln.proofs.LogGammaFacts.{steps-outcome}
use Rattle.gamma_ln.proofs.log_gamma.log_gamma.Goals as goal

pub returns-in_err-argument_checked : goal.returns-in_err-argument_checked
unfolding log_gamma_of log_gamma_by
returns-in_err-argument_checked c = rw (← steps-outcome c.args.x, ← c.argument_checked.ensures, c.in_err-argument_checked.was) (search rules)

pub returns : goal.returns
unfolding log_gamma_of log_gamma_by
returns c =
    let e : c.valued.result ≡ log_gamma_of c.args.x = rw (← c.argument_checked.ensures, c.in_ok-argument_checked.was, ← c.value.ensures) c.valued.ensures in
    ap outcome_of e ∙ steps-outcome _
