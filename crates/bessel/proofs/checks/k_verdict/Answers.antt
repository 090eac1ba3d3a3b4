-- `bessel::checks::k_verdict` meets its contract: the shared checks, and K's own behind them. Assumes nothing.
use Rattle.std.proofs.Common.{rules, ◌≡◌, refl, ◌∙◌, Bool}
use Rattle.refusal.specs.declared.refusal.Refusal.TheVariants.{Zero}
use Rattle.call.specs.Limits.{is_zero}
use Rattle.call.specs.Checks.{Admitted, refused_if, verdict_from, verdict_of}
use Rattle.call.proofs.FirstFacts.{verdict-joined}
use Rattle.bessel.specs.declared.arguments.Arguments.{Arguments}
use Rattle.bessel.specs.Checks.{k_own_checks, k_checks}
use Rattle.bessel.proofs.checks.k_verdict.Goals as goal

pub returns-in_err-argument_verdict : goal.returns-in_err-argument_verdict
unfolding k_checks
returns-in_err-argument_verdict c = rw (verdict-joined, ← c.argument_verdict.ensures, c.in_err-argument_verdict.was) (search rules)

own : (a : Arguments) (b : Bool) → b ≡ is_zero a.z.re a.z.im → refused_if Admitted b Zero ≡ verdict_of (k_own_checks a)
unfolding verdict_of verdict_from k_own_checks
own a b e = rw e refl

pub returns : goal.returns
unfolding k_checks
returns c = rw (verdict-joined, ← c.argument_verdict.ensures, c.in_ok-argument_verdict.was) (c.refused_if.ensures ∙ own _ _ c.is_zero.ensures)
