-- `bessel::checks::series_verdict` meets its contract: the shared checks, and the series' own behind them. Assumes nothing.
use Rattle.std.proofs.Common.{rules, arith, ◌≡◌, refl, sym, ◌∙◌, ℕ, ◌/◌, Bool}
use Rattle.refusal.specs.declared.refusal.Refusal.TheVariants.{Series}
use Rattle.power_series.specs.Series.{beyond_series}
use Rattle.call.specs.Checks.{Admitted, refused_if, verdict_from, verdict_of}
use Rattle.call.proofs.FirstFacts.{verdict-joined}
use Rattle.bessel.specs.declared.arguments.Arguments.{Arguments}
use Rattle.bessel.specs.Checks.{series_own_checks, series_checks}
use Rattle.bessel.proofs.CheckFacts.{arguments-lent}
use Rattle.bessel.proofs.checks.series_verdict.Goals as goal

pub overflow_cast-length : goal.overflow_cast-length
overflow_cast-length c = let l = arguments-lent _ _ (sym c.argument_verdict.ensures ∙ c.in_ok-argument_verdict.was) in omega arith

pub beyond_series-requires : goal.beyond_series-requires
beyond_series-requires c = let l = arguments-lent _ _ (sym c.argument_verdict.ensures ∙ c.in_ok-argument_verdict.was) in omega arith

pub returns-in_err-argument_verdict : goal.returns-in_err-argument_verdict
unfolding series_checks
returns-in_err-argument_verdict c = rw (verdict-joined, ← c.argument_verdict.ensures, c.in_err-argument_verdict.was) (search rules)

own : (a : Arguments) (length : ℕ) (b : Bool) → b ≡ beyond_series a.order (length / 2) a.modulus → refused_if Admitted b Series ≡ verdict_of (series_own_checks a length)
unfolding verdict_of verdict_from series_own_checks
own a length b e = rw e refl

pub returns : goal.returns
unfolding series_checks
returns c = rw (verdict-joined, ← c.argument_verdict.ensures, c.in_ok-argument_verdict.was) (c.refused_if.ensures ∙ own _ _ _ c.beyond_series.ensures)
