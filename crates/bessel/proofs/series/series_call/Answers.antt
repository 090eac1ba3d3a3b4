-- `bessel::series::series_call` meets its contract: the verdict, and what follows it. Assumes nothing.
use mathlib.Core.Path.{sym, ◌∙◌}
use Rattle.bessel.specs.Outcome.{outcome_by, call_outcome}
use Rattle.bessel.specs.Series.{series_outcome}
use Rattle.bessel.proofs.ArgumentFacts.{series-ready}
use Rattle.bessel.proofs.series.series_call.Goals as goal

pub by_series-requires : goal.by_series-requires
by_series-requires c =
    let d = c in
    series-ready _ _ (sym d.series_verdict-verdict.ensures ∙ c.in-Ok.is)

pub returns-in-Ok : goal.returns-in-Ok
unfolding series_outcome call_outcome outcome_by
returns-in-Ok c =
    let b = c in
    let d = b in
    rw (← d.prepare-a.ensures, ← d.series_verdict-verdict.ensures, b.in-Ok.is) b.by_series.ensures

pub returns-in-Err : goal.returns-in-Err
unfolding series_outcome call_outcome outcome_by
returns-in-Err c =
    let b = c in
    let d = b in
    rw (← d.prepare-a.ensures, ← d.series_verdict-verdict.ensures, b.in-Err.is) b.refuse.ensures
