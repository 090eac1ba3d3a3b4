-- `bessel::k::k` meets its contract: the verdict, and what follows it. Assumes nothing.
use mathlib.Core.Path.{sym, ◌∙◌}
use Rattle.bessel.specs.Outcome.{outcome_by, call_outcome}
use Rattle.bessel.specs.K.{k_outcome}
use Rattle.bessel.proofs.ArgumentFacts.{k-ready}
use Rattle.bessel.proofs.k.k.Goals as goal

pub by_kernel-requires : goal.by_kernel-requires
by_kernel-requires c =
    let d = c in
    k-ready _ _ _ _ _ d.prepare-a.ensures (sym d.k_verdict-verdict.ensures ∙ c.in-Ok.is)

pub returns-in-Ok : goal.returns-in-Ok
unfolding k_outcome call_outcome outcome_by
returns-in-Ok c =
    let b = c in
    let d = b in
    rw (← d.prepare-a.ensures, ← d.k_verdict-verdict.ensures, b.in-Ok.is) b.by_kernel.ensures

pub returns-in-Err : goal.returns-in-Err
unfolding k_outcome call_outcome outcome_by
returns-in-Err c =
    let b = c in
    let d = b in
    rw (← d.prepare-a.ensures, ← d.k_verdict-verdict.ensures, b.in-Err.is) b.refuse.ensures
