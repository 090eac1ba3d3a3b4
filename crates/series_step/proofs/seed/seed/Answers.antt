-- `series_step::seed::seed` meets its contract: the exponent at or below the limit, and above it. Assumes nothing.
use Rattle.machine.specs.Constants.{exponent_limit}
use Rattle.series_step.specs.Seed.{seed_if, seed_of}
use Rattle.series_step.proofs.seed.seed.Goals as goal

pub returns-then-lead : goal.returns-then-lead
unfolding exponent_limit seed_if seed_of
returns-then-lead c =
    let d = c in
    rw (← d.leading-lead.ensures, c.if-lead.true) c.zeroed.ensures

pub returns : goal.returns
unfolding exponent_limit seed_if seed_of
returns c =
    let d = c in
    rw (← d.leading-lead.ensures, c.if-lead.false) c.summed.ensures
