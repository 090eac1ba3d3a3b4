-- `series_step::seed::seed_or` meets its contract. Assumes nothing.
use Rattle.series_step.specs.Seed.{seed_or}
use Rattle.series_step.proofs.seed.seed_or.Goals as goal

pub returns-then-seeds : goal.returns-then-seeds
unfolding seed_or
returns-then-seeds c = simp c.if-seeds.true

pub returns : goal.returns
unfolding seed_or
returns c = simp c.if-seeds.false
