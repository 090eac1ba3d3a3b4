-- `series_step::seed::kept` meets its contract. Assumes nothing.
use Rattle.series_step.specs.Seed.{kept_of}
use Rattle.series_step.proofs.seed.kept.Goals as goal

pub returns : goal.returns
unfolding kept_of
returns c =
    let d = c in
    simp (d.mul.ensures, d.seed_or-2.ensures, d.seed_or.ensures)
