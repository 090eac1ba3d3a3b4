-- `bessel::checks::beyond_series` meets its contract: the same operations in the same order. Assumes nothing.
use Rattle.series_step.specs.Setting.{order_at, order_plus_one}
use Rattle.power_series.specs.Series.{beyond_series}
use Rattle.bessel.proofs.checks.beyond_series.Goals as goal

pub returns : goal.returns
unfolding order_at order_plus_one beyond_series
returns c = rw c.from.ensures
