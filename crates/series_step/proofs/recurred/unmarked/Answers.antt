-- `series_step::recurred::unmarked` meets its contract. Assumes nothing.
use mathlib.Core.Path.{refl}
use Rattle.series_step.specs.Recurred.{recurred_if}
use Rattle.series_step.proofs.recurred.unmarked.Goals as goal

pub returns : goal.returns
unfolding recurred_if
returns c = refl
