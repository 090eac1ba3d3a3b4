-- `miller::search::raw_start` meets its contract: the real path takes no correction, and off it the number handed in is the angle's. Assumes nothing.
use mathlib.Core.Path.{sym, ◌∙◌}
use Rattle.miller.specs.Search.{raw_start}
use Rattle.miller.specs.shapes.Correction.{correction_of}
use Rattle.miller.proofs.search.raw_start.Goals as goal

pub returns-then-is_real : goal.returns-then-is_real
unfolding raw_start
returns-then-is_real c = simp (sym c.is_real.ensures ∙ c.if-is_real.true)

pub returns : goal.returns
unfolding correction_of raw_start
returns c = simp (c.requires, sym c.is_real.ensures ∙ c.if-is_real.false)
