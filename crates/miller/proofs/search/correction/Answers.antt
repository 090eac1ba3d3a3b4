-- `miller::search::correction` meets its contract: none on the real path, and else the angle's. Assumes nothing.
use mathlib.Core.Path.{sym, ◌∙◌}
use Rattle.miller.specs.shapes.Correction.{correction_of}
use Rattle.miller.proofs.search.correction.Goals as goal

pub returns-then-is_real : goal.returns-then-is_real
unfolding correction_of
returns-then-is_real c = simp (sym c.is_real.ensures ∙ c.if-is_real.true)

pub returns : goal.returns
unfolding correction_of
returns c = simp (c.angle_correction.ensures, sym c.is_real.ensures ∙ c.if-is_real.false)
