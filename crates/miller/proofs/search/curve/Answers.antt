-- `miller::search::curve` meets its contract: without an angle on the real path, and else with its cosines. Assumes nothing.
use mathlib.Core.Path.{sym, ◌∙◌}
use Rattle.miller.specs.Search.{flattened, curve_of}
use Rattle.miller.proofs.search.curve.Goals as goal

pub returns-then-is_real : goal.returns-then-is_real
unfolding curve_of flattened
returns-then-is_real c = simp (sym c.is_real.ensures ∙ c.if-is_real.true)

pub returns : goal.returns
unfolding curve_of flattened
returns c =
    let d = c in
    simp (c.cos-far.ensures, c.cos-near.ensures, sym d.is_real.ensures ∙ d.if-is_real.false)
