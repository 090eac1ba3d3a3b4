-- `gamma_ln::log_gamma::valued` meets its contract: a finite value, or refusal 8. Assumes nothing.
use mathlib.Core.Path.{sym, ◌∙◌}
use Rattle.gamma_ln.specs.LogGamma.{valued_of}
use Rattle.gamma_ln.proofs.log_gamma.valued.Goals as goal

pub returns-then-is_finite : goal.returns-then-is_finite
unfolding valued_of
returns-then-is_finite c = simp (sym c.is_finite.ensures ∙ c.if-is_finite.true)

pub returns-else-is_finite : goal.returns-else-is_finite
unfolding valued_of
returns-else-is_finite c = simp (sym c.is_finite.ensures ∙ c.if-is_finite.false)
