-- `lichenoar_log_gamma` meets its contract: the outcome as C's record. Assumes nothing.
use mathlib.Core.Path.{ap, ◌∙◌}
use Rattle.gamma_ln.proofs.LogGammaFacts.{defined}
use Rattle.capi.specs.Outcome.{outcome_of}
use Rattle.capi.proofs.lichenoar_log_gamma.Goals as goal

pub returns : goal.returns
returns c = c.from.ensures ∙ ap outcome_of (defined c.args.x c.log_gamma.result c.log_gamma.ensures)
