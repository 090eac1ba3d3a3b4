-- `miller::backward::real_steps` meets its contract: the steps by the real operations. Assumes nothing.
use mathlib.Core.Path.{◌∙◌}
use Rattle.miller.proofs.StepFacts.{real-steps-are}
use Rattle.miller.proofs.backward.real_steps.Goals as goal

pub returns : goal.returns
returns c = c.all_steps.ensures ∙ real-steps-are _ _ _
