-- `lichenoar_k` meets its contract: the library's answer, its record projected. Assumes nothing.
use mathlib.Core.Path.{ap, ◌∙◌}
use Rattle.capi.specs.Outcome.{answer_of}
use Rattle.capi.proofs.lichenoar_k.Goals as goal

pub returns : goal.returns
returns c =
    let d = c.k.ensures in
    (c.from.ensures ∙ ap answer_of d.0, d.1)
