-- `lichenoar_sweep` meets its contract: the library's sweep, its record projected. Assumes nothing.
use mathlib.Core.Path.{◌≡◌, ap, ◌∙◌}
use Rattle.frame.specs.Over.{offered}
use Rattle.sweeping.specs.declared.request.Request.{Request}
use Rattle.sweeping.specs.Sweep.{swept_of, frames_of}
use Rattle.capi.specs.Outcome.{sweep_of, request_of}
use Rattle.capi.proofs.lichenoar_sweep.Goals as goal

pub returns : goal.returns
returns c =
    let a = c.args in
    let d = c.sweep.ensures in
    let q : request_of c.from.result c.from-2.result c.from-3.result a.v a.first_re a.first_im a.last_re a.last_im a.steps ≡ request_of a.kind a.scaling a.n a.v a.first_re a.first_im a.last_re a.last_im a.steps =
    simp (c.from.ensures, c.from-2.ensures, c.from-3.ensures) in
    (c.from-4.ensures ∙ ap sweep_of d.0 ∙ ap (λ (r : Request). sweep_of (swept_of r)) q, d.1 ∙ ap (λ (r : Request). offered (frames_of r) a.out.now) q)
