-- `bessel::k::concluded` meets its contract: an answer is judged, a refusal fills. Assumes nothing.
use mathlib.Core.Path.{ap, ◌∙◌, subst}
use native.Mathlib.Omega.{arith}
use lib.IntN.{ℤ}
use mir.Syntax.{w32}
use mir.Facts.{to_z-of_z}
use Rattle.call.specs.Answer.{answered_of}
use Rattle.bessel.specs.Outcome.{Outcome, concluded_of}
use Rattle.bessel.specs.K.{kernel_steps, Fewer}
use Rattle.bessel.proofs.KernelFacts.{judged-counts}
use Rattle.bessel.proofs.k.concluded.Goals as goal

pub signed-requires : goal.signed-requires
signed-requires c =
    let o = c in
    let few = subst Fewer o.in-Ok.is o.requires in
    omega (arith, few)

pub returns-in-Ok : goal.returns-in-Ok
unfolding concluded_of kernel_steps answered_of
returns-in-Ok c =
    let j = c in
    let a = j in
    let s = a in
    let o = s in
    let n = o.in-Ok.c in
    let e = judged-counts _ n _ _ _ s.signed.ensures (ap (λ (k : ℤ). answered_of k n.longest_sum n.rungs n.backward) (to_z-of_z {w = w32} (record { sfits = s.signed.type_inv }))) in
    rw o.in-Ok.is (j.judge.ensures.0 ∙ ap (λ (o : Outcome). o.answer) e, j.judge.ensures.1 ∙ ap (λ (o : Outcome). o.cells) e)

pub returns-in-Err : goal.returns-in-Err
unfolding concluded_of kernel_steps
returns-in-Err c = rw c.in-Err.is c.refuse.ensures
