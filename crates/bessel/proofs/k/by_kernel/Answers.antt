-- `bessel::k::by_kernel` meets its contract: the kernel, and what follows it. Assumes nothing.
use mathlib.Core.Path.{ap, ◌∙◌}
use lib.ListN.{length}
use Rattle.bessel.specs.Outcome.{Outcome}
use Rattle.bessel.specs.K.{kernel_by, k_steps}
use Rattle.call.proofs.LimitFacts.{lent}
use Rattle.bessel.proofs.KernelFacts.{zeros-few, concluded-kernel}
use Rattle.bessel.proofs.k.by_kernel.Goals as goal

pub k_right_half_plane-ending-requires : goal.k_right_half_plane-ending-requires
k_right_half_plane-ending-requires c =
    let p = c.requires in
    let l = lent _ p.0 in
    (l.some, l.even, l.most, p.1, p.2, p.3)

pub concluded-requires : goal.concluded-requires
concluded-requires c =
    let d = c in
    zeros-few _ _ _ _ _ _ d.requires.0 d.k_right_half_plane-ending.ensures.0

pub returns : goal.returns
unfolding kernel_by k_steps
returns c =
    let f = c in
    let d = f in
    let s = d in
    let e = concluded-kernel (length s.args.out.now) _ _ _ _ _ d.k_right_half_plane-ending.auto.out d.k_right_half_plane-ending.ensures.0 d.k_right_half_plane-ending.ensures.1 in
    (f.concluded.ensures.0 ∙ ap (λ (o : Outcome). o.answer) e, f.concluded.ensures.1 ∙ ap (λ (o : Outcome). o.cells) e)
