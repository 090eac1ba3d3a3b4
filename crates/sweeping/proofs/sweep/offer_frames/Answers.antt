-- `sweeping::sweep::offer_frames` meets its contract: by the room, which is compared with the length of all frames. Assumes nothing.
use mathlib.Core.Path.{refl, sym, ◌∙◌}
use native.Mathlib.Omega.{arith}
use Rattle.frame.proofs.OverFacts.{offered-room, offered-none}
use Rattle.sweeping.proofs.PointFacts.{frames-length}
use Rattle.sweeping.proofs.sweep.offer_frames.Goals as goal
use Rattle.sweeping.proofs.sweep.offer_frames.Goals.{then-needed-out, else-needed-out}

pub returns : goal.returns
returns c =
    let a = c.args in (
      refl,
      elim c.if-needed-out.branch [
        | then-needed-out w ↦ w.out-is ∙ w.write_frames.ensures ∙ sym (offered-room _ a.out.now (omega (arith, frames-length a.r a.r.steps, w.if-needed-out.true)))
        | else-needed-out w ↦ w.out-is ∙ sym (offered-none _ a.out.now (omega (arith, frames-length a.r a.r.steps, w.if-needed-out.false)))
      ],
    )
