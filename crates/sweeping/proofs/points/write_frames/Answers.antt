-- `sweeping::points::write_frames` meets its contract: one frame behind the other, from the start on. Assumes nothing.
use mathlib.Core.Path.{◌≡◌, ap, ◌∙◌}
use Prim.Native.Nat.{ℕ}
use native.Mathlib.Omega.{arith}
use Rattle.frame.specs.Over.{over}
use Rattle.sweeping.specs.Points.{frames_up_to}
use Rattle.sweeping.proofs.PointFacts.{frames-none, frames-room, frames-next, fields-at, seam-over}
use Rattle.sweeping.proofs.points.write_frames.Goals as goal

pub loop-j-init : goal.loop-j-init
loop-j-init c = record { re = c.step-step_re.ensures; im = c.step-step_im.ensures; frames = frames-none _ _ }

pub write_asking-requires : goal.write_asking-requires
write_asking-requires c = let l = c.loop-j in omega (arith, frames-room c.args.r c.args.out.now l.out l.at l.j c.requires.2 c.loop-j-test.true l.invariant.frames)

pub overflow_add-out : goal.overflow_add-out
overflow_add-out c = let l = c.loop-j in omega (arith, frames-room c.args.r c.args.out.now l.out l.at l.j c.requires.2 c.loop-j-test.true l.invariant.frames, c.well_formed)

pub bounds-out-at : goal.bounds-out-at
bounds-out-at c =
    let l = c.loop-j in
    omega (arith, frames-room c.args.r c.args.out.now l.out l.at l.j c.requires.2 c.loop-j-test.true l.invariant.frames, c.write_asking.auto.out)

pub overflow_add-at : goal.overflow_add-at
overflow_add-at c = let l = c.loop-j in omega (arith, frames-room c.args.r c.args.out.now l.out l.at l.j c.requires.2 c.loop-j-test.true l.invariant.frames, c.well_formed)

pub loop-j-preserved : goal.loop-j-preserved
loop-j-preserved c =
    let l = c.loop-j in
    let v = l.invariant in
    record {
      re = v.re;
      im = v.im;
      frames =
          frames-next c.args.r c.args.out.now l.out _ l.at l.j c.fields_with.result c.requires.2 c.loop-j-test.true v.frames
          (fields-at c.args.r l.j _ _ _ _ _ v.re v.im c.part-re.ensures c.part-im.ensures c.fields_with.ensures)
          c.write_asking.ensures;
    }

pub returns : goal.returns
returns c =
    let l = c.loop-j in
    let a = c.args in
    let e : l.j ≡ a.r.steps = omega (arith, l.invariant.frames.below) in
    seam-over a.out.now (frames_up_to a.r l.j) l.out l.at l.invariant.frames.seam ∙ ap (λ (k : ℕ). over 0 (frames_up_to a.r k) a.out.now) e
