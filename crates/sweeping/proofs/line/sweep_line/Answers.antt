-- `sweeping::line::sweep_line` meets its contract: a request swept, and anything else refused by 9. Assumes nothing.
use mathlib.Core.Path.{sym, ap, ◌∙◌}
use mathlib.Core.List.{List}
use Prim.Native.Nat.{ℕ}
use Rattle.frame.specs.Over.{offered}
use Rattle.sweeping.specs.Line.{swept_by, frames_in, line_swept, line_bytes}
use Rattle.sweeping.proofs.SweepFacts.{offered-nothing}
use Rattle.sweeping.proofs.line.sweep_line.Goals as goal

pub returns-in-Some : goal.returns-in-Some
unfolding line_swept line_bytes swept_by frames_in
returns-in-Some c =
    let read = sym c.in-Some.is ∙ c.read_request.ensures in
    let bytes = ap frames_in read in
    (c.sweep.ensures.0 ∙ ap swept_by read, c.sweep.ensures.1 ∙ ap (λ (l : List ℕ). offered l c.args.out.now) bytes)

pub returns-in-None : goal.returns-in-None
unfolding line_swept line_bytes swept_by frames_in
returns-in-None c =
    let read = sym c.in-None.is ∙ c.read_request.ensures in
    let bytes = ap frames_in read in
    (ap swept_by read, offered-nothing c.args.out.now ∙ ap (λ (l : List ℕ). offered l c.args.out.now) bytes)
