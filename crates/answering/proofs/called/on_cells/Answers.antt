-- `answering::called::on_cells` meets its contract: the outcome's record and cells are what is written. Assumes nothing.
use mathlib.Core.Path.{ap, ◌∙◌}
use mathlib.Core.List.{List}
use Prim.Native.Nat.{ℕ, ◌*◌}
use lib.ListN.{length}
use Rattle.frame.specs.Over.{offered}
use Rattle.answering.specs.Called.{called_of}
use Rattle.answering.proofs.LineFacts.{called-line}
use Rattle.answering.proofs.called.on_cells.Goals as goal

pub returns : goal.returns
returns c =
    let w = c in
    let d = w in
    let s = d in
    let a = s.args.asking in
    let p = s.requires.0 in
    let e =
    called-line (called_of a (a.count * 2)) _ _
    (d.call-answer.ensures.0 ∙ ap (λ (n : ℕ). (called_of a n).answer) p)
    (d.call-answer.ensures.1 ∙ ap (λ (n : ℕ). (called_of a n).cells) p) in
    (w.offer_answer.ensures.0 ∙ ap length e, w.offer_answer.ensures.1 ∙ ap (λ (l : List ℕ). offered l s.args.out.now) e)
