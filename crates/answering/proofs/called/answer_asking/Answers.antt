-- `answering::called::answer_asking` meets its contract: refused for its length, or called on cells of its own. Assumes nothing.
use mathlib.Core.Path.{sym, ap, ◌∙◌}
use mathlib.Core.List.{List}
use Prim.Native.Nat.{ℕ, ◌*◌}
use lib.ListN.{length}
use Rattle.frame.specs.Over.{offered}
use Rattle.frame.proofs.WriteFacts.{record-length}
use Rattle.answering.proofs.LengthRefused.{length-refused, too_many}
use Rattle.answering.proofs.called.answer_asking.Goals as goal

pub returns-then-asking-gt-LARGEST_COUNT : goal.returns-then-asking-gt-LARGEST_COUNT
returns-then-asking-gt-LARGEST_COUNT c =
    let r = c in
    let i = r in
    let s = i in
    let a = s.args.asking in
    let e = length-refused a (a.count * 2) (too_many a.count i.if-asking-gt-LARGEST_COUNT.true) in
    (r.refuse.ensures.0 ∙ sym (ap length e ∙ record-length _), r.refuse.ensures.1 ∙ ap (λ (l : List ℕ). offered l s.args.out.now) (sym e))
