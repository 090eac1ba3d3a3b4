-- `answering::line::answer_parsed` meets its contract: called, or refused as malformed. Assumes nothing.
use mathlib.Core.Path.{sym, ap, ◌∙◌}
use mathlib.Core.List.{List}
use Prim.Native.Nat.{ℕ}
use lib.ListN.{length}
use Rattle.refusal.specs.declared.refusal.Refusal.TheVariants as refusals
use Rattle.frame.specs.Over.{offered}
use Rattle.frame.proofs.WriteFacts.{record-length}
use Rattle.answering.specs.Line.{outcome_of}
use Rattle.answering.proofs.LengthRefused.{refused-line}
use Rattle.answering.proofs.line.answer_parsed.Goals as goal

pub returns-in-Some : goal.returns-in-Some
unfolding outcome_of
returns-in-Some c = let r = c in rw r.in-Some.is r.answer_asking.ensures

pub returns-in-None : goal.returns-in-None
unfolding outcome_of
returns-in-None c =
    let r = c in
    let g = r in
    let out = g.args.out.now in
    let e = refused-line refusals.Malformed 0 in
    rw g.in-None.is (r.refuse.ensures.0 ∙ sym (ap length e ∙ record-length _), r.refuse.ensures.1 ∙ ap (λ (l : List ℕ). offered l out) (sym e))
