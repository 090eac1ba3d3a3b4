-- `answering::line::answer_line` meets its contract: by what was parsed. Assumes nothing.
use mathlib.Core.Path.{ap, ◌∙◌}
use mathlib.Core.List.{List}
use Prim.Native.Nat.{ℕ}
use lib.ListN.{length}
use Rattle.frame.specs.Over.{offered}
use Rattle.answering.specs.Line.{answer_line_of, parsed_line}
use Rattle.answering.proofs.line.answer_line.Goals as goal

pub returns : goal.returns
unfolding answer_line_of
returns c =
    let r = c in
    let p = r in
    let s = p in
    let e = ap parsed_line p.parse.ensures in
    (r.answer_parsed.ensures.0 ∙ ap length e, r.answer_parsed.ensures.1 ∙ ap (λ (l : List ℕ). offered l s.args.out.now) e)
