-- `frame::digits::are_digits` meets its contract: at each byte passed, what was found and what is left of the line decide. Assumes nothing.
use mathlib.Core.Path.{sym, ap, ◌∙◌}
use mathlib.Core.Bool.{Bool, ◌&&◌}
use Prim.Native.Nat.{◌+◌}
use lib.ListN.{drop}
use Rattle.frame.specs.Digits.{are_digits}
use Rattle.frame.proofs.DigitFacts.{digits-next, digits-end}
use Rattle.frame.proofs.digits.are_digits.Goals as goal

pub loop-c-preserved : goal.loop-c-preserved
loop-c-preserved c =
    let l = c.loop-c in
    let line = c.args.line.now in
    l.invariant
    ∙ digits-next line l.c-index l.all c.loop-c-test.true
    ∙ ap (λ (b : Bool). (l.all && b) && are_digits (drop (l.c-index + 1) line)) (sym c.is_digit-all.ensures)

pub returns : goal.returns
returns c = let l = c.loop-c in sym (l.invariant ∙ digits-end c.args.line.now l.c-index l.all c.loop-c-test.false)
