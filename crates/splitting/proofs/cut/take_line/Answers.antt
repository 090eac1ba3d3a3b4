-- `splitting::cut::take_line` meets its contract: byte by byte, as far as a newline or the chunk's end. Assumes nothing.
use mathlib.Core.Path.{refl, ap, ◌∙◌, subst}
use mathlib.Core.List.{[], ◌∷◌, ◌++◌}
use Prim.Native.Nat.{ℕ}
use native.Mathlib.Omega.{arith}
use lib.Dec.{T}
use lib.ListN.{take, get_or}
use Rattle.splitting.proofs.KeepFacts.{taking_none, line-ended, byte-kept, taking-all}
use Rattle.splitting.proofs.cut.take_line.Goals as goal

pub loop-at-init : goal.loop-at-init
loop-at-init c = (refl, c.requires.1, taking_none _ _ _ _)

pub returns-then-b-eq-NEWLINE : goal.returns-then-b-eq-NEWLINE
returns-then-b-eq-NEWLINE c =
    let v = c.loop-at.invariant in
    (omega arith, omega arith, v.1, λ e. absurd (subst T e tt), line-ended _ _ _ _ _ _ v.2 c.loop-at.auto.at c.loop-at-test.true c.if-b-eq-NEWLINE.true)

pub loop-at-preserved : goal.loop-at-preserved
loop-at-preserved c =
    let i = c.loop-at in
    let v = i.invariant in
    let e = c.keep-kept.ensures.1 ∙ ap (λ (m : ℕ). take m (take i.kept i.line ++ (get_or c.args.chunk.now i.at 0 ∷ []))) v.0 in
    (omega arith, omega arith, byte-kept _ _ _ _ _ _ v.2 i.auto.at c.loop-at-test.true _ c.if-b-eq-NEWLINE.false e)

pub returns : goal.returns
returns c = let v = c.loop-at.invariant in (omega arith, omega arith, v.1, λ e. omega arith, taking-all _ v.2 (omega arith))
