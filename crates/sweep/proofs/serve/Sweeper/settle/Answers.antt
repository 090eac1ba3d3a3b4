-- `sweep::serve::Sweeper::settle` meets its contract: answered, or held. Assumes nothing.
use mathlib.Core.List.{List}
use mathlib.Core.Path.{subst}
use Prim.Native.Nat.{ℕ}
use Rattle.sweep.specs.Turn.{AfterLine}
use Rattle.sweep.proofs.ChunkFacts.{settled-ended, settled-held}
use Rattle.sweep.proofs.serve.Sweeper.settle.Goals as goal

pub returns-then-ended : goal.returns-then-ended
returns-then-ended c =
    let t = c.args.self.now.turn in
    settled-ended c.args.self.now.line t c.args.ended _ _ c.if-ended.true
    (subst (λ (l : List ℕ). AfterLine l t c.answer-self.result) c.held.ensures.bytes c.answer-self.ensures)
    c.clear.ensures

pub returns-else-ended : goal.returns-else-ended
returns-else-ended c = settled-held _ _ c.args.ended c.if-ended.false c.requires
