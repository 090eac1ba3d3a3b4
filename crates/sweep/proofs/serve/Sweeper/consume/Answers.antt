-- `sweep::serve::Sweeper::consume` meets its contract: line after line of the chunk. Assumes nothing.
use mathlib.Core.Path.{◌≡◌, sym, ◌∙◌}
use mathlib.Core.Logic.{inl, inr}
use Prim.Native.Nat.{ℕ}
use native.Mathlib.Omega.{arith}
use Rattle.splitting.proofs.StateFacts.{not-over}
use Rattle.sweep.proofs.ChunkFacts.{consumed-none, consumed-next}
use Rattle.sweep.proofs.serve.Sweeper.consume.Goals as goal

pub loop-at-init : goal.loop-at-init
loop-at-init c = consumed-none _ _ _ c.requires

pub loop-at-preserved : goal.loop-at-preserved
loop-at-preserved c =
    let e = c.take-piece.ensures in
    let g = not-over _ (sym c.is_over.ensures ∙ c.if-is_over.false) in
    elim c.settle.ensures [
      | inl w ↦ consumed-next c.loop-at.invariant _ _ _ _ _ e.0 e.1 e.3 w
      | inr z ↦ absurd (let q : ◌≡◌ {A = ℕ} 0 1 = cc in omega arith)
    ]
