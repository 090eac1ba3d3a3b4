-- `sweep::serve::Sweeper::close` meets its contract: the last line as if its newline had come. Assumes nothing.
use mathlib.Core.Path.{◌≡◌, refl, sym, ◌∙◌}
use mathlib.Core.Logic.{inl, inr}
use Prim.Native.Nat.{ℕ}
use native.Mathlib.Omega.{arith}
use borrow.Author.Tests.{eqb-true, eqb-false}
use lib.ListN.{length}
use Rattle.splitting.proofs.StateFacts.{not-over}
use Rattle.sweep.proofs.ChunkFacts.{ends-without, ends_with}
use Rattle.sweep.proofs.serve.Sweeper.close.Goals as goal

pub returns-then-is_empty : goal.returns-then-is_empty
returns-then-is_empty c =
    let l = c.args.self.now.line in
    inl (ends-without l c.args.self.now.turn _ (eqb-true (length l) 0 (sym c.is_empty.ensures ∙ c.if-is_empty.true)) refl)

pub returns-then-not-is_over : goal.returns-then-not-is_over
returns-then-not-is_over c =
    let l = c.args.self.now.line in
    let n : length l ≡ 0 → ⊥ = eqb-false (length l) 0 (sym c.is_empty.ensures ∙ c.if-is_empty.false) in
    let g = not-over _ (sym c.is_over.ensures ∙ c.if-not-is_over.true) in
    elim (rw c.held.ensures.bytes at c.answer-self.ensures) [
      | inl p ↦ inl (ends_with l c.args.self.now.turn _ c.answer-self.result (omega arith) p refl)
      | inr e ↦ absurd (let z : ◌≡◌ {A = ℕ} 0 1 = cc in omega arith)
    ]
