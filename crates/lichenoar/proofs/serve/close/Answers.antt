-- `lichenoar::serve::close` meets its contract: the last line as if its newline had come. Assumes nothing.
use mathlib.Core.Path.{◌≡◌, refl, sym, ap, ◌∙◌}
use mathlib.Core.Logic.{inl, inr}
use mathlib.Core.List.{List}
use Prim.Native.Nat.{ℕ, ◌+◌}
use native.Mathlib.Omega.{arith}
use borrow.Author.Tests.{eqb-true, eqb-false}
use lib.ListN.{length}
use Rattle.splitting.proofs.StateFacts.{not-over}
use Rattle.lichenoar.specs.Turn.{tallied}
use Rattle.lichenoar.proofs.TurnFacts.{none-owed, last-owed}
use Rattle.lichenoar.proofs.serve.close.Goals as goal

pub returns-then-is_empty : goal.returns-then-is_empty
returns-then-is_empty c =
    let s = c.args.answerer.now in
    inl (record { ended = refl; adds = none-owed s.buffers.line s.turn.sent (eqb-true (length s.buffers.line) 0 (sym c.is_empty.ensures ∙ c.if-is_empty.true)) })

pub returns-then-not-is_over : goal.returns-then-not-is_over
returns-then-not-is_over c =
    let s = c.args.answerer.now in
    let l = s.buffers.line in
    let n : length l ≡ 0 → ⊥ = eqb-false (length l) 0 (sym c.is_empty.ensures ∙ c.if-is_empty.false) in
    let g = not-over _ (sym c.is_over.ensures ∙ c.if-not-is_over.true) in
    elim c.consume.ensures [
      | inl p ↦ inl (record { ended = refl; adds = p.adds ∙ ap (λ (w : List ℕ). tallied (s.turn.sent + length w)) (last-owed l (omega arith)) })
      | inr e ↦ absurd (let z : ◌≡◌ {A = ℕ} 0 1 = cc in omega arith)
    ]
