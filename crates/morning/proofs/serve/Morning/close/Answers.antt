-- `morning::serve::Morning::close` meets its contract: the last line as if its newline had come. Assumes nothing.
use mathlib.Core.Path.{◌≡◌, refl, sym, ◌∙◌}
use native.Mathlib.Omega.{arith}
use borrow.Author.Tests.{eqb-true, eqb-false}
use lib.ListN.{length}
use Rattle.morning.proofs.PassedFacts.{no-last-line, last_line, line-added, line_tallied}
use Rattle.morning.proofs.serve.Morning.close.Goals as goal

pub returns-then-not-is_empty : goal.returns-then-not-is_empty
returns-then-not-is_empty c =
    let s = c.args.self.now in
    let n : length s.line ≡ 0 → ⊥ = eqb-false (length s.line) 0 (sym c.is_empty.ensures ∙ c.if-not-is_empty.true) in
    record {
      ended = refl;
      grown =
          last_line s.line s.page s.turn.refused _ _ (omega arith) (line-added _ _ _ _ c.held.ensures.bytes c.add_line.ensures.1)
          (line_tallied s.page _ _ _ _ _ c.held.ensures.bytes c.add_line.ensures.0 c.tally-self.ensures);
    }

pub returns-else-not-is_empty : goal.returns-else-not-is_empty
returns-else-not-is_empty c =
    let s = c.args.self.now in
    record { ended = refl; grown = no-last-line s.line s.page s.turn.refused (eqb-true (length s.line) 0 (sym c.is_empty.ensures ∙ c.if-not-is_empty.false)) }
