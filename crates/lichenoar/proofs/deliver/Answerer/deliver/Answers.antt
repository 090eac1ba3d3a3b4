-- `lichenoar::deliver::Answerer::deliver` meets its contract: what is handed on is what the bytes taken complete. Assumes nothing.
use mathlib.Core.Path.{◌≡◌, refl, sym, ap, ◌∙◌}
use mathlib.Core.List.{List}
use Prim.Native.Nat.{ℕ, ◌+◌}
use native.Mathlib.Omega.{arith}
use lib.ListN.{length}
use Rattle.answering.specs.Feed.{owed_of}
use Rattle.splitting.specs.Cut.{part_of}
use Rattle.lichenoar.specs.declared.lines.Buffers.{Buffers}
use Rattle.lichenoar.specs.Turn.{tallied}
use Rattle.lichenoar.proofs.TurnFacts.{is-owed, is-kept}
use Rattle.lichenoar.proofs.deliver.Answerer.deliver.Goals as goal

pub send-written-requires : goal.send-written-requires
send-written-requires c =
    let bytes = part_of c.args.chunk.now c.args.from c.advance-at.result in
    let b : Buffers = record { line = c.args.self.now.buffers.line; out = c.clear.new.self } in
    c.written-answers.ensures
    ∙ is-owed b c.advance-at.new.self bytes c.advance-at.ensures.2 c.clear.ensures
    ∙ ap (λ (h : List ℕ). owed_of h bytes) (sym c.copied-before.ensures)

pub returns : goal.returns
returns c =
    let bytes = part_of c.args.chunk.now c.args.from c.advance-at.result in
    let b : Buffers = record { line = c.args.self.now.buffers.line; out = c.clear.new.self } in
    let e = c.advance-at.ensures in
    let all-taken : c.send-written.result ≡ length c.written-answers.result.now = omega (arith, c.send-written.ensures, c.if-written-answers.false) in
    record {
      low = e.0;
      high = e.1;
      same = refl;
      holds = is-kept b c.advance-at.new.self bytes e.2 c.clear.ensures;
      sent =
          c.tally-self.ensures
          ∙ ap (λ (n : ℕ). tallied (c.args.self.now.turn.sent + n))
          (all-taken ∙ ap length (c.written-answers.ensures ∙ is-owed b c.advance-at.new.self bytes e.2 c.clear.ensures));
    }
