-- `lichenoar::lines::Buffers::take_some` meets its contract: a frame closed where it stands, or a byte. Assumes nothing.
use mathlib.Core.Path.{sym, ap, ◌∙◌}
use Prim.Native.Nat.{◌+◌, ◌-◌}
use native.Mathlib.Omega.{arith}
use borrow.Author.Tests.{eqb-true}
use lib.ListN.{length}
use Rattle.std.specs.Prelude.{Option}
use Rattle.frame.specs.declared.asking.Asking.{Asking}
use Rattle.answering.specs.Line.{parsed_line}
use Rattle.answering.specs.Feed.{with_line}
use Rattle.lichenoar.specs.Feeding.{feed_of}
use Rattle.lichenoar.proofs.FrameFacts.{ahead, frame-taken, byte-taken}
use Rattle.lichenoar.proofs.lines.Buffers.take_some.Goals as goal

pub returns-in-Some : goal.returns-in-Some
returns-in-Some c =
    let p = c.args in
    let s = p.self.now in
    let a = ahead p.chunk.now p.at _ (sym c.frame_ahead.ensures ∙ c.in-Some.is) in (
      omega arith,
      omega (arith, a.0.room),
      frame-taken p.chunk.now s.line s.out _ p.at (p.at + 57 - p.at) _ a.0 a.1 (eqb-true (length s.line) 0 (sym c.is_empty.ensures ∙ c.if-is_empty.true)) (omega arith)
          (c.close.ensures ∙ ap (λ (q : Option Asking). with_line (parsed_line q) s.out) c.asked.ensures),
    )

pub returns : goal.returns
returns c =
    let p = c.args in (
      omega arith,
      omega (arith, c.requires.0),
      c.take_byte.ensures ∙ byte-taken p.chunk.now (feed_of p.self.now) p.at (p.at + 1 - p.at) c.requires.0 (omega arith),
    )
