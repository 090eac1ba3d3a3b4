-- `lichenoar::lines::Answers::close` meets its contract: the answer line behind what is written, and the newline behind it. Assumes nothing.
use mathlib.Core.Path.{ap, ◌∙◌}
use Prim.Native.Nat.{ℕ, ◌+◌}
use native.Mathlib.Omega.{arith}
use lib.ListN.{take}
use Rattle.answering.specs.Line.{parsed_line}
use Rattle.answering.specs.Feed.{with_line}
use Rattle.answering.proofs.LineFacts.{parsed-bound}
use Rattle.lichenoar.proofs.BufferFacts.{behind, room}
use Rattle.lichenoar.proofs.lines.Answers.close.Goals as goal

pub overflow_add-self-inside : goal.overflow_add-self-inside
overflow_add-self-inside c =
    let d = c.self.inside.bytes in
    let f = c.self.inside.filled in
    let r = room d f c.args.self.now c.self.view_is c.self.invariant c.self.told c.requires in
    let k = behind (parsed_line c.args.parsed) d c.answer_parsed-n.new.out f c.answer_parsed-n.result r (parsed-bound c.args.parsed) c.answer_parsed-n.ensures.0 c.answer_parsed-n.ensures.1 in
    omega (arith, k.most, c.self.invariant)

pub ended-self-inside-requires : goal.ended-self-inside-requires
ended-self-inside-requires c =
    let d = c.self.inside.bytes in
    let f = c.self.inside.filled in
    let r = room d f c.args.self.now c.self.view_is c.self.invariant c.self.told c.requires in
    let k = behind (parsed_line c.args.parsed) d c.answer_parsed-n.new.out f c.answer_parsed-n.result r (parsed-bound c.args.parsed) c.answer_parsed-n.ensures.0 c.answer_parsed-n.ensures.1 in
    omega (arith, k.most, k.long, r)

pub invariant_of-self : goal.invariant_of-self
invariant_of-self c =
    let d = c.self.inside.bytes in
    let f = c.self.inside.filled in
    let r = room d f c.args.self.now c.self.view_is c.self.invariant c.self.told c.requires in
    let k = behind (parsed_line c.args.parsed) d c.answer_parsed-n.new.out f c.answer_parsed-n.result r (parsed-bound c.args.parsed) c.answer_parsed-n.ensures.0 c.answer_parsed-n.ensures.1 in
    omega (arith, k.most, r, c.self.told, c.ended-self-inside.ensures.0)

pub returns : goal.returns
returns c =
    let d = c.self.inside.bytes in
    let f = c.self.inside.filled in
    let r = room d f c.args.self.now c.self.view_is c.self.invariant c.self.told c.requires in
    let k = behind (parsed_line c.args.parsed) d c.answer_parsed-n.new.out f c.answer_parsed-n.result r (parsed-bound c.args.parsed) c.answer_parsed-n.ensures.0 c.answer_parsed-n.ensures.1 in
    let e = c.ended-self-inside in
    ap (λ (m : ℕ). take m e.new.bytes) e.ensures.0
    ∙ ap (take (f + c.answer_parsed-n.result + 1)) e.ensures.1
    ∙ k.closed
    ∙ ap (with_line (parsed_line c.args.parsed)) c.self.view_is
