-- `lichenoar::lines::Answers::close_line` meets its contract: the answer line behind what is written, and the newline behind it. Assumes nothing.
use mathlib.Core.Path.{ap, ◌∙◌}
use Prim.Native.Nat.{ℕ, ◌+◌}
use native.Mathlib.Omega.{arith}
use lib.ListN.{take}
use Rattle.answering.specs.Feed.{with_line, closed_of}
use Rattle.answering.proofs.LineFacts.{line-bound}
use Rattle.lichenoar.proofs.BufferFacts.{behind, room}
use Rattle.lichenoar.proofs.lines.Answers.close_line.Goals as goal

pub overflow_add-self-inside : goal.overflow_add-self-inside
overflow_add-self-inside c =
    let d = c.self.inside.bytes in
    let f = c.self.inside.filled in
    let r = room d f c.args.self.now c.self.view_is c.self.invariant c.self.told c.requires in
    let k = behind _ d c.answer_line-length.new.out f c.answer_line-length.result r (line-bound _) c.answer_line-length.ensures.0 c.answer_line-length.ensures.1 in
    omega (arith, k.most, c.self.invariant)

pub ended-self-inside-requires : goal.ended-self-inside-requires
ended-self-inside-requires c =
    let d = c.self.inside.bytes in
    let f = c.self.inside.filled in
    let r = room d f c.args.self.now c.self.view_is c.self.invariant c.self.told c.requires in
    let k = behind _ d c.answer_line-length.new.out f c.answer_line-length.result r (line-bound _) c.answer_line-length.ensures.0 c.answer_line-length.ensures.1 in
    omega (arith, k.most, k.long, r)

pub invariant_of-self : goal.invariant_of-self
invariant_of-self c =
    let d = c.self.inside.bytes in
    let f = c.self.inside.filled in
    let r = room d f c.args.self.now c.self.view_is c.self.invariant c.self.told c.requires in
    let k = behind _ d c.answer_line-length.new.out f c.answer_line-length.result r (line-bound _) c.answer_line-length.ensures.0 c.answer_line-length.ensures.1 in
    omega (arith, k.most, r, c.self.told, c.ended-self-inside.ensures.0)

pub returns : goal.returns
unfolding closed_of
returns c =
    let d = c.self.inside.bytes in
    let f = c.self.inside.filled in
    let r = room d f c.args.self.now c.self.view_is c.self.invariant c.self.told c.requires in
    let k = behind _ d c.answer_line-length.new.out f c.answer_line-length.result r (line-bound _) c.answer_line-length.ensures.0 c.answer_line-length.ensures.1 in
    let e = c.ended-self-inside in
    ap (λ (m : ℕ). take m e.new.bytes) e.ensures.0
    ∙ ap (take (f + c.answer_line-length.result + 1)) e.ensures.1
    ∙ k.closed
    ∙ ap (with_line _) c.self.view_is
