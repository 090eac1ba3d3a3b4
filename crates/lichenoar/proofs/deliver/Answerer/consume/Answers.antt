-- `lichenoar::deliver::Answerer::consume` meets its contract: part after part of the chunk, each with its answers handed on. Assumes nothing.
use mathlib.Core.Path.{◌≡◌, refl, ap, ◌∙◌}
use mathlib.Core.Logic.{inl}
use mathlib.Core.List.{List}
use Prim.Native.Nat.{ℕ, ◌+◌}
use native.Mathlib.Nat.{le_of_lt}
use native.Mathlib.Omega.{arith}
use lib.ListN.{length, take}
use lib.Seq.{take_all}
use Rattle.splitting.specs.Cut.{part_of}
use Rattle.answering.specs.Feed.{fed_of, owed_of, kept_of}
use Rattle.lichenoar.specs.Turn.{tallied}
use Rattle.lichenoar.proofs.TurnFacts.{adds_none, kept_next, adds-next}
use Rattle.lichenoar.proofs.deliver.Answerer.consume.Goals as goal

pub loop-at-init : goal.loop-at-init
unfolding owed_of kept_of fed_of
loop-at-init c = record { high = omega arith; going = c.requires; holds = refl; adds = adds_none c.args.self.now.turn.sent }

pub loop-at-preserved : goal.loop-at-preserved
loop-at-preserved c =
    let d = c.in-Some.ensures in
    let v = c.loop-at.invariant in
    let s = c.args.self.now in
    let chunk = c.args.chunk.now in
    let last = c.loop-at.self in
    record {
      high = d.high;
      going = d.same ∙ v.going;
      holds = d.holds ∙ kept_next chunk s.buffers.line last.buffers.line c.loop-at.at c.in-Some.next (le_of_lt d.low) v.holds;
      adds =
          adds-next chunk s.buffers.line last.buffers.line c.loop-at.at c.in-Some.next (le_of_lt d.low) v.holds s.turn.sent last.turn.sent c.deliver.new.self.turn.sent
          (length (owed_of last.buffers.line (part_of chunk c.loop-at.at c.in-Some.next)))
          v.adds
          refl
          d.sent;
    }

pub returns : goal.returns
returns c =
    let l = c.loop-at in
    let v = l.invariant in
    let h = c.args.self.now.buffers.line in
    let all : take l.at c.args.chunk.now ≡ c.args.chunk.now = take_all l.at c.args.chunk.now c.loop-at-test.false in
    inl (record {
      going = v.going;
      holds = v.holds ∙ ap (kept_of h) all;
      adds = v.adds ∙ ap (λ (x : List ℕ). tallied (c.args.self.now.turn.sent + length (owed_of h x))) all;
    })
