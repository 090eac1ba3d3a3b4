-- `lichenoar::lines::Buffers::advance` meets its contract: frame by frame or byte by byte, and at least one byte. Assumes nothing.
use mathlib.Core.Path.{sym, ap, ◌∙◌}
use native.Mathlib.Omega.{arith}
use Rattle.splitting.specs.Cut.{part_of}
use Rattle.answering.specs.Feed.{Feed, fed_of}
use Rattle.answering.proofs.FeedFacts.{fed-append}
use Rattle.splitting.proofs.KeepFacts.{part_none, part-more}
use Rattle.lichenoar.specs.Feeding.{feed_of}
use Rattle.lichenoar.proofs.lines.Buffers.advance.Goals as goal

pub loop-at-init : goal.loop-at-init
unfolding fed_of
loop-at-init c =
    let a = c.args in
    record {
      low = omega arith;
      high = omega (arith, c.requires);
      start = λ e. c.requires.1;
      is = sym (ap (fed_of (feed_of a.self.now)) (part_none a.chunk.now a.from));
    }

pub loop-at-preserved : goal.loop-at-preserved
loop-at-preserved c =
    let a = c.args in
    let v = c.loop-at.invariant in
    let e = c.take_some-at.ensures in
    let z = feed_of a.self.now in
    record {
      low = omega (arith, v.low, e.0);
      high = e.1;
      start = λ q. absurd (omega (arith, v.low, e.0));
      is =
          e.2
          ∙ ap (λ (x : Feed). fed_of x (part_of a.chunk.now c.loop-at.at c.take_some-at.result)) v.is
          ∙ fed-append z (part_of a.chunk.now a.from c.loop-at.at) (part_of a.chunk.now c.loop-at.at c.take_some-at.result)
          ∙ ap (fed_of z) (part-more a.chunk.now a.from c.loop-at.at c.take_some-at.result v.low (omega (arith, e.0)));
    }
