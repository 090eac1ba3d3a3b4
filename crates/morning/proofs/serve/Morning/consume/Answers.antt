-- `morning::serve::Morning::consume` meets its contract: line after line of the chunk. Assumes nothing.
use native.Mathlib.Omega.{arith}
use Rattle.morning.proofs.PassedFacts.{passed_none, consumed-more, consumed-all}
use Rattle.morning.proofs.serve.Morning.consume.Goals as goal

pub loop-at-init : goal.loop-at-init
loop-at-init c = let s = c.args.self.now in record { high = omega arith; going = c.requires; passed = passed_none s.line s.page s.turn.refused }

pub loop-at-preserved : goal.loop-at-preserved
loop-at-preserved c = let e = c.take_some-at.ensures in consumed-more _ _ _ _ c.loop-at.invariant e.0 e.1 e.2 e.3

pub returns : goal.returns
returns c = consumed-all c.loop-at.invariant c.loop-at-test.false
