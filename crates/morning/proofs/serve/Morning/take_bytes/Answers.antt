-- `morning::serve::Morning::take_bytes` meets its contract: a line, or what there is of one. Assumes nothing.
use Rattle.morning.proofs.PassedFacts.{passed-bytes}
use Rattle.morning.proofs.serve.Morning.take_bytes.Goals as goal

pub returns : goal.returns
returns c = let t = c.take-piece.ensures in (t.0, t.1, passed-bytes _ _ _ _ _ _ _ _ _ t.3 c.settle.ensures.0, c.settle.ensures.1)
