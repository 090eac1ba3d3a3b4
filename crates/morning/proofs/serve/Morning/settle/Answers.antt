-- `morning::serve::Morning::settle` meets its contract: counted, or held. Assumes nothing.
use mathlib.Core.Path.{refl}
use Rattle.morning.proofs.PassedFacts.{settled-ended, settled-held, line-added, line_tallied}
use Rattle.morning.proofs.serve.Morning.settle.Goals as goal

pub returns-then-ended : goal.returns-then-ended
returns-then-ended c =
    let s = c.args.self.now in (
      settled-ended s.line s.page s.turn.refused c.args.ended _ _ _ c.if-ended.true (line-added _ _ _ _ c.held.ensures.bytes c.add_line.ensures.1)
          (line_tallied s.page _ _ _ _ _ c.held.ensures.bytes c.add_line.ensures.0 c.tally-self.ensures)
          c.clear.ensures,
      refl,
    )

pub returns-else-ended : goal.returns-else-ended
returns-else-ended c = let s = c.args.self.now in (settled-held s.line s.page s.turn.refused c.args.ended c.if-ended.false, refl)
