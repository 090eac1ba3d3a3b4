-- `splitting::cut::keep` meets its contract: kept where there is room, dropped where there is none. Assumes nothing.
use native.Mathlib.Omega.{arith}
use Rattle.splitting.proofs.KeepFacts.{keeps, drops}
use Rattle.splitting.proofs.cut.keep.Goals as goal

pub returns-then-held-line : goal.returns-then-held-line
returns-then-held-line c = (omega arith, keeps c.args.line.now c.args.held c.args.b (omega (arith, c.if-held-line.true)))

pub returns : goal.returns
returns c = (c.requires, drops c.args.line.now c.args.held c.args.b (omega (arith, c.if-held-line.false)) c.requires)
