-- `lichenoar::serve::AnswererServer::fail` meets its contract: nothing more is answered. Assumes nothing.
use mathlib.Core.Path.{refl}
use Rattle.lichenoar.proofs.TurnFacts.{adds_none}
use Rattle.lichenoar.proofs.ServeFacts.{taken-failed, on-failure}
use Rattle.lichenoar.proofs.serve.AnswererServer.fail.Goals as goal

pub returns-clause-read : goal.returns-clause-read
returns-clause-read c = λ k buffer. taken-failed _ _ _ _ k buffer (record { failed = refl; adds = adds_none c.args.self.now.turn.sent })

pub returns-clause-onward : goal.returns-clause-onward
returns-clause-onward c = λ before. on-failure _ _ before _ _ (record { failed = refl; adds = adds_none c.args.self.now.turn.sent })
