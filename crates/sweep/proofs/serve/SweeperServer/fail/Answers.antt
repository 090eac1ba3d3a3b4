-- `sweep::serve::SweeperServer::fail` meets its contract: nothing more is answered. Assumes nothing.
use mathlib.Core.Path.{refl}
use Rattle.sweep.proofs.ServeFacts.{taken-failed, fails, on-failure}
use Rattle.sweep.proofs.serve.SweeperServer.fail.Goals as goal

pub returns-clause-read : goal.returns-clause-read
returns-clause-read c = λ k buffer. taken-failed _ _ _ _ k buffer (fails c.args.self.now.turn _ refl)

pub returns-clause-onward : goal.returns-clause-onward
returns-clause-onward c = λ before. on-failure _ _ before _ _ (fails c.args.self.now.turn _ refl)
