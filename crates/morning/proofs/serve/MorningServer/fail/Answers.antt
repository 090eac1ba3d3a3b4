-- `morning::serve::MorningServer::fail` meets its contract: nothing is said of the lines before. Assumes nothing.
use mathlib.Core.Path.{refl}
use Rattle.morning.proofs.ServeFacts.{taken-failed}
use Rattle.morning.proofs.serve.MorningServer.fail.Goals as goal

pub returns-clause-read : goal.returns-clause-read
returns-clause-read c = λ k buffer. taken-failed _ _ _ _ _ _ k buffer refl
