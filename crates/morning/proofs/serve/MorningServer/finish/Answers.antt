-- `morning::serve::MorningServer::finish` meets its contract: what the last line comes to. Assumes nothing.
use Rattle.morning.proofs.ServeFacts.{taken-end, on-end}
use Rattle.morning.proofs.serve.MorningServer.finish.Goals as goal

pub returns-clause-read : goal.returns-clause-read
returns-clause-read c = λ buffer. taken-end _ _ _ _ _ _ buffer c.close.ensures

pub returns-clause-onward : goal.returns-clause-onward
returns-clause-onward c = λ before. on-end _ _ _ before _ _ _ c.close.ensures
