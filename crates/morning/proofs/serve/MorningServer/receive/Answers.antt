-- `morning::serve::MorningServer::receive` meets its contract: what the bytes come to. Assumes nothing.
use Rattle.morning.proofs.ServeFacts.{taken-bytes, on-bytes}
use Rattle.morning.proofs.serve.MorningServer.receive.Goals as goal

pub returns-clause-read : goal.returns-clause-read
returns-clause-read c = λ n buffer room same. taken-bytes _ _ _ _ _ _ _ n buffer c.requires.1 room same c.consume.ensures

pub returns-clause-onward : goal.returns-clause-onward
returns-clause-onward c = λ before. on-bytes _ _ _ before _ _ _ _ c.consume.ensures
