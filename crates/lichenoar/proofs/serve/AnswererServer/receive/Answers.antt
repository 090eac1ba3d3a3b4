-- `lichenoar::serve::AnswererServer::receive` meets its contract: what the bytes come to. Assumes nothing.
use Rattle.lichenoar.proofs.ServeFacts.{taken-bytes, on-bytes}
use Rattle.lichenoar.proofs.serve.AnswererServer.receive.Goals as goal

pub returns-clause-read : goal.returns-clause-read
returns-clause-read c = λ n buffer room same. taken-bytes _ _ _ _ _ n buffer c.requires.1 room same c.consume.ensures

pub returns-clause-onward : goal.returns-clause-onward
returns-clause-onward c = λ before. on-bytes _ _ before _ _ _ c.consume.ensures
