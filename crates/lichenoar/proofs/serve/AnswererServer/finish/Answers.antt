-- `lichenoar::serve::AnswererServer::finish` meets its contract: what the last line comes to. Assumes nothing.
use Rattle.lichenoar.proofs.ServeFacts.{taken-end, not-going-end, on-end}
use Rattle.lichenoar.proofs.serve.AnswererServer.finish.Goals as goal

pub returns-clause-read : goal.returns-clause-read
returns-clause-read c = λ buffer. taken-end _ _ _ _ buffer c.close.ensures

pub returns-clause-over : goal.returns-clause-over
returns-clause-over c = not-going-end _ _ _ c.close.ensures

pub returns-clause-onward : goal.returns-clause-onward
returns-clause-onward c = λ before. on-end _ _ before _ _ c.close.ensures (not-going-end _ _ _ c.close.ensures)
