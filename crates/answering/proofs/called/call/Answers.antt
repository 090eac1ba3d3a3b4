-- `answering::called::call` meets its contract, kind by kind. Assumes nothing.
use Rattle.answering.specs.Called.{called_as, called_of}
use Rattle.answering.proofs.called.call.Goals as goal

pub returns-in-K : goal.returns-in-K
unfolding called_as called_of
returns-in-K c = let k = c in rw k.in-K.is k.k.ensures

pub returns-in-I : goal.returns-in-I
unfolding called_as called_of
returns-in-I c = let i = c in rw i.in-I.is i.i.ensures
