-- `answering::called::refuse` meets its contract: the refusal's record, where it fits. Assumes nothing.
use mathlib.Core.Path.{refl, sym, ◌∙◌}
use native.Mathlib.Omega.{arith}
use Rattle.call.specs.Answer.{refused_of}
use Rattle.frame.proofs.OverFacts.{offered-room, offered-none}
use Rattle.frame.proofs.WriteFacts.{record-length}
use Rattle.answering.proofs.called.refuse.Goals as goal

pub returns-then-out-lt-RECORD_LENGTH : goal.returns-then-out-lt-RECORD_LENGTH
returns-then-out-lt-RECORD_LENGTH c = let a = c.args in (refl, sym (offered-none _ _ (omega (arith, record-length (refused_of a.refusal)))))

pub returns : goal.returns
unfolding refused_of
returns c =
    let a = c.args in
    (refl, c.write_record.ensures ∙ sym (offered-room _ _ (omega (arith, record-length (refused_of a.refusal), c.if-out-lt-RECORD_LENGTH.false))))
