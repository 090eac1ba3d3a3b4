-- `frame::writing::offer_line` meets its contract: by the room, which is compared with the line's length. Assumes nothing.
use mathlib.Core.Path.{sym, ◌∙◌}
use native.Mathlib.Omega.{arith}
use Rattle.frame.proofs.OverFacts.{offered-room, offered-none}
use Rattle.frame.proofs.writing.offer_line.Goals as goal

pub returns-then-out-needed : goal.returns-then-out-needed
returns-then-out-needed c = let n = c in (n.line_length-needed.ensures, sym (offered-none _ _ (omega arith)))

pub write_line-requires : goal.write_line-requires
write_line-requires c = omega arith

pub returns : goal.returns
returns c = let w = c in (w.write_line.ensures.0, w.write_line.ensures.1 ∙ sym (offered-room _ _ (omega arith)))
