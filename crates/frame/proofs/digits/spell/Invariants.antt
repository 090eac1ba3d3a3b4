use Rattle.frame.proofs.SpellFacts.{Spelling}
use Rattle.frame.proofs.digits.spell.Given as goal

abbrev pub invariant-loop-i : goal.invariant-loop-i
invariant-loop-i l = Spelling l.n l.width l.at l.initial.out l.out l.rest l.i
