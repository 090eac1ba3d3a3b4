-- `recurrence::rung::leaves` meets its contract, by cases on the state. Assumes nothing.
use mathlib.Core.Path.{sym, subst}
use lib.Dec.{T}
use lib.Ieee.{Float, binary64, of_bits, lt}
use Rattle.recurrence.specs.Rung.{passes}
use Rattle.recurrence.proofs.StateFacts.{boundary-positive}
use Rattle.recurrence.proofs.rung.leaves.Goals as goal

pub beyond-requires : goal.beyond-requires
beyond-requires c = subst (λ (b : Float). T (lt (of_bits binary64 0) b)) (sym c.boundary.ensures) (boundary-positive _)

pub beyond-requires-in-None : goal.beyond-requires-in-None
beyond-requires-in-None c = subst (λ (b : Float). T (lt (of_bits binary64 0) b)) (sym c.boundary-in-None.ensures) (boundary-positive _)

pub returns-in-NearUnder : goal.returns-in-NearUnder
unfolding passes
returns-in-NearUnder c = simp (c.beyond.ensures, c.boundary.ensures, c.in-NearUnder.is)

pub returns-in-None : goal.returns-in-None
unfolding passes
returns-in-None c = simp (c.beyond-in-None.ensures, c.boundary-in-None.ensures, c.in-None.is)

pub returns-in-NearOver : goal.returns-in-NearOver
unfolding passes
returns-in-NearOver c = simp c.in-NearOver.is
