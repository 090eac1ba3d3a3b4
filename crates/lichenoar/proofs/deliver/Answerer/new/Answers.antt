-- `lichenoar::deliver::Answerer::new` meets its contract: nothing read, nothing handed on. Assumes nothing.
use mathlib.Core.List.{List}
use mathlib.Core.Path.{sym, subst}
use Prim.Native.Nat.{ℕ}
use Rattle.lichenoar.specs.Turn.{Reached}
use Rattle.lichenoar.proofs.ServeFacts.{reached-none}
use Rattle.lichenoar.proofs.deliver.Answerer.new.Goals as goal

pub returns-clause-nothing : goal.returns-clause-nothing
returns-clause-nothing c = subst (λ (l : List ℕ). Reached l 0) (sym c.empty.ensures) reached-none
