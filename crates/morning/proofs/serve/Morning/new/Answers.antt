-- `morning::serve::Morning::new` meets its contract: nothing read, and a page of zeros. Assumes nothing.
use mathlib.Core.List.{List}
use mathlib.Core.Path.{sym, subst}
use Prim.Native.Nat.{ℕ}
use Rattle.page.specs.Joining.{empty_page}
use Rattle.morning.specs.Turn.{Reached}
use Rattle.morning.proofs.ServeFacts.{reached-none}
use Rattle.morning.proofs.serve.Morning.new.Goals as goal

pub returns-clause-nothing : goal.returns-clause-nothing
returns-clause-nothing c = subst (λ (l : List ℕ). Reached l empty_page 0) (sym c.empty.ensures) reached-none
