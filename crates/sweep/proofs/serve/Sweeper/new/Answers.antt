-- `sweep::serve::Sweeper::new` meets its contract: nothing read, nothing counted. Assumes nothing.
use mathlib.Core.List.{List}
use mathlib.Core.Path.{sym, subst}
use Prim.Native.Nat.{ℕ}
use Rattle.sweep.specs.Turn.{start, Reached}
use Rattle.sweep.proofs.ServeFacts.{reached-none}
use Rattle.sweep.proofs.serve.Sweeper.new.Goals as goal

pub returns-clause-nothing : goal.returns-clause-nothing
returns-clause-nothing c = subst (λ (l : List ℕ). Reached l start) (sym c.empty.ensures) reached-none
