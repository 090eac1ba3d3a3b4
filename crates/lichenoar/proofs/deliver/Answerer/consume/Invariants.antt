use mathlib.Core.Path.{◌≡◌}
use mathlib.Core.List.{List}
use Prim.Native.Nat.{ℕ, ◌-◌, ◌≤◌}
use lib.ListN.{length, take}
use Rattle.splitting.specs.declared.state.State.TheVariants.{Going}
use Rattle.answering.specs.Feed.{owed_of, kept_of}
use Rattle.lichenoar.specs.declared.turn.Turn.{Turn}
use Rattle.lichenoar.specs.Turn.{Adds}
use Rattle.lichenoar.proofs.deliver.Answerer.consume.Given as goal

pub record Consumed (chunk h : List ℕ) (sent : ℕ) (line : List ℕ) (at : ℕ) (last : Turn) : Type 0 where
  pub high : at ≤ length chunk
  pub going : last.state ≡ Going
  pub holds : line ≡ kept_of h (take at chunk)
  pub adds : Adds sent (length (owed_of h (take at chunk))) last.sent

abbrev pub invariant-loop-at : goal.invariant-loop-at
invariant-loop-at l = Consumed l.chunk l.initial.self.buffers.line l.initial.self.turn.sent l.self.buffers.line l.at l.self.turn

abbrev pub decreases-loop-at : goal.decreases-loop-at
decreases-loop-at l = length l.chunk - l.at
