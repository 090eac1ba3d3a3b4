use mathlib.Core.Path.{◌≡◌}
use mathlib.Core.List.{List, []}
use Prim.Native.Nat.{ℕ, ◌-◌, ◌≤◌}
use lib.ListN.{length}
use Rattle.splitting.specs.Cut.{part_of}
use Rattle.answering.specs.Feed.{Feed, fed_of}
use Rattle.lichenoar.specs.declared.lines.Buffers.{Buffers}
use Rattle.lichenoar.specs.Feeding.{feed_of}
use Rattle.lichenoar.proofs.lines.Buffers.advance.Given as goal

-- nothing is written at the start, so that there is room and a byte is taken
pub record Advanced (chunk : List ℕ) (from : ℕ) (s : Feed) (b : Buffers) (at : ℕ) : Type 0 where
  pub low : from ≤ at
  pub high : at ≤ length chunk
  pub start : at ≡ from → b.out ≡ []
  pub is : feed_of b ≡ fed_of s (part_of chunk from at)

abbrev pub invariant-loop-at : goal.invariant-loop-at
invariant-loop-at l = Advanced l.chunk l.from (feed_of l.initial.self) l.self l.at

abbrev pub decreases-loop-at : goal.decreases-loop-at
decreases-loop-at l = length l.chunk - l.at
