use mathlib.Core.Path.{◌≡◌}
use Prim.Native.Nat.{◌≤◌}
use lib.ListN.{length, take}
use Rattle.splitting.proofs.KeepFacts.{Taking}
use Rattle.splitting.proofs.cut.take_line.Given as goal

abbrev pub invariant-loop-at : goal.invariant-loop-at
invariant-loop-at l =
    (length l.line ≡ length l.initial.line)
    × (l.kept ≤ length l.initial.line)
    × Taking l.chunk l.from (length l.initial.line) (take l.held l.initial.line) (take l.kept l.line) l.at
