use mathlib.Core.Path.{◌≡◌}
use mathlib.Core.List.{◌++◌}
use Prim.Native.Nat.{◌+◌, ◌*◌, ◌≤◌}
use lib.ListN.{length}
use Rattle.morning.specs.Rows.{longest_rows}
use Rattle.morning.proofs.rows.put_longest.Given as goal

abbrev pub invariant-loop-l : goal.invariant-loop-l
invariant-loop-l l = record { long : length l.text ≤ length l.initial.text + 73 * l.l; rows : l.text ≡ l.initial.text ++ longest_rows l.l l.page }
