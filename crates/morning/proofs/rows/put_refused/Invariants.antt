use mathlib.Core.Path.{◌≡◌}
use mathlib.Core.List.{◌++◌}
use Prim.Native.Nat.{◌+◌, ◌*◌, ◌≤◌}
use lib.ListN.{length}
use Rattle.morning.specs.Rows.{refused_rows}
use Rattle.morning.proofs.rows.put_refused.Given as goal

abbrev pub invariant-loop-k : goal.invariant-loop-k
invariant-loop-k l = record { long : length l.text ≤ length l.initial.text + 73 * l.k; rows : l.text ≡ l.initial.text ++ refused_rows l.k l.page }
