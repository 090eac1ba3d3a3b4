use mathlib.Core.Path.{◌≡◌}
use Prim.Native.Nat.{◌*◌, ◌%◌, ◌^◌}
use Rattle.circular.proofs.remainder.doubled_rest.Given as goal

abbrev pub invariant-loop : goal.invariant-loop
invariant-loop l = l.r ≡ (l.m * 2 ^ l.counter) % l.n
