use mathlib.Core.Path.{◌≡◌}
use Prim.Native.Nat.{◌*◌, ◌^◌, ◌<◌}
use lib.ListN.{drop}
use Rattle.frame.specs.Digits.{number_from}
use Rattle.frame.proofs.digits.number.Given as goal

abbrev pub invariant-loop-c : goal.invariant-loop-c
invariant-loop-c l = (l.n < 2 ^ (4 * l.c-index)) × (number_from 0 l.digits ≡ number_from l.n (drop l.c-index l.digits))
