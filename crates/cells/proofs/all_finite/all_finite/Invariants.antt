use mathlib.Core.Path.{◌≡◌}
use mathlib.Core.Bool.{◌&&◌}
use Prim.Native.Nat.{◌*◌}
use lib.ListN.{drop}
use Rattle.cells.specs.AllFinite.{all_finite}
use Rattle.cells.proofs.NoughtFacts.{together, Noughts}
use Rattle.cells.proofs.all_finite.all_finite.Given as goal

abbrev pub invariant-loop-x : goal.invariant-loop-x
invariant-loop-x l =
    Noughts l.a l.b l.c l.d l.e l.f l.g l.h
    × (all_finite (drop l.fn.from l.fn.cells) ≡ (together l.a l.b l.c l.d l.e l.f l.g l.h && all_finite (drop (l.x-index * 8) (drop l.fn.from l.fn.cells))))
