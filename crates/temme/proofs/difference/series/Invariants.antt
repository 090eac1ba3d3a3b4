use mathlib.Core.Path.{◌≡◌}
use mathlib.Core.Bool.{Bool, false}
use Prim.Native.Nat.{ℕ}
use Rattle.temme.specs.declared.difference.Partial.{Partial}
use Rattle.temme.specs.Difference.{with_term, series_of}
use Rattle.temme.proofs.Counted.{left}
use Rattle.temme.proofs.difference.series.Given as goal

abbrev pub done : Partial → Bool
done s = s.done

abbrev pub count : Partial → ℕ
count s = s.count

abbrev pub invariant-loop-coefficient : goal.invariant-loop-coefficient
invariant-loop-coefficient l = record {
  counted : l.s.count ≡ l.coefficient-index;
  going : l.s.done ≡ false;
  rest : series_of l.square ≡ left done (with_term l.square) count 8 l.s;
}
