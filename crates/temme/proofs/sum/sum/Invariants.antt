use mathlib.Core.Path.{◌≡◌}
use Prim.Native.Nat.{ℕ}
use Rattle.temme.specs.declared.sum.Terms.{Terms}
use Rattle.temme.specs.Sum.{next_terms, is_summed, sum_of}
use Rattle.temme.proofs.Counted.{left}
use Rattle.temme.proofs.sum.sum.Given as goal

abbrev pub count : Terms → ℕ
count s = s.terms

abbrev pub invariant-loop : goal.invariant-loop
invariant-loop l = record {
  counted : l.s.terms ≡ l.counter;
  rest : sum_of l.g l.initial.s ≡ left is_summed (next_terms l.g) count 999 l.s;
}
