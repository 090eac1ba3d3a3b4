use mathlib.Core.Path.{◌≡◌}
use Prim.Native.Nat.{◌+◌}
use Rattle.recurrence.specs.Search.{IsRuleOf, search_from}
use Rattle.recurrence.proofs.SearchFacts.{search_left}
use Rattle.recurrence.proofs.search.searched_by.Given as goal

abbrev pub invariant-loop-i : goal.invariant-loop-i
invariant-loop-i g l =
    (l.s.rungs + 1 ≡ l.fn.start.rungs + l.i)
    × IsRuleOf (goal.F-post g l.is_lowered) (λ rule. search_from rule l.fn.base_order l.fn.two_over_z l.count l.fn.start ≡ search_left rule l.fn.base_order l.fn.two_over_z l.count l.i l.s)
