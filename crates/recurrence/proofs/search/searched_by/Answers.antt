-- `recurrence::search::searched_by` meets its contract: what is left to search, from where the search stands, is the whole search. Assumes nothing.
use mathlib.Core.Path.{sym, ap, ◌∙◌}
use Prim.Native.Nat.{◌+◌}
use native.Mathlib.Omega.{arith}
use Rattle.recurrence.proofs.SearchFacts.{search_left, search-start, search-next, search-found, search-end}
use Rattle.recurrence.proofs.search.searched_by.Goals as goal

pub loop-i-init : goal.loop-i-init
loop-i-init g c = (omega arith, λ rule k. search-start rule _ _ _ _)

pub returns-then-is_found : goal.returns-then-is_found
returns-then-is_found g c = λ rule k. sym (c.loop-i.invariant.1 rule k ∙ search-found rule _ _ _ c.loop-i.i c.loop-i.s (sym c.is_found.ensures ∙ c.if-is_found.true))

pub loop-i-preserved : goal.loop-i-preserved
loop-i-preserved g c =
    let e = c.search_step-s.ensures.1 in (
      omega arith,
      λ rule k. c.loop-i.invariant.1 rule k ∙ search-next rule _ _ _ c.loop-i.i c.loop-i.s (omega arith) (sym c.is_found.ensures ∙ c.if-is_found.false) ∙ ap (search_left rule _ _ _ _) (sym (c.search_step-s.ensures.0 rule k)),
    )

pub returns : goal.returns
returns g c = λ rule k. sym (c.loop-i.invariant.1 rule k ∙ search-end rule _ _ _ c.loop-i.i c.loop-i.s (omega arith))

pub returns-else-is_found : goal.returns-else-is_found
returns-else-is_found g c =
    λ rule k. sym (
    c.loop-i.invariant.1 rule k
    ∙ search-next rule _ _ _ c.loop-i.i c.loop-i.s (omega arith) (sym c.is_found.ensures ∙ c.if-is_found.false)
    ∙ ap (search_left rule _ _ _ _) (sym (c.search_step-s.ensures.0 rule k))
    ∙ search-end rule _ _ _ (c.loop-i.i + 1) c.search_step-s.result (omega arith)
    )
