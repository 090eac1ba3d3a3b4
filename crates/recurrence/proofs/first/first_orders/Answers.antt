-- `recurrence::first::first_orders` meets its contract: by the number of orders, else by the search. Assumes nothing.
use native.Mathlib.Omega.{arith}
use borrow.Author.Tests.{lt-ltb, le-ltb}
use Rattle.recurrence.specs.First.{start_of, first_orders}
use Rattle.recurrence.proofs.first.first_orders.Goals as goal

pub returns-then-n-lt2 : goal.returns-then-n-lt2
unfolding first_orders
returns-then-n-lt2 c = rw (c.ended.ensures, lt-ltb _ _ c.if-n-lt2.true, c.first_trial-before.ensures)

pub search_from-requires : goal.search_from-requires
search_from-requires c = rw c.search_at-start.ensures (omega arith)

pub returns : goal.returns
unfolding first_orders start_of
returns c =
    let d = c in
    let e = d in
    rw
    (c.settled.ensures, c.search_from.ensures, d.search_at-start.ensures, d.first_trial-latest.ensures, e.first_trial-before.ensures, le-ltb _ _ e.if-n-lt2.false)
