-- `recurrence::search::search_from` meets its contract: each rule's function keeps to its rule. Assumes nothing.
use Rattle.recurrence.specs.Rule as rule
use Rattle.recurrence.proofs.search.search_from.Goals as goal

pub returns-in-FirstOrders : goal.returns-in-FirstOrders
returns-in-FirstOrders c = rw (c.searched_by.ensures rule.FirstOrders (λ argument l lowers p. p.1), c.in-FirstOrders.is)

pub returns-in-OutOfUnderflow : goal.returns-in-OutOfUnderflow
returns-in-OutOfUnderflow c = rw (c.searched_by-in-OutOfUnderflow.ensures rule.OutOfUnderflow (λ argument l lowers p. p.1), c.in-OutOfUnderflow.is)
