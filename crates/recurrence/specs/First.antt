-- First orders on scale: the first values, kept without e^-z, are tried until two in a row are kept; the orders before them are zeros. ZKSCL;
-- `scale_k_recurrence` of src/amos/recurrence.rs. Definitions only.
use Rattle.std.specs.Prelude.{ℕ, ◌-◌, cond, ltb, Float}
use Rattle.complex.specs.declared.number.Complex.{Complex}
use Rattle.complex.specs.Arithmetic.{zero_pair}
use Rattle.recurrence.specs.Trial.{Trial, kept, value_of, first_trial}
use Rattle.recurrence.specs.Search.{is_found, search_at, search_from}
use Rattle.recurrence.specs.declared.search.Search.{Search}
use Rattle.recurrence.specs.Rule as rule
use Rattle.recurrence.specs.declared.first.FirstOrders.{FirstOrders}

-- the search, with the first two orders tried
unfoldable pub start_of : Complex → Complex → Complex → Search
start_of argument first second = search_at argument first second (first_trial argument first) (first_trial argument second)

-- no two in a row: all n orders are zeros, or all but the last
unfoldable pub ended_of : ℕ → Trial → ℕ → FirstOrders
ended_of n t rungs = record { zeros = cond (kept t) (n - 1) n; first = value_of t; second = zero_pair; rungs = rungs }

-- found after k rungs: the orders k and k + 1 are on scale
unfoldable pub settled_of : ℕ → Search → FirstOrders
settled_of n s =
    cond (is_found s)
    (record { zeros = s.rungs; first = value_of s.before; second = value_of s.latest; rungs = s.rungs })
    (ended_of n s.latest s.rungs)

-- of n orders from `order` on, the values of the first two being given without e to minus the argument, which is z or what a search has
-- lowered it to
unfoldable pub first_orders : Complex → Float → ℕ → Complex → Complex → Complex → FirstOrders
first_orders argument order n first second two_over_z =
    cond (ltb n 2)
    (ended_of n (first_trial argument first) 0)
    (settled_of n (search_from rule.FirstOrders order two_over_z (n - 2) (start_of argument first second)))
