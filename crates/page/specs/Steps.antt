-- What is done to a page cell by cell when a line is added. Definitions only.
use Rattle.std.specs.Prelude.{List, ℕ, ◌+◌, nat_abs, get_or, set}
use Rattle.frame.specs.declared.reading.Record.{Record}
use Rattle.page.specs.Layout.{longest_at, rungs_at, backward_at, zeros_at, lines_at}
use Rattle.page.specs.Joining.{added_to}

-- n more in one cell
unfoldable pub with_added : ℕ → ℕ → List ℕ → List ℕ
with_added at n page = set page at (added_to (get_or page at 0) n)

-- one line more, and one more in another cell
unfoldable pub with_line : ℕ → List ℕ → List ℕ
with_line at page = with_added at 1 (with_added lines_at 1 page)

-- the counts of an answered line
unfoldable pub with_answered : Record → List ℕ → List ℕ
with_answered r page =
    with_added zeros_at (nat_abs r.zeros)
    (with_added backward_at r.backward
    (with_added rungs_at r.rungs
    (with_added (longest_at + r.longest_sum) 1 page)))
