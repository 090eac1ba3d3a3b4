-- `morning::rows::put_last` meets its contract: four rows, one behind the other. Assumes nothing.
use lib.ListN.{get_or}
use Rattle.page.specs.Layout.{rungs_at, backward_at, zeros_at, unreadable_at}
use Rattle.morning.specs.Rows.{rungs_word, backward_word, zeros_word, unreadable_word, row_of, last_rows}
use Rattle.morning.proofs.RowFacts.{four}
use Rattle.morning.proofs.rows.put_last.Goals as goal

pub returns : goal.returns
unfolding last_rows
returns c =
    let page = c.args.page.now in
    four c.args.text.now (row_of rungs_word (get_or page rungs_at 0)) (row_of backward_word (get_or page backward_at 0)) (row_of zeros_word (get_or page zeros_at 0))
    (row_of unreadable_word (get_or page unreadable_at 0)) _ _ _ _ c.put_row.ensures.1 c.put_row-2.ensures.1 c.put_row-3.ensures.1 c.put_row-4.ensures.1
