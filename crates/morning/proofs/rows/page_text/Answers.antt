-- `morning::rows::page_text` meets its contract: its four parts, one behind the other. Assumes nothing.
use mathlib.Core.List.{List, [], ◌++◌}
use mathlib.Core.Path.{ap, ◌∙◌}
use Prim.Native.Nat.{ℕ}
use lib.ListN.{get_or}
use Rattle.page.specs.Layout.{numbers, sums}
use Rattle.morning.specs.Rows.{answered_word, row_of, refused_rows, longest_rows, last_rows, page_text}
use Rattle.morning.proofs.RowFacts.{four}
use Rattle.morning.proofs.rows.page_text.Goals as goal

pub returns : goal.returns
unfolding page_text
returns c =
    let page = c.args.page.now in
    four [] (row_of answered_word (get_or page 0 0)) (refused_rows numbers page) (longest_rows sums page) (last_rows page) _ _ _ _
    (c.put_row.ensures.1 ∙ ap (λ (l : List ℕ). l ++ row_of answered_word (get_or page 0 0)) c.new-text.ensures)
    c.put_refused.ensures.1
    c.put_longest.ensures.1
    c.put_last.ensures
