-- `page::adding::add_read` meets its contract: refused where there is no room for one line, and else added. Assumes nothing.
use Rattle.frame.specs.declared.reading.Record.{Record}
use Rattle.std.proofs.Common.{Option}
use mathlib.Core.Path.{sym, ap, ◌∙◌, subst}
use Rattle.page.specs.Saying.{said_in, Known}
use Rattle.page.specs.Parts.{one_page}
use Rattle.page.specs.Joining.{joined_cells}
use Rattle.page.proofs.SaidFacts.{admitted-number, refused-number, said-known, room-number, room-page, full-number, full-page, room-for-one, no-room-for-one}
use Rattle.page.proofs.adding.add_read.Goals as goal

pub returns-then-page-ge-MOST_LINES : goal.returns-then-page-ge-MOST_LINES
returns-then-page-ge-MOST_LINES c =
    let a = c.args in
    let page = a.page.now in
    let one = one_page (said_in a.reading) in
    let full = no-room-for-one page (said_in a.reading) c.if-page-ge-MOST_LINES.true in
    (refused-number ∙ sym (full-number page one full), sym (full-page page one full))

pub add_said-requires : goal.add_said-requires
add_said-requires c =
    let s = c in
    subst Known (sym c.said.ensures) (said-known s.args.reading)

pub returns : goal.returns
returns c =
    let a = c.args in
    let page = a.page.now in
    let one = one_page (said_in a.reading) in
    let room = room-for-one page (said_in a.reading) c.if-page-ge-MOST_LINES.false in (
      admitted-number ∙ sym (room-number page one room),
      c.add_said.ensures ∙ ap (λ (x : Option Record). joined_cells page (one_page x)) c.said.ensures ∙ sym (room-page page one room),
    )
