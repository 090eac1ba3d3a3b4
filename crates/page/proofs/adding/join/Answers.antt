-- `page::adding::join` meets its contract: refused where there is no room, and else every cell added. Assumes nothing.
use mathlib.Core.Path.{sym, ◌∙◌}
use Rattle.page.specs.Joining.{is_room}
use Rattle.page.proofs.SaidFacts.{admitted-number, refused-number, room-number, room-page, full-number, full-page}
use Rattle.page.proofs.adding.join.Goals as goal

pub returns-then-not-is_room : goal.returns-then-not-is_room
unfolding is_room
returns-then-not-is_room c =
    let a = c.args in
    let full = sym c.is_room.ensures ∙ c.if-not-is_room.true in
    (refused-number ∙ sym (full-number a.into.now a.from.now full), sym (full-page a.into.now a.from.now full))

pub returns : goal.returns
unfolding is_room
returns c =
    let a = c.args in
    let room = sym c.is_room.ensures ∙ c.if-not-is_room.false in
    (admitted-number ∙ sym (room-number a.into.now a.from.now room), c.join_cells.ensures ∙ sym (room-page a.into.now a.from.now room))
