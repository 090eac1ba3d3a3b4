-- `page::adding::add_line` meets its contract: the line read, and what it says added. Assumes nothing.
use Rattle.frame.specs.declared.reading.Record.{Record}
use Rattle.std.proofs.Common.{Option}
use mathlib.Core.Path.{sym, ap, ◌∙◌}
use Rattle.page.specs.Saying.{said_in, said_by}
use Rattle.page.specs.Parts.{one_page}
use Rattle.page.specs.Joining.{join_number, join_page}
use Rattle.page.proofs.SaidFacts.{line-number, line-page}
use Rattle.page.proofs.adding.add_line.Goals as goal

pub returns : goal.returns
unfolding said_by
returns c =
    let a = c.args in
    let page = a.page.now in
    let read = c.read_answer.ensures in (
      c.add_read.ensures.0 ∙ ap (λ (x : Option Record). join_number page (one_page (said_in x))) read ∙ sym (line-number page a.line.now),
      c.add_read.ensures.1 ∙ ap (λ (x : Option Record). join_page page (one_page (said_in x))) read ∙ sym (line-page page a.line.now),
    )
