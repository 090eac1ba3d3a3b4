-- `page::adding::count_line` meets its contract: two cells are written. Assumes nothing.
use mathlib.Core.Path.{ap, ◌∙◌}
use Rattle.page.specs.Steps.{with_added, with_line}
use Rattle.page.proofs.adding.count_line.Goals as goal

pub returns : goal.returns
unfolding with_line
returns c = c.add-2.ensures ∙ ap (with_added c.args.at 1) c.add.ensures
