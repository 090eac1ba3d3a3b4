-- `miller::search::start_from` meets its contract: a start between -1 and 257, and else none. Assumes nothing.
use mathlib.Core.Path.{sym, ap, ◌∙◌}
use Rattle.std.specs.Prelude.{Some}
use Rattle.miller.proofs.StartFacts.{cast-truncates, start-at, start-low, start-high}
use Rattle.miller.proofs.search.start_from.Goals.{else-raw-via-then-raw+else-raw-2, else-raw-via-else-raw}
use Rattle.miller.proofs.search.start_from.Goals as goal

pub returns-then-raw-2 : goal.returns-then-raw-2
returns-then-raw-2 c =
    ap Some (c.saturating_f64_to_u32.ensures ∙ cast-truncates c.args.raw c.if-raw.true c.if-raw-2.true) ∙ sym (start-at c.args.raw c.if-raw.true c.if-raw-2.true)

pub returns : goal.returns
returns c = elim c.else-raw.branch [
  | else-raw-via-then-raw+else-raw-2 w ↦ sym (start-high c.args.raw w.if-raw-2.false)
  | else-raw-via-else-raw w ↦ sym (start-low c.args.raw w.if-raw.false)
]
