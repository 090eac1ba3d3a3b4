-- `page::adding::add_said` meets its contract, case by case. Assumes nothing.
use mathlib.Core.Path.{sym, ap, ◌∙◌, subst}
use native.Mathlib.Omega.{arith}
use Rattle.std.proofs.Common.{Option}
use Rattle.frame.specs.declared.reading.Record.{Record}
use Rattle.page.specs.Saying.{Known}
use Rattle.page.specs.Parts.{one_page}
use Rattle.page.specs.Joining.{joined_cells}
use Rattle.page.specs.Steps.{with_answered}
use Rattle.page.proofs.StepFacts.{unreadable-joined, refused-joined, answered-joined}
use Rattle.page.proofs.adding.add_said.Goals as goal

pub count_line-requires : goal.count_line-requires
unfolding Known
count_line-requires c = omega (arith, (subst Known c.in-Some.is c.requires).0)

pub add_answered-requires : goal.add_answered-requires
unfolding Known
add_answered-requires c = (subst Known c.in-Some.is c.requires).1

pub returns-then-r-eq0 : goal.returns-then-r-eq0
unfolding Known
returns-then-r-eq0 c =
    let page = c.args.page.now in
    let r = c.in-Some.r in
    c.add_answered.ensures
    ∙ ap (with_answered r) c.count_line.ensures
    ∙ answered-joined r c.if-r-eq0.true (subst Known c.in-Some.is c.requires).1 page c.told-page
    ∙ ap (λ (x : Option Record). joined_cells page (one_page x)) (sym c.in-Some.is)

pub returns-else-r-eq0 : goal.returns-else-r-eq0
unfolding Known
returns-else-r-eq0 c =
    let page = c.args.page.now in
    let r = c.in-Some.r in
    c.count_line.ensures
    ∙ refused-joined r c.if-r-eq0.false (subst Known c.in-Some.is c.requires).0 page c.told-page
    ∙ ap (λ (x : Option Record). joined_cells page (one_page x)) (sym c.in-Some.is)

pub returns-in-None : goal.returns-in-None
returns-in-None c =
    let page = c.args.page.now in
    c.count_line-in-None.ensures
    ∙ unreadable-joined page c.told-page
    ∙ ap (λ (x : Option Record). joined_cells page (one_page x)) (sym c.in-None.is)
