-- `recurrence::stretch::four_rungs` meets its contract: each value that was held is a rung on which the state stays, and is put in its place where it
-- is asked for. Assumes nothing.
use mathlib.Core.Path.{refl, sym, ap}
use mathlib.Core.Bool.{true≢false}
use Rattle.recurrence.specs.declared.state.Climb.{Climb}
use Rattle.recurrence.proofs.StretchFacts as plain
use Rattle.recurrence.proofs.FillFacts.{turn-start, turn-stop, turn_one, turn_two, turn_three, turn-four, turn-if}
use Rattle.recurrence.proofs.stretch.four_rungs.Goals as goal

pub returns-in_default : goal.returns-in_default
returns-in_default g c = (
  turn-if c.args.g c.args.start c.args.i c.args.at _ _ refl
      (plain.turn-start c.args.g c.args.start c.args.i)
      (λ t. (turn-stop c.args.g c.args.start c.args.i c.args.at _ _ (c.in_default.ensures.put t) (turn-start c.args.g c.args.start c.args.i c.args.at _ (c.requires.5 t)))),
  record { state = refl; four = λ e. absurd (true≢false (sym e)) },
)

pub returns-in_default-written : goal.returns-in_default-written
returns-in_default-written g c = (
  turn-if c.args.g c.args.start c.args.i c.args.at _ _ c.at.ensures
      (plain.turn_one c.args.g c.args.start c.args.i c.requires.1 c.in-Some.ensures.next)
      (λ t. (turn-stop c.args.g c.args.start c.args.i c.args.at _ _ (c.in_default-written.ensures.put t) (turn_one c.args.g c.args.start c.args.i c.args.at _ (c.requires.5 t) c.requires.1 (c.in-Some.ensures.put t)))),
  record { state = ap (λ (d : Climb). d.state) c.at.ensures; four = λ e. absurd (true≢false (sym e)) },
)

pub returns-in_default-written-2 : goal.returns-in_default-written-2
returns-in_default-written-2 g c = (
  turn-if c.args.g c.args.start c.args.i c.args.at _ _ c.at-in_default-written-2.ensures
      (plain.turn_two c.args.g c.args.start c.args.i c.requires.1 c.in-Some.ensures.next c.in-Some-written.ensures.next)
      (λ t. (turn-stop c.args.g c.args.start c.args.i c.args.at _ _ (c.in_default-written-2.ensures.put t) (turn_two c.args.g c.args.start c.args.i c.args.at _ (c.requires.5 t) c.requires.1 (c.in-Some.ensures.put t) (c.in-Some-written.ensures.put t)))),
  record { state = ap (λ (d : Climb). d.state) c.at-in_default-written-2.ensures; four = λ e. absurd (true≢false (sym e)) },
)

pub returns-in_default-written-3 : goal.returns-in_default-written-3
returns-in_default-written-3 g c = (
  turn-if c.args.g c.args.start c.args.i c.args.at _ _ c.at-in_default-written-3.ensures
      (plain.turn_three c.args.g c.args.start c.args.i c.requires.1 c.in-Some.ensures.next c.in-Some-written.ensures.next c.in-Some-written-2.ensures.next)
      (λ t. (turn-stop c.args.g c.args.start c.args.i c.args.at _ _ (c.in_default-written-3.ensures.put t) (turn_three c.args.g c.args.start c.args.i c.args.at _ (c.requires.5 t) c.requires.1 (c.in-Some.ensures.put t) (c.in-Some-written.ensures.put t) (c.in-Some-written-2.ensures.put t)))),
  record { state = ap (λ (d : Climb). d.state) c.at-in_default-written-3.ensures; four = λ e. absurd (true≢false (sym e)) },
)

pub returns : goal.returns
returns g c = (
  turn-if c.args.g c.args.start c.args.i c.args.at _ _ c.at-2.ensures
      (plain.turn-four c.args.g c.args.start c.args.i c.requires.1 c.in-Some.ensures.next c.in-Some-written.ensures.next c.in-Some-written-2.ensures.next c.in-Some-written-3.ensures.next)
      (λ t. (turn-four c.args.g c.args.start c.args.i c.args.at _ (c.requires.5 t) c.requires.1 (c.in-Some.ensures.put t) (c.in-Some-written.ensures.put t) (c.in-Some-written-2.ensures.put t) (c.in-Some-written-3.ensures.put t))),
  record { state = ap (λ (d : Climb). d.state) c.at-2.ensures; four = λ e. ap (λ (d : Climb). d.rungs) c.at-2.ensures },
)
