-- How it is computed, not what: a turn of four rungs on which the state of scale stays. What it is handed, and what it keeps. Definitions only.
use Rattle.std.specs.Prelude.{ℕ, ◌+◌, ◌≡◌, Bool, true, false, T, Float}
use Rattle.std.specs.Float.Ieee.{lt}
use Rattle.std.specs.declared.ops.ControlFlow.{ControlFlow}
use Rattle.std.specs.declared.ops.ControlFlow.TheVariants.{Continue, Break}
use Rattle.machine.specs.Small.{nothing}
use Rattle.recurrence.specs.Rung.{factor_of}
use Rattle.recurrence.specs.declared.state.Climb.{Climb}
use Rattle.recurrence.specs.declared.course.Course.{Course}

-- p is the real part of the factor at the index i
pub record Suits (g : Course) (p : Float) (i : ℕ) : Type 0 where
  pub above : T (lt nothing g.most)
  pub ahead : p ≡ (factor_of g.ladder.two_over_z g.ladder.base_order i).re

-- the climb after a turn
abbrev pub after : ControlFlow Climb Climb → Climb
after (Continue c) = c
after (Break c) = c

-- a whole turn goes on with its climb, and one that stops breaks off with it
abbrev pub whole : ControlFlow Climb Climb → Bool
whole (Continue c) = true
whole (Break c) = false

-- the state stays, and a whole turn has four rungs
pub record Stays (c : Climb) (t : ControlFlow Climb Climb) : Type 0 where
  pub state : (after t).state ≡ c.state
  pub four : whole t ≡ true → (after t).rungs ≡ c.rungs + 4
