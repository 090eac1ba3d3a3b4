-- How it is computed, not what: a part of a climb, which stops before a rung that may move the state of scale. What the parts promise of the climb
-- (specs/Climb.antt) and of its cells (specs/Fill.antt). Definitions only.
use Rattle.std.specs.Prelude.{ℕ, ◌+◌, ◌-◌, ◌*◌, ◌≤◌, ◌≡◌, Bool, true, List, ◌++◌, map, take, set, Float}
use Rattle.std.specs.Float.{binary64}
use Rattle.std.specs.Float.Ieee.{mul}
use Rattle.laws.proofs.Seam.{Seam}
use Rattle.complex.specs.declared.number.Complex.{Complex}
use Rattle.recurrence.specs.State.{reciprocal_of}
use Rattle.recurrence.specs.Rung.{factor_of, next_of}
use Rattle.recurrence.specs.Climb.{climb_from}
use Rattle.recurrence.specs.Fill.{fill_from}
use Rattle.recurrence.specs.shapes.Held.{held_of}
use Rattle.recurrence.specs.declared.state.OverflowState.{OverflowState}
use Rattle.recurrence.specs.declared.state.OverflowState.TheVariants.{NearUnder, None, NearOver}
use Rattle.recurrence.specs.declared.state.Climb.{Climb}
use Rattle.std.specs.declared.option.Option.{Option}
use Rattle.std.specs.declared.option.Option.TheVariants as option
use Rattle.recurrence.specs.declared.course.Course.{Course}

-- c is the climb from `start` after some of the rungs between two indices: as many as it counts
pub record Partway (two_over_z : Complex) (base_order : Float) (from to : ℕ) (start c : Climb) : Type 0 where
  pub counted : start.rungs ≤ c.rungs
  pub inside : c.rungs - start.rungs ≤ to - from
  pub climbed : c ≡ climb_from two_over_z base_order from (c.rungs - start.rungs) start

-- each cell's product by a number
unfoldable pub products_of : Float → List Float → List Float
products_of by l = map (λ (x : Float). mul binary64 x by) l

-- cells as a state keeps them, off its scale: in the middle state they are on none
unfoldable pub off_scale : OverflowState → List Float → List Float
off_scale NearUnder l = products_of (reciprocal_of NearUnder) l
off_scale None l = l
off_scale NearOver l = products_of (reciprocal_of NearOver) l

-- and of the cells `before` those from the place on have been put in `out`, with nothing else written: cells of which `off` makes the entries of these
-- rungs
pub record PartPut (off : List Float → List Float) (two_over_z : Complex) (base_order : Float) (from to : ℕ) (start : Climb) (place : ℕ)
    (before : List Float) (c : Climb) (out : List Float) : Type 0 where
  pub part : Partway two_over_z base_order from to start c
  pub put : List Float
  pub entries : off put ≡ (fill_from two_over_z base_order from (c.rungs - start.rungs) start).cells
  pub cells : Seam before (take place before ++ put) (place + (c.rungs - start.rungs) * 2) out

-- as the state of the start keeps them
abbrev pub PartHeld : Complex → Float → ℕ → ℕ → Climb → ℕ → List Float → Climb → List Float → Type 0
PartHeld two_over_z base_order from to start place before c out = PartPut (off_scale start.state) two_over_z base_order from to start place before c out

-- and the entries themselves
abbrev pub PartFilled : Complex → Float → ℕ → ℕ → Climb → ℕ → List Float → Climb → List Float → Type 0
PartFilled two_over_z base_order from to start place before c out = PartPut (λ (l : List Float). l) two_over_z base_order from to start place before c out

-- a value at its place, where there is one to put
abbrev pub put_if : Option Complex → ℕ → List Float → List Float
put_if (option.Some w) at out = set (set out at w.re) (at + 1) w.im
put_if option.None at out = out

-- the next value after two, where it is held, and in its place
pub record Written (g : Course) (i : ℕ) (older newer : Complex) (a : Option Complex) (at : ℕ) (before out : List Float) : Type 0 where
  pub held : a ≡ held_of g.most (next_of (factor_of g.ladder.two_over_z g.ladder.base_order i) older newer)
  pub put : out ≡ put_if a at before

-- where the values are asked for, in their cells too
pub record PartIf (writes : Bool) (two_over_z : Complex) (base_order : Float) (from to : ℕ) (start : Climb) (place : ℕ) (before : List Float) (c : Climb)
    (out : List Float) : Type 0 where
  pub part : Partway two_over_z base_order from to start c
  pub held : writes ≡ true → PartHeld two_over_z base_order from to start place before c out

pub record WrittenIf (writes : Bool) (g : Course) (i : ℕ) (older newer : Complex) (a : Option Complex) (at : ℕ) (before out : List Float) : Type 0 where
  pub next : a ≡ held_of g.most (next_of (factor_of g.ladder.two_over_z g.ladder.base_order i) older newer)
  pub put : writes ≡ true → Written g i older newer a at before out

-- its entries in their cells
pub record FilledIf (writes : Bool) (two_over_z : Complex) (base_order : Float) (from to : ℕ) (start : Climb) (place : ℕ) (before : List Float) (c : Climb)
    (out : List Float) : Type 0 where
  pub part : Partway two_over_z base_order from to start c
  pub filled : writes ≡ true → PartFilled two_over_z base_order from to start place before c out

-- and the whole: `count` rungs, and their entries in all the cells
pub record WholeIf (writes : Bool) (two_over_z : Complex) (base_order : Float) (from count : ℕ) (start c : Climb) (out : List Float) : Type 0 where
  pub climb : c ≡ climb_from two_over_z base_order from count start
  pub cells : writes ≡ true → out ≡ (fill_from two_over_z base_order from count start).cells
