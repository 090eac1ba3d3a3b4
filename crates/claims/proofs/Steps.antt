-- The counts that an answer reports are of these steps, each counted as it is taken. Assumes nothing.
use mathlib.Core.Path.{◌≡◌}
use Prim.Native.Nat.{ℕ, ◌+◌, ◌-◌}
use lib.Ieee.{Float}
use Rattle.complex.specs.declared.number.Complex.{Complex}
use Rattle.recurrence.specs.declared.state.Climb.{Climb}
use Rattle.recurrence.specs.declared.search.Search.{Search}
use Rattle.recurrence.specs.Rule.{Rule}
use Rattle.recurrence.specs.declared.first.FirstOrders.{FirstOrders}
use Rattle.recurrence.specs.Climb.{climb_from}
use Rattle.recurrence.specs.Fill.{fill_from}
use Rattle.recurrence.specs.Search.{search_step}
use Rattle.recurrence.specs.First.{first_orders}
use Rattle.recurrence.proofs.ClimbFacts.{rungs-climbed}
use Rattle.recurrence.proofs.FillFacts.{fill-climb}
use Rattle.recurrence.proofs.SearchFacts.{step-counted}
use Rattle.recurrence.proofs.FirstFacts.{Counted, first_counted, first-and-fill}
use Rattle.miller.specs.Backward.{real_steps, complex_steps}
use Rattle.miller.proofs.BackwardFacts.{real-steps-are-the-start, complex-steps-are-the-start}
use Rattle.right_half_plane.specs.Recover.{recover_of}
use Rattle.right_half_plane.proofs.Counts.{Resumes, recover-resumes}
use Rattle.series_step.specs.declared.setting.Setting.{Setting}
use Rattle.power_series.specs.Visit.{walk_of}
use Rattle.power_series.proofs.VisitFacts.{orders_of, orders-counted}

pub record OfSteps : Type 0 where
  -- K: n rungs of the plain climb are n counted, the fill is such a climb, and a step of the search for neighbours on scale is one
  pub climb : (two_over_z : Complex) (base_order : Float) (i n : ℕ) (c : Climb) → (climb_from two_over_z base_order i n c).rungs ≡ c.rungs + n
  pub fill : (two_over_z : Complex) (base_order : Float) (i n : ℕ) (c : Climb) → (fill_from two_over_z base_order i n c).climb ≡ climb_from two_over_z base_order i n c
  pub search : (rule : Rule) (base_order : Float) (two_over_z : Complex) (i : ℕ) (s : Search) → (search_step rule base_order two_over_z i s).rungs ≡ s.rungs + 1
  pub first : (argument : Complex) (order : Float) (n : ℕ) (a b two_over_z : Complex) → Counted n (first_orders argument order n a b two_over_z)
  pub first-and-fill : (n : ℕ) (r : FirstOrders) → Counted n r → r.rungs + (n - (r.zeros + 2)) ≡ n - 2
  -- the climb out of underflow resumes two offsets behind the rungs that it climbed
  pub resumes : (fraction : Float) (two_over_z z : Complex) (steps : ℕ) (a b : Complex) → Resumes steps (recover_of fraction two_over_z z steps a b)
  -- Miller's backward steps are as many as the start
  pub backward-real : (x distance : Float) (start : ℕ) → (real_steps x distance start).steps ≡ start
  pub backward-complex : (z : Complex) (distance : Float) (start : ℕ) → (complex_steps z distance start).steps ≡ start
  -- I: every order of the visit is a zero, a seed, a step of the recurrence, or left
  pub visit : (g : Setting) (n : ℕ) → orders_of (walk_of g n).standing.state + (walk_of g n).standing.left ≡ n

pub of_steps : OfSteps
of_steps = record {
  climb = rungs-climbed;
  fill = fill-climb;
  search = step-counted;
  first = first_counted;
  first-and-fill = first-and-fill;
  resumes = recover-resumes;
  backward-real = real-steps-are-the-start;
  backward-complex = complex-steps-are-the-start;
  visit = orders-counted;
}
