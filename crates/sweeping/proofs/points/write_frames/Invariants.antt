use mathlib.Core.Path.{◌≡◌}
use mathlib.Core.List.{List}
use Prim.Native.Nat.{ℕ}
use lib.Ieee.{Float}
use Rattle.sweeping.specs.declared.request.Request.{Request}
use Rattle.sweeping.specs.Points.{step_of}
use Rattle.sweeping.proofs.PointFacts.{Frames}
use Rattle.sweeping.proofs.points.write_frames.Given as goal

pub record Writing (r : Request) (step_re step_im : Float) (d out : List ℕ) (at j : ℕ) : Type 0 where
  pub re : step_re ≡ step_of r.first_re r.last_re r.steps
  pub im : step_im ≡ step_of r.first_im r.last_im r.steps
  pub frames : Frames r d out at j

abbrev pub invariant-loop-j : goal.invariant-loop-j
invariant-loop-j l = Writing l.r l.step_re l.step_im l.initial.out l.out l.at l.j
