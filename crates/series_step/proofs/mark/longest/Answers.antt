-- `series_step::mark::longest` meets its contract: the larger of two numbers is the one that the test picks. Assumes nothing.
use mathlib.Core.Path.{◌≡◌, refl, ◌∙◌}
use mathlib.Core.Bool.{Bool, true, false, cond}
use Prim.Native.Nat.{ℕ, ◌≤◌, ◌<◌, max}
use Rattle.std.specs.Prelude.{ltb}
use native.Mathlib.Omega.{arith}
use borrow.Author.Tests.{ltb-true, ltb-false}
use Rattle.series_step.specs.Mark.{longest_of}
use Rattle.series_step.proofs.mark.longest.Goals as goal

picked : (a b : ℕ) (t : Bool) → ltb a b ≡ t → max a b ≡ cond t b a
picked a b true e = let h : a < b = ltb-true a b e in omega arith
picked a b false e = let h : b ≤ a = ltb-false a b e in omega arith

pub returns : goal.returns
unfolding longest_of
returns c = c.max.ensures ∙ picked _ _ _ refl
