use mathlib.Core.Path.{◌≡◌}
use Prim.Native.Nat.{ℕ, ◌-◌}
use lib.Ieee.{Float}
use Rattle.laws.specs.Run.{run}
use Rattle.gamma_ln.specs.declared.series.Terms.{Terms}
use Rattle.gamma_ln.specs.Series.{with_next, is_done, further_of}
use Rattle.gamma_ln.proofs.series.further.Given as goal

abbrev pub left : Float → Float → Float → Float → ℕ → Terms
left square bound power sum count = run (is_done square bound) (with_next square) (22 - count) count (record { power = power; sum = sum; count = count })

abbrev pub invariant-loop-count : goal.invariant-loop-count
invariant-loop-count l = further_of l.start l.first l.square l.bound ≡ left l.square l.bound l.power l.sum l.count
