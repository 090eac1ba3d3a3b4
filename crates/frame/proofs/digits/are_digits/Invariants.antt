use mathlib.Core.Path.{◌≡◌}
use mathlib.Core.Bool.{◌&&◌}
use lib.ListN.{drop}
use Rattle.frame.specs.Digits.{are_digits}
use Rattle.frame.proofs.digits.are_digits.Given as goal

abbrev pub invariant-loop-c : goal.invariant-loop-c
invariant-loop-c l = are_digits l.line ≡ (l.all && are_digits (drop l.c-index l.line))
