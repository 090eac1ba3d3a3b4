-- How it is computed, not what: two sums side by side while both go on, each finished by itself, and put aside where it is 1 at once.
-- Definitions only.
use Rattle.std.specs.Prelude.{Bool, true, false, ◌&&◌, Float}
use Rattle.std.specs.Float.Ieee.{lt}
use Rattle.series_sum.specs.declared.sum.Partial.{Partial}
use Rattle.series_sum.specs.declared.sum.Sum.{Sum}
use Rattle.series_sum.specs.Sum.{complex_one}

-- a sum that is at its end
abbrev pub outcome_of : Partial → Sum
outcome_of s = record { value = s.value; terms = s.terms }

-- 1 where the sum is that at once
unfoldable pub one_or : Bool → Sum → Sum
one_or true s = record { value = complex_one; terms = 0 }
one_or false s = s

-- two sums both go on
unfoldable pub both_go_on : Float → Float → Partial → Partial → Bool
both_go_on t u p q = lt t p.estimate.error && lt u q.estimate.error
