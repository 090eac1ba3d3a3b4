-- The trials of the start search above its threshold: a forward recurrence, until it is large enough. ZBKNU, 'FORWARD RECURRENCE LOOP',
-- labels 150 and 160; `determine_miller_starting_k` of src/amos/right_half_plane.rs. Definitions only.
use Rattle.std.specs.Prelude.{ℕ, zero, suc, ◌+◌, ◌*◌, Bool, cond, pos, leb, Option, Some, None, Float}
use Rattle.std.specs.Float.{binary64}
use Rattle.std.specs.Float.Ieee.{of_int, lt}
use Rattle.laws.specs.Run.{first_from}
use Rattle.laws.specs.Operators.{◌⊕◌, ◌⊖◌, ◌⊗◌, ◌⊘◌}
use Rattle.machine.specs.Small.{nothing, half, one, two}
use Rattle.machine.specs.Magnitude.{magnitude_of}
use Rattle.miller.specs.declared.trials.Trial.{Trial}

-- a whole number as a float
abbrev pub whole : ℕ → Float
whole i = of_int binary64 (pos i)

-- The trial i, P2 of the loop to label 150: p(i+1) = b p(i) - a p(i-1) with a = ((i - 1/2)² - square) / (i (i + 1)) and b = (2 |z| + 2 i) /
-- (i + 1).
-- It is DLMF 13.3.7 for U(ν + 1/2 + i, 2ν + 1, 2|z|), each value scaled.
unfoldable pub next_trial : Float → Float → ℕ → Trial → Trial
next_trial modulus square i t =
    let n = whole i in
    let a = ((n ⊖ half) ⊗ (n ⊖ half) ⊖ square) ⊘ (n ⊗ (n ⊕ one)) in
    let b = (two ⊗ modulus ⊕ whole (2 * i)) ⊘ whole (i + 1) in
    record { older = t.newer; newer = b ⊗ t.newer ⊖ a ⊗ t.older }

-- after i trials
unfoldable pub trial_after : Float → Float → ℕ → Trial
trial_after modulus square zero = record { older = nothing; newer = one }
trial_after modulus square (suc i) = next_trial modulus square (suc i) (trial_after modulus square i)

-- whether the value p of the trial i meets the test, IF (ETEST.LT.STR) GO TO 160
unfoldable pub is_met : Float → ℕ → Float → Bool
is_met test i p = lt test (magnitude_of p ⊗ whole (i + 1))

unfoldable pub met_after : Float → Float → Float → ℕ → Bool
met_after modulus square test i = is_met test i (trial_after modulus square i).newer

-- the first trial of 1 to 30 (KMAX) that meets the test; 31 where none does
unfoldable pub trials_taken : Float → Float → Float → ℕ
trials_taken modulus square test = first_from (met_after modulus square test) 30 1

-- FK at label 160: the index found is one more than that trial's number
unfoldable pub trial_index : Float → Float → Float → Option ℕ
trial_index modulus square test = let i = trials_taken modulus square test in cond (leb i 30) (Some (i + 1)) None
