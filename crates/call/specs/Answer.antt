-- What a call returns: an answer's counts, or a refusal. Definitions only.
use Rattle.std.specs.Prelude.{Bool, true, false, ℕ, ℤ, pos, neg_ℤ, Result, Ok, Err}
use Rattle.refusal.specs.Number.{number_of}
use Rattle.refusal.specs.declared.refusal.Refusal.{Refusal}
use Rattle.call.specs.declared.answer.Counts.{Counts}

abbrev pub Answer : Type 0
Answer = Result Counts Refusal

-- a count of zeros, negative where a visit stopped before its end
abbrev pub signed_of : Bool → ℕ → ℤ
signed_of true count = neg_ℤ (pos count)
signed_of false count = pos count

unfoldable pub answered_of : ℤ → ℕ → ℕ → ℕ → Answer
answered_of zeros longest_sum rungs backward = Ok (record { zeros = zeros; longest_sum = longest_sum; rungs = rungs; backward = backward })

unfoldable pub refused_of : Refusal → Answer
refused_of refusal = Err refusal

-- ---- the record that whoever handles an answer reads: an answer has the number 0, and a refusal has its number and counts of zero
abbrev pub number_in : Answer → ℕ
number_in (Ok counts) = 0
number_in (Err refusal) = number_of refusal

abbrev pub zeros_in : Answer → ℤ
zeros_in (Ok counts) = counts.zeros
zeros_in (Err refusal) = pos 0

abbrev pub longest_in : Answer → ℕ
longest_in (Ok counts) = counts.longest_sum
longest_in (Err refusal) = 0

abbrev pub rungs_in : Answer → ℕ
rungs_in (Ok counts) = counts.rungs
rungs_in (Err refusal) = 0

abbrev pub backward_in : Answer → ℕ
backward_in (Ok counts) = counts.backward
backward_in (Err refusal) = 0
