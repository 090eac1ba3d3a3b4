-- Outcomes as the records that cross the C boundary. Definitions only.
use Rattle.std.specs.Prelude.{ℕ, Bool, not, eqb, Result, Ok, Err, Float}
use Rattle.machine.specs.Constants.{not_a_number}
use Rattle.refusal.specs.Number.{number_of}
use Rattle.refusal.specs.declared.refusal.Refusal.{Refusal}
use Rattle.call.specs.Answer as calls
use Rattle.capi.specs.declared.LogGamma.{LogGamma}
use Rattle.sweeping.specs.declared.request.Request.{Request}
use Rattle.sweeping.specs.Sweep.{Swept}
use Rattle.capi.specs.declared.Answer.{Answer}
use Rattle.capi.specs.declared.Sweep.{Sweep}

abbrev pub outcome_of : Result Float Refusal → LogGamma
outcome_of (Ok v) = record { value = v; number = 0 }
outcome_of (Err r) = record { value = not_a_number; number = number_of r }

-- scaled: 0 no, any other yes
abbrev pub is_scaled : ℕ → Bool
is_scaled s = not (eqb s 0)

-- C's record of five fields, whatever else the library's own comes to hold
abbrev pub answer_of : calls.Answer → Answer
answer_of a = record {
  number = calls.number_in a;
  zeros = calls.zeros_in a;
  longest_sum = calls.longest_in a;
  rungs = calls.rungs_in a;
  backward = calls.backward_in a;
}

-- ---- a sweep: what is asked for, and C's record of two fields
abbrev pub request_of : ℕ → ℕ → ℕ → Float → Float → Float → Float → Float → ℕ → Request
request_of kind scaling n v first_re first_im last_re last_im steps = record {
  kind = kind;
  scaling = scaling;
  count = n;
  v = v;
  first_re = first_re;
  first_im = first_im;
  last_re = last_re;
  last_im = last_im;
  steps = steps;
}

abbrev pub sweep_of : Swept → Sweep
sweep_of s = record { number = s.number; needed = s.needed }
