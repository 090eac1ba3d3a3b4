-- What every call has in common, whatever its checks and its steps: how it ends, and its number. Assumes nothing.
use mathlib.Core.Path.{◌≡◌, refl, sym, ap, ◌∙◌, subst}
use mathlib.Core.Bool.{Bool, true, false, not, cond}
use mathlib.Core.List.{List, ◌++◌}
use Prim.Native.Nat.{ℕ}
use lib.IntN.{pos}
use lib.ListN.{drop, replicate}
use lib.Ieee.{Float}
use Rattle.machine.specs.Constants.{not_a_number}
use Rattle.cells.specs.AllFinite.{all_finite}
use Rattle.refusal.specs.Number.{number_of}
use Rattle.refusal.specs.declared.refusal.Refusal.{Refusal}
use Rattle.refusal.specs.declared.refusal.Refusal.TheVariants.{Overflow}
use Rattle.std.specs.Prelude.{Ok, Err}
use Rattle.call.specs.Answer.{Answer, refused_of, number_in, zeros_in, longest_in, rungs_in, backward_in}
use Rattle.call.specs.Checks.{Check, Verdict, Admitted, Refused, verdict_from, verdict_of, number_given, none_applies}
use Rattle.call.proofs.FirstFacts.{stays, verdict-append, admitted-none, Given, given}
use Rattle.bessel.specs.Outcome.{Outcome, refused_outcome, judged_if, judged_of, Steps, Delivered, Stopped, concluded_of, outcome_by, call_outcome}

-- ---- a refusal: its number, counts of zero, and the fixed not-a-number in every cell
pub record RefusedWhole (length : ℕ) (o : Outcome) : Type 0 where
  pub refusal : Refusal
  pub number : number_in o.answer ≡ number_of refusal
  pub zeros : zeros_in o.answer ≡ pos 0
  pub longest-sum : longest_in o.answer ≡ 0
  pub rungs : rungs_in o.answer ≡ 0
  pub backward : backward_in o.answer ≡ 0
  pub cells : o.cells ≡ replicate length not_a_number

pub refused-facts : (length : ℕ) (r : Refusal) → RefusedWhole length (refused_outcome r length)
unfolding refused_outcome refused_of
refused-facts length r = record { refusal = r; number = refl; zeros = refl; longest-sum = refl; rungs = refl; backward = refl; cells = refl }

-- ---- how a call ends: refused, or answered by its steps, of which every finished cell is finite
pub data Ended (checks : List Check) (length : ℕ) (steps : Steps) : Type 0 where
  refused : (r : Refusal) → call_outcome checks length steps ≡ refused_outcome r length → Ended checks length steps
  answered :
      (answer : Answer) (from : ℕ) (cells : List Float) → none_applies checks ≡ true → steps ≡ Delivered answer from cells → all_finite (drop from cells) ≡ true →
      call_outcome checks length steps ≡ record { answer = answer; cells = cells } → Ended checks length steps

judged-ends :
    (checks : List Check) (length : ℕ) (answer : Answer) (from : ℕ) (cells : List Float) (b : Bool) → verdict_of checks ≡ Admitted → all_finite (drop from cells) ≡ b →
    Ended checks length (Delivered answer from cells)
unfolding call_outcome outcome_by concluded_of judged_of judged_if
judged-ends checks length answer from cells true v f = answered answer from cells (admitted-none checks v) refl f (rw (v, f))
judged-ends checks length answer from cells false v f = refused Overflow (rw (v, f))

ends_by : (checks : List Check) (length : ℕ) (steps : Steps) (verdict : Verdict) → verdict_of checks ≡ verdict → Ended checks length steps
unfolding call_outcome outcome_by concluded_of
ends_by checks length (Delivered answer from cells) (Ok admitted) v = judged-ends checks length answer from cells (all_finite (drop from cells)) v refl
ends_by checks length (Stopped r) (Ok admitted) v = refused r (rw v)
ends_by checks length steps (Err r) v = refused r (rw v)

pub ends : (checks : List Check) (length : ℕ) (steps : Steps) → Ended checks length steps
ends checks length steps = ends_by checks length steps (verdict_of checks) refl

-- ---- the number of a call: with the checks that its steps answer behind those that are made before them
number_by :
    (checks later : List Check) (length : ℕ) (steps : Steps) (verdict : Verdict) → verdict_of checks ≡ verdict → number_given (verdict_of later) ≡ number_in (concluded_of length steps).answer →
    number_given (verdict_from verdict later) ≡ number_in (outcome_by verdict length steps).answer
unfolding verdict_of number_given outcome_by refused_outcome refused_of
number_by checks later length steps (Ok admitted) v e = e
number_by checks later length steps (Err r) v e = ap number_given (stays r later)

pub numbered :
    (checks later : List Check) (length : ℕ) (steps : Steps) → number_given (verdict_of later) ≡ number_in (concluded_of length steps).answer →
    Given (checks ++ later) (number_in (call_outcome checks length steps).answer)
unfolding verdict_of call_outcome
numbered checks later length steps e =
    subst (Given (checks ++ later))
    (ap number_given (verdict-append Admitted checks later) ∙ number_by checks later length steps (verdict_of checks) refl e)
    (given (checks ++ later))

-- the number of a judged answer: 0, or 8
pub judged-number :
    (b : Bool) (length : ℕ) (answer : Answer) (cells : List Float) → number_in answer ≡ 0 →
    number_given (cond (not b) (Refused Overflow) Admitted) ≡ number_in (judged_if b length answer cells).answer
unfolding number_given judged_if refused_outcome refused_of
judged-number true length answer cells e = sym e
judged-number false length answer cells e = refl
