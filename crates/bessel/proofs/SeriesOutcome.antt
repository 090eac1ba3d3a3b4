-- What a call by the power series comes to, on every input and for either sign: each number exactly when, and what the cells then hold. Assumes nothing.
use mathlib.Core.Path.{◌≡◌, refl, sym, ap, ◌∙◌, subst}
use mathlib.Core.Logic.{◌⊎◌, inl, inr}
use mathlib.Core.Bool.{Bool, true, false}
use mathlib.Core.List.{List, [], ◌∷◌, ◌++◌}
use Prim.Native.Nat.{ℕ, zero, suc, ◌-◌, ◌*◌, ◌/◌, ◌≤◌, ◌<◌}
use native.Mathlib.Omega.{arith}
use lib.Dec.{T}
use lib.IntN.{nat_abs}
use lib.ListN.{drop, length-replicate}
use lib.ListN.{length as length-of}
use lib.Ieee.{Float}
use Rattle.machine.specs.Constants.{not_a_number}
use Rattle.cells.specs.AllFinite.{all_finite}
use Rattle.refusal.proofs.Distinct.{never-zero}
use Rattle.call.specs.Answer.{Answer, signed_of, answered_of, number_in, zeros_in, longest_in, rungs_in, backward_in}
use Rattle.call.specs.Checks.{refused_if, verdict_from, verdict_of, number_given, none_applies, numbers_of, length_checks, finite_checks, limit_checks}
use Rattle.call.proofs.FirstFacts.{Given, is_one_of, none-or-listed}
use Rattle.call.proofs.WhichLimit.{HitsLimit, hits-limit}
use Rattle.call.proofs.LimitFacts.{lent}
use Rattle.power_series.specs.Visit.{Visited}
use Rattle.bessel.specs.declared.arguments.Arguments.{Arguments}
use Rattle.bessel.specs.Arguments.{arguments_of}
use Rattle.bessel.specs.Checks.{argument_checks, series_own_checks, series_checks}
use Rattle.bessel.specs.Outcome.{Outcome, Delivered, judged_of, concluded_of}
use Rattle.bessel.specs.Series.{visited_by, visit_answer, visit_steps, series_outcome, visit_checks, all_series_checks}
use Rattle.bessel.proofs.CheckFacts.{series-passed}
use Rattle.power_series.proofs.SeriesFacts.{series-fits}
use Rattle.bessel.proofs.CallFacts.{judged-number, RefusedWhole, refused-facts, Ended, refused, answered, ends, numbered}

answer-number : (w : Visited) → number_in (visit_answer w) ≡ 0
unfolding visit_answer answered_of
answer-number w = refl

-- the cells of a visit that are finished
abbrev pub finished_of : Visited → List Float
finished_of w = drop (w.visit.place * 2) w.cells

later-number : (length : ℕ) (w : Visited) → number_given (verdict_of (visit_checks w)) ≡ number_in (concluded_of length (visit_steps w)).answer
unfolding verdict_of verdict_from refused_if visit_checks visit_steps concluded_of judged_of
later-number length w = judged-number (all_finite (finished_of w)) length (visit_answer w) w.cells (answer-number w)

-- the numbers that the power series can give besides 0, in the order of the checks
pub listed : (scaled turned : Bool) (a : Arguments) (length : ℕ) → numbers_of (all_series_checks scaled turned a length) ≡ 1 ∷ 2 ∷ 3 ∷ 11 ∷ 12 ∷ 5 ∷ 8 ∷ []
unfolding numbers_of all_series_checks series_checks series_own_checks argument_checks length_checks finite_checks limit_checks visit_checks
listed scaled turned a length = refl

-- an answer: the checks are passed, and the record and the cells are the visit's
pub record AnsweredWhole (scaled turned : Bool) (a : Arguments) (length : ℕ) (o : Outcome) : Type 0 where
  pub passed : none_applies (series_checks a length) ≡ true
  pub finite : all_finite (finished_of (visited_by scaled turned a length)) ≡ true
  pub answer : o.answer ≡ visit_answer (visited_by scaled turned a length)
  pub cells : o.cells ≡ (visited_by scaled turned a length).cells

-- the counts of an answer are those of the visit's steps, and how large each can be: of n orders no more zeros, no sum above 19 terms, no step of the recurrence at
-- the two highest orders, and no backward step
pub record Counted (scaled turned : Bool) (a : Arguments) (length : ℕ) (o : Outcome) : Type 0 where
  pub steps : o.answer ≡ visit_answer (visited_by scaled turned a length)
  pub zeros : nat_abs (zeros_in o.answer) ≤ length / 2
  pub longest-sum : longest_in o.answer ≤ 19
  pub rungs : rungs_in o.answer ≤ length / 2 - 2
  pub backward : backward_in o.answer ≡ 0

signed-magnitude : (b : Bool) (n : ℕ) → nat_abs (signed_of b n) ≡ n
signed-magnitude true zero = refl
signed-magnitude true (suc n) = refl
signed-magnitude false n = refl

module _ (scaled turned : Bool) (v re im : Float) (length : ℕ) where
  -- the number, exactly when, and no other than the list's
  pub numbers : Given (all_series_checks scaled turned (arguments_of v re im) length) (number_in (series_outcome scaled turned v re im length).answer)
  unfolding all_series_checks series_outcome
  numbers =
      let a = arguments_of v re im in
      let w = visited_by scaled turned a length in
      numbered (series_checks a length) (visit_checks w) length (visit_steps w) (later-number length w)

  -- so no number but these
  pub admitted : T (is_one_of (number_in (series_outcome scaled turned v re im length).answer) (0 ∷ 1 ∷ 2 ∷ 3 ∷ 11 ∷ 12 ∷ 5 ∷ 8 ∷ []))
  admitted =
      let a = arguments_of v re im in
      none-or-listed (all_series_checks scaled turned a length) (number_in (series_outcome scaled turned v re im length).answer) (1 ∷ 2 ∷ 3 ∷ 11 ∷ 12 ∷ 5 ∷ 8 ∷ []) numbers (listed scaled turned a length)

  -- 3, 11 and 12 by the limit that was hit
  pub limits : let a = arguments_of v re im in HitsLimit length a.order a.z.re a.z.im (number_in (series_outcome scaled turned v re im length).answer)
  unfolding all_series_checks series_checks series_own_checks argument_checks visit_checks length_checks finite_checks limit_checks numbers_of
  limits =
      let a = arguments_of v re im in
      hits-limit length a.order a.z.re a.z.im (series_own_checks a length ++ visit_checks (visited_by scaled turned a length)) (number_in (series_outcome scaled turned v re im length).answer)
      numbers refl refl refl

  -- ---- how a call ends
  delivered :
      (w : Visited) (answer : Answer) (from : ℕ) (cells : List Float) → visit_steps w ≡ Delivered answer from cells →
      (answer ≡ visit_answer w) × (cells ≡ w.cells) × (drop from cells ≡ finished_of w)
  unfolding visit_steps
  delivered w answer from cells e = (cc, cc, cc)

  whole_by : let a = arguments_of v re im in Ended (series_checks a length) length (visit_steps (visited_by scaled turned a length)) →
      RefusedWhole length (series_outcome scaled turned v re im length) ⊎ AnsweredWhole scaled turned (arguments_of v re im) length (series_outcome scaled turned v re im length)
  unfolding series_outcome
  whole_by (refused r e) = inl (subst (RefusedWhole length) (sym e) (refused-facts length r))
  whole_by (answered answer from cells p s f e) =
      let d = delivered (visited_by scaled turned (arguments_of v re im) length) answer from cells s in
      inr (record {
        passed = p;
        finite = sym (ap all_finite d.2) ∙ f;
        answer = ap (λ (o : Outcome). o.answer) e ∙ d.0;
        cells = ap (λ (o : Outcome). o.cells) e ∙ d.1;
      })

  -- every call is the one or the other, and its number says which
  pub whole : RefusedWhole length (series_outcome scaled turned v re im length) ⊎ AnsweredWhole scaled turned (arguments_of v re im) length (series_outcome scaled turned v re im length)
  whole = let a = arguments_of v re im in whole_by (ends (series_checks a length) length (visit_steps (visited_by scaled turned a length)))

  pub refused-whole : 0 < number_in (series_outcome scaled turned v re im length).answer → RefusedWhole length (series_outcome scaled turned v re im length)
  refused-whole h =
      elim whole [
        | inl r ↦ r
        | inr a ↦ absurd (let z : number_in (series_outcome scaled turned v re im length).answer ≡ 0 = ap number_in a.answer ∙ answer-number (visited_by scaled turned (arguments_of v re im) length) in omega arith)
      ]

  pub answered-whole : number_in (series_outcome scaled turned v re im length).answer ≡ 0 → AnsweredWhole scaled turned (arguments_of v re im) length (series_outcome scaled turned v re im length)
  answered-whole h =
      elim whole [
        | inl r ↦ absurd (let p = never-zero r.refusal in let q = r.number in omega arith)
        | inr a ↦ a
      ]

  -- an outcome has a value for each lent cell
  pub cells-length : length-of (series_outcome scaled turned v re im length).cells ≡ length
  unfolding visited_by
  cells-length =
      elim whole [
        | inl r ↦ ap length-of r.cells ∙ length-replicate length not_a_number
        | inr a ↦
            let b = arguments_of v re im in
            let l = lent length (series-passed b length a.passed).0.lent in
            let f = series-fits (length / 2) (omega arith) scaled turned b.order b.z b.modulus in
            ap length-of a.cells ∙ f.cells ∙ omega arith
      ]

  -- the counts of every answered call
  pub answered-counts : number_in (series_outcome scaled turned v re im length).answer ≡ 0 → Counted scaled turned (arguments_of v re im) length (series_outcome scaled turned v re im length)
  unfolding visited_by visit_answer answered_of
  answered-counts h =
      let b = arguments_of v re im in
      let a = answered-whole h in
      let w = (visited_by scaled turned b length).visit in
      let l = lent length (series-passed b length a.passed).0.lent in
      let f = series-fits (length / 2) (omega arith) scaled turned b.order b.z b.modulus in
      let few : w.zeros ≤ length / 2 = f.zeros in
      record {
        steps = a.answer;
        zeros = subst (λ (n : ℕ). n ≤ length / 2) (sym (ap (λ (x : Answer). nat_abs (zeros_in x)) a.answer ∙ signed-magnitude w.stopped w.zeros)) few;
        longest-sum = subst (λ (x : Answer). longest_in x ≤ 19) (sym a.answer) f.longest;
        rungs = subst (λ (x : Answer). rungs_in x ≤ length / 2 - 2) (sym a.answer) f.rungs;
        backward = ap backward_in a.answer;
      }
