-- The claims, entry point by entry point: what a call comes to, exactly when each number is given, that no second outcome fits, and that no sum ends for want of steps.
-- That the code does what the definitions say stands as each function's contract in its source; every one is proved. Assumes nothing.
use Rattle.std.specs.Prelude.{Some, None}
use mathlib.Core.Path.{◌≡◌, refl, ap}
use mathlib.Core.Logic.{◌⊎◌}
use mathlib.Core.Bool.{Bool, true, false, not, ◌&&◌}
use mathlib.Core.List.{List, [], ◌∷◌, ◌++◌}
use Prim.Native.Nat.{ℕ, ◌+◌, ◌-◌, ◌*◌, ◌/◌, ◌≤◌, ◌<◌}
use lib.Dec.{T}
use lib.Ieee.{Float, binary64, fits, to_bits, lt, eq, in_unsigned}
use lib.Ieee.Positive.{positive}
use lib.Ieee.Scale.{finite}
use lib.ListN.{take, get_or, length as length-of}
use Rattle.call.specs.Answer.{Answer, number_in, longest_in}
use Rattle.call.specs.Checks.{Check, none_applies, numbers_of, check, length_checks, finite_checks, limit_checks}
use Rattle.call.proofs.FirstFacts.{Exactly, Given, given-at, is_one_of, FirstDecides, first-decides}
use Rattle.complex.specs.declared.number.Complex.{Complex}
use Rattle.gamma_ln.specs.GammaLn.{gamma_ln_of, series_argument_of}
use Rattle.gamma_ln.specs.LogGamma.{log_gamma_of, outcome_at}
use Rattle.gamma_ln.specs.Series as stirling
use Rattle.gamma_ln.proofs.Counts.{series-ends}
use Rattle.gamma_ln.specs.LogGamma as log-gammas
use Rattle.refusal.specs.declared.refusal.Refusal.{Refusal}
use Rattle.std.specs.Prelude.{Result}
use Rattle.gamma_ln.proofs.LogGammaFacts as log-gamma
use Rattle.series_sum.specs.Sum.{sum_is_one}
use Rattle.series_sum.proofs.SumEnds.{EndsByTest}
use Rattle.series_step.specs.Setting.{order_plus_one, half_square}
use Rattle.series_step.specs.Setting as series
use Rattle.power_series.proofs.VisitSums.{Wanted, walk_after}
use Rattle.bessel.specs.Arguments.{arguments_of}
use Rattle.bessel.specs.Series.{all_series_checks, series_outcome, visited_by, visit_checks}
use Rattle.bessel.specs.I.{i_outcome}
use Rattle.bessel.specs.K.{ground_by, all_k_checks, k_outcome, kernel_by, kernel_checks}
use Rattle.bessel.specs.declared.arguments.Arguments.{Arguments}
use Rattle.bessel.proofs.CallFacts.{RefusedWhole}
use Rattle.bessel.proofs.SeriesOutcome as i
use Rattle.bessel.proofs.SumsEnd.{answered-sums-end}
use Rattle.bessel.proofs.KernelOutcome as k
use Rattle.bessel.proofs.KernelSums.{Sums}
use Rattle.bessel.proofs.KernelSums as k-sums
use Rattle.bessel.proofs.OffHalf.{NeitherZero, off-half}
use Rattle.bessel.specs.Checks.{k_checks, argument_checks, k_own_checks, series_own_checks, series_checks}
use Rattle.right_half_plane.specs.ByMiller.{is_half}
use Rattle.bessel.proofs.LogGammas.{Asked as LogGammaAsked, answered-log-gammas-end, Seeding, seeding, recurring}
use Rattle.right_half_plane.specs.declared.ground.Ground.{Ground}
use Rattle.right_half_plane.specs.Ground.{ground_of, nearest_order}
use Rattle.right_half_plane.specs.Kernel.{kernel_of}
use Rattle.right_half_plane.specs.Reach.{steps_of}
use Rattle.right_half_plane.specs.Refusals.{start_refused, climb_refused, no_neighbours, climb_end}
use Rattle.right_half_plane.proofs.RefusalFacts.{refuses, start-exactly, climb-exactly, all-offsets}
use Rattle.refusal.specs.declared.refusal.Refusal.TheVariants.{Start, Climb, Length, NotFinite, Order, Sign, Size, Zero, Series, Overflow}
use Rattle.series_step.specs.declared.setting.Setting.{Setting}
use Rattle.series_step.specs.declared.descent.Descent.{Descent}
use Rattle.series_step.specs.Step.{step_of}
use Rattle.series_step.proofs.MarkFacts.{mark-stays}
use Rattle.machine.specs.Constants.{absolute_approximation_limit}
use Rattle.complex.specs.Functions.{modulus_of}
use Rattle.frame.specs.declared.asking.Asking.{Asking}
use Rattle.frame.specs.declared.asking.Fields.{Fields}
use Rattle.frame.specs.declared.reading.Record as readings
use Rattle.frame.specs.Layout.{byte_width, record_length, asking_length}
use Rattle.frame.specs.Digits.{number_of}
use Rattle.frame.specs.Asking.{framed_of, parsed_of, asking_line_of, FieldsFit, asked_of, asked_in}
use Rattle.frame.specs.Writing.{line_of, written_of}
use Rattle.frame.specs.Reading.{reading_of, cell_bits_of, bits_read, RecordFits, said_of, line_again}
use Rattle.frame.proofs.AskingInverse.{asking-read, asking-again}
use Rattle.frame.proofs.AnswerInverse.{answered-read, refused-read, cell-read, answered-numbers-read, refused-numbers-read, cell-of-numbers-read, line-again}
use Rattle.answering.specs.Called.{called_of, called_as, outcome_line}
use Rattle.answering.specs.Line.{outcome_of, answer_line_of, bytes_into}
use Rattle.answering.specs.Fields.{pairs_of}
use Rattle.frame.proofs.OverFacts.{offered-none, offered-room}
use Rattle.answering.specs.Lines.{output_of}
use Rattle.answering.specs.Feed.{handed_from, joined_of}
use Rattle.answering.proofs.FieldsRead.{fields_read}
use Rattle.answering.proofs.WholeInput.{cut-anywhere}
use Rattle.answering.proofs.AnswerLines.{refused-length, pairs-length, number_read}
use Rattle.machine.specs.Small.{nothing}
use Rattle.rounding.specs.Round.{round_of}
use Rattle.call.specs.Limits.{length_inside, are_finite, order_inside, sign_inside, size_inside, is_zero}
use Rattle.cells.specs.AllFinite.{all_finite}
use Rattle.power_series.specs.Visit.{Walk, next_walk}
use Rattle.series_step.specs.Recurred.{recurred_of}
use Rattle.right_half_plane.proofs.OrderFacts.{order-cast}
use Rattle.bessel.specs.Outcome.{refused_outcome}
use Rattle.bessel.proofs.CheckFacts.{k-passed}
use Rattle.bessel.proofs.ArgumentFacts.{order-limits}
use Rattle.bessel.proofs.ZeroSigns.{k-order, k-part, series-order, series-part}
use Rattle.call.specs.declared.kind.Kind.{Kind}
use Rattle.call.specs.declared.kind.Kind.TheVariants.{K, I}
use Rattle.frame.specs.Over.{over}
use Rattle.frame.proofs.AskingFacts.{other_length}
use Rattle.answering.proofs.LineFacts.{asked-line}
use Rattle.answering.proofs.LengthRefused.{length-called, too_many}
use Rattle.claims.proofs.Steps.{OfSteps, of_steps}
use Rattle.claims.proofs.Complexes.{OfComplex, of-complex}
use Rattle.claims.proofs.LogGammaNumbers.{no_other, no_value, exported-numbers}
use Rattle.power_series.specs.Series.{beyond_series}
use Rattle.capi.specs.declared.LogGamma as exported
use Rattle.capi.specs.Outcome.{is_scaled, answer_of, outcome_of as exported_log_gamma}
use Rattle.claims.proofs.Determined.{Determined, Gives, one-result, one-outcome}
use Rattle.claims.proofs.Routines.{OneResult, OfRoutines, of-routines}
use Rattle.claims.proofs.Rows.{Rows, rows}
use Rattle.claims.proofs.Numbers.{NumberOfK, NumberOfSeries, number-of-k, number-of-series}
use Rattle.claims.proofs.Sweeps.{OfSweep, of-sweep}
use Rattle.claims.proofs.Pages.{OfPage, of-page}
use Rattle.claims.proofs.Lines.{nine-exactly, line-number-k, line-number-i, line-no-other}
use Rattle.refusal.specs.Number.{number_of as refusal-number}

-- ---- any call: refused by the first of its checks that applies, admitted exactly when none does
pub record OfChecks : Type 0 where
  pub first : (checks : List Check) → FirstDecides checks
  -- a number that stands once in a list is given exactly when its own check applies and none before it does
  pub once :
      (before : List Check) (here : Check) (after : List Check) (m : ℕ) → let n = refusal-number here.refusal in
      Given (before ++ (here ∷ after)) m → is_one_of n (numbers_of before) ≡ false → is_one_of n (numbers_of after) ≡ false → Exactly (m ≡ n) (none_applies before && here.applies)

pub of-checks : OfChecks
of-checks = record { first = first-decides; once = given-at }

-- ---- K
pub record OfK : Type 0 where
  -- the contract of `k` gives the record and the cells: no second outcome fits it. `k_outcome` has no argument for what the cells held before
  pub one-outcome : (scaled : Bool) (v re im : Float) (length : ℕ) → let o = k_outcome scaled v re im length in Determined (Gives o.answer o.cells)
  -- each number exactly when its check is the first that applies, 0 exactly when none does; 3, 11 and 12 by the limit that was hit; no number but those of the list
  pub number : (scaled : Bool) (v re im : Float) (length : ℕ) → NumberOfK scaled v re im length (number_in (k_outcome scaled v re im length).answer)
  pub listed : (scaled : Bool) (a : Arguments) (length : ℕ) → numbers_of (all_k_checks scaled a length) ≡ 1 ∷ 2 ∷ 3 ∷ 11 ∷ 12 ∷ 4 ∷ 6 ∷ 7 ∷ 8 ∷ []
  -- the list itself: the conditions in their order, over the call's own arguments and steps
  pub table :
      (scaled : Bool) (a : Arguments) (length : ℕ) →
      all_k_checks scaled a length
      ≡ check (not (length_inside length)) Length
      ∷ check (not (are_finite a.order a.z.re a.z.im)) NotFinite
      ∷ check (not (order_inside a.order)) Order
      ∷ check (not (sign_inside a.z.re)) Sign
      ∷ check (not (size_inside a.z.re a.z.im)) Size
      ∷ check (is_zero a.z.re a.z.im) Zero
      ∷ check (start_refused (ground_by a length)) Start
      ∷ check (climb_refused (ground_by a length) scaled) Climb
      ∷ check (not (all_finite (kernel_by scaled a length).cells)) Overflow
      ∷ []
  -- an order or a real part of -0 is first made +0
  pub zero-order : (scaled : Bool) (v re im : Float) (length : ℕ) → eq v nothing ≡ true → k_outcome scaled v re im length ≡ k_outcome scaled nothing re im length
  pub zero-part : (scaled : Bool) (v re im : Float) (length : ℕ) → eq re nothing ≡ true → k_outcome scaled v re im length ≡ k_outcome scaled v nothing im length
  -- the words of 6 and of 7 are true of a call's steps exactly where the kernel ends so; without two neighbours every offset was climbed
  pub six : (scaled : Bool) (order : Float) (z : Complex) (modulus : Float) (n : ℕ) → start_refused (ground_of order z modulus n) ≡ refuses Start (kernel_of scaled order z modulus n).ending
  pub seven : (scaled : Bool) (order : Float) (z : Complex) (modulus : Float) (n : ℕ) → climb_refused (ground_of order z modulus n) scaled ≡ refuses Climb (kernel_of scaled order z modulus n).ending
  pub all-offsets : (g : Ground) (first second : Complex) → no_neighbours (climb_end g first second) ≡ true → (climb_end g first second).rungs ≡ steps_of g
  -- refused, with the fixed not-a-number in every cell and counts of zero; or answered by the defined steps
  pub whole :
      (scaled : Bool) (v re im : Float) (length : ℕ) →
      RefusedWhole length (k_outcome scaled v re im length) ⊎ k.AnsweredWhole scaled (arguments_of v re im) length (k_outcome scaled v re im length)
  -- a number above 0 is a refusal's, and 0 an answer's; as many cells are left as were lent
  pub refused : (scaled : Bool) (v re im : Float) (length : ℕ) → 0 < number_in (k_outcome scaled v re im length).answer → RefusedWhole length (k_outcome scaled v re im length)
  pub answered :
      (scaled : Bool) (v re im : Float) (length : ℕ) → number_in (k_outcome scaled v re im length).answer ≡ 0 →
      k.AnsweredWhole scaled (arguments_of v re im) length (k_outcome scaled v re im length)
  pub cells : (scaled : Bool) (v re im : Float) (length : ℕ) → length-of (k_outcome scaled v re im length).cells ≡ length
  -- r is the order rounded: where the checks are passed, it is a whole number to 1,000, which its type holds
  pub rounded :
      (v re im : Float) (length : ℕ) → none_applies (k_checks (arguments_of v re im) length) ≡ true →
      let order = (arguments_of v re im).order in T (in_unsigned binary64 32 (round_of order)) × (nearest_order order ≤ 1000)
  -- in every answered call: r + n - 2 rungs, which is none for r = 0 and n = 1, at most 256 backward steps, +0 in the entries before the count
  pub counts :
      (scaled : Bool) (v re im : Float) (length : ℕ) → number_in (k_outcome scaled v re im length).answer ≡ 0 →
      k.Counted scaled (arguments_of v re im) length (k_outcome scaled v re im length)
  pub terms : (scaled : Bool) (v re im : Float) (length : ℕ) → number_in (k_outcome scaled v re im length).answer ≡ 0 → longest_in (k_outcome scaled v re im length).answer ≤ 18
  -- in every answered call no sum ends for want of steps (every f64 fits binary64): where Temme's branch is taken, this call's sum, if it is begun, its difference series, where it is
  -- taken, and the series of its one log-gamma end by their own tests; any other branch begins none
  pub sums :
      (scaled : Bool) (v re im : Float) (length : ℕ) → T (fits binary64 v) → number_in (k_outcome scaled v re im length).answer ≡ 0 →
      Sums scaled (arguments_of v re im) length (k_outcome scaled v re im length)
  -- where the checks are passed and the fraction is not ±½, neither |cos(π fraction)| nor |1/4 - fraction²| is zero: the Rust text's tests for these never hold
  pub off-half :
      (v re im : Float) (length : ℕ) → T (fits binary64 v) → none_applies (k_checks (arguments_of v re im) length) ≡ true →
      is_half (ground_by (arguments_of v re im) length).fraction ≡ false → NeitherZero (arguments_of v re im) length

pub of-k : OfK
unfolding all_k_checks k_checks k_own_checks argument_checks length_checks finite_checks limit_checks kernel_checks
of-k = record {
  one-outcome = λ scaled v re im length. let o = k_outcome scaled v re im length in one-outcome o.answer o.cells;
  number = number-of-k;
  listed = k.listed;
  table = λ scaled a length. refl;
  zero-order = λ scaled v re im length. k-order scaled false v re im length;
  zero-part = λ scaled v re im length. k-part scaled false v re im length;
  six = start-exactly;
  seven = climb-exactly;
  all-offsets = all-offsets;
  whole = k.whole;
  refused = k.refused-whole;
  answered = k.answered-whole;
  cells = k.cells-length;
  rounded = λ v re im length n. let a = arguments_of v re im in let o = order-limits v re im length (k-passed a length n) in order-cast a.order o.0 o.1;
  counts = k.answered-counts;
  terms = k.answered-terms;
  sums = k-sums.answered-sums-end;
  off-half = off-half;
}

-- ---- the power series, for either sign of z²/4: I is the one that is not turned
pub record OfSeries : Type 0 where
  pub one-outcome :
      (scaled turned : Bool) (v re im : Float) (length : ℕ) → let o = series_outcome scaled turned v re im length in Determined (Gives o.answer o.cells)
  pub number : (scaled turned : Bool) (v re im : Float) (length : ℕ) → NumberOfSeries scaled turned v re im length (number_in (series_outcome scaled turned v re im length).answer)
  pub listed : (scaled turned : Bool) (a : Arguments) (length : ℕ) → numbers_of (all_series_checks scaled turned a length) ≡ 1 ∷ 2 ∷ 3 ∷ 11 ∷ 12 ∷ 5 ∷ 8 ∷ []
  pub table :
      (scaled turned : Bool) (a : Arguments) (length : ℕ) →
      all_series_checks scaled turned a length
      ≡ check (not (length_inside length)) Length
      ∷ check (not (are_finite a.order a.z.re a.z.im)) NotFinite
      ∷ check (not (order_inside a.order)) Order
      ∷ check (not (sign_inside a.z.re)) Sign
      ∷ check (not (size_inside a.z.re a.z.im)) Size
      ∷ check (beyond_series a.order (length / 2) a.modulus) Series
      ∷ check (not (all_finite (i.finished_of (visited_by scaled turned a length)))) Overflow
      ∷ []
  pub zero-order :
      (scaled turned : Bool) (v re im : Float) (length : ℕ) → eq v nothing ≡ true → series_outcome scaled turned v re im length ≡ series_outcome scaled turned nothing re im length
  pub zero-part :
      (scaled turned : Bool) (v re im : Float) (length : ℕ) → eq re nothing ≡ true → series_outcome scaled turned v re im length ≡ series_outcome scaled turned v nothing im length
  pub whole :
      (scaled turned : Bool) (v re im : Float) (length : ℕ) →
      RefusedWhole length (series_outcome scaled turned v re im length) ⊎ i.AnsweredWhole scaled turned (arguments_of v re im) length (series_outcome scaled turned v re im length)
  pub refused :
      (scaled turned : Bool) (v re im : Float) (length : ℕ) → 0 < number_in (series_outcome scaled turned v re im length).answer → RefusedWhole length (series_outcome scaled turned v re im length)
  pub answered :
      (scaled turned : Bool) (v re im : Float) (length : ℕ) → number_in (series_outcome scaled turned v re im length).answer ≡ 0 →
      i.AnsweredWhole scaled turned (arguments_of v re im) length (series_outcome scaled turned v re im length)
  pub cells : (scaled turned : Bool) (v re im : Float) (length : ℕ) → length-of (series_outcome scaled turned v re im length).cells ≡ length
  -- in every answered call: the counts of the visit's steps; at most n zeros, n - 2 steps of the recurrence and 19 terms of a sum; no backward step
  pub counts :
      (scaled turned : Bool) (v re im : Float) (length : ℕ) → number_in (series_outcome scaled turned v re im length).answer ≡ 0 →
      i.Counted scaled turned (arguments_of v re im) length (series_outcome scaled turned v re im length)
  -- every sum that an answered call begins meets its own test by the term 19
  pub sums : (scaled turned : Bool) (v re im : Float) (length : ℕ) → T (fits binary64 re) → T (fits binary64 im) → number_in (series_outcome scaled turned v re im length).answer ≡ 0 →
      (at : ℕ) → let a = arguments_of v re im in let g = series.setting_of scaled turned a.order a.z a.modulus in let u = order_plus_one a.order ((walk_after g (length / 2) at).standing.left - 1) in
      Wanted (walk_after g (length / 2) at) → sum_is_one (half_square a.modulus) u ≡ false → EndsByTest g.half_z_sq (half_square a.modulus) u
  -- where the visit asks for log-gamma: at an order that it seeds, of that order plus one; a step of the recurrence asks for none
  pub seeding : (g : Setting) (w : Walk) → Wanted w → Seeding g w
  pub recurring : (g : Setting) (w : Walk) → 2 ≤ w.standing.state.seeded → (next_walk g w).standing.state ≡ recurred_of g (w.standing.left - 1) w.standing.state
  -- every log-gamma that it asks for is of an argument above zero, and its series ends by its own test
  pub log-gammas :
      (scaled turned : Bool) (v re im : Float) (length : ℕ) → number_in (series_outcome scaled turned v re im length).answer ≡ 0 →
      (x : Float) → LogGammaAsked scaled turned (arguments_of v re im) length x → T (positive x) × stirling.EndsByTest (series_argument_of x)
  -- the near-underflow mark, once set, stays until an entry's modulus exceeds A
  pub mark :
      (g : Setting) (k : ℕ) (s : Descent) → s.near_underflow ≡ true →
      let t = step_of g k s in (t.near_underflow ≡ true) ⊎ T (lt absolute_approximation_limit (modulus_of t.above))

pub of-series : OfSeries
unfolding all_series_checks series_checks series_own_checks argument_checks length_checks finite_checks limit_checks visit_checks
of-series = record {
  one-outcome = λ scaled turned v re im length. let o = series_outcome scaled turned v re im length in one-outcome o.answer o.cells;
  number = number-of-series;
  listed = i.listed;
  table = λ scaled turned a length. refl;
  zero-order = series-order;
  zero-part = series-part;
  whole = i.whole;
  refused = i.refused-whole;
  answered = i.answered-whole;
  cells = i.cells-length;
  counts = i.answered-counts;
  sums = answered-sums-end;
  seeding = seeding;
  recurring = recurring;
  log-gammas = answered-log-gammas-end;
  mark = mark-stays;
}

-- ---- I: all that is said of the series, with `turned` false
pub record OfI : Type 0 where
  pub as-series : (scaled : Bool) (v re im : Float) (length : ℕ) → i_outcome scaled v re im length ≡ series_outcome scaled false v re im length
  pub one-outcome : (scaled : Bool) (v re im : Float) (length : ℕ) → let o = i_outcome scaled v re im length in Determined (Gives o.answer o.cells)
  pub number : (scaled : Bool) (v re im : Float) (length : ℕ) → NumberOfSeries scaled false v re im length (number_in (i_outcome scaled v re im length).answer)
  pub whole :
      (scaled : Bool) (v re im : Float) (length : ℕ) →
      RefusedWhole length (i_outcome scaled v re im length) ⊎ i.AnsweredWhole scaled false (arguments_of v re im) length (i_outcome scaled v re im length)
  pub counts :
      (scaled : Bool) (v re im : Float) (length : ℕ) → number_in (i_outcome scaled v re im length).answer ≡ 0 →
      i.Counted scaled false (arguments_of v re im) length (i_outcome scaled v re im length)
  pub listed : (scaled : Bool) (a : Arguments) (length : ℕ) → numbers_of (all_series_checks scaled false a length) ≡ 1 ∷ 2 ∷ 3 ∷ 11 ∷ 12 ∷ 5 ∷ 8 ∷ []
  pub sums : (scaled : Bool) (v re im : Float) (length : ℕ) → T (fits binary64 re) → T (fits binary64 im) → number_in (i_outcome scaled v re im length).answer ≡ 0 →
      (at : ℕ) → let a = arguments_of v re im in let g = series.setting_of scaled false a.order a.z a.modulus in let u = order_plus_one a.order ((walk_after g (length / 2) at).standing.left - 1) in
      Wanted (walk_after g (length / 2) at) → sum_is_one (half_square a.modulus) u ≡ false → EndsByTest g.half_z_sq (half_square a.modulus) u
  pub log-gammas :
      (scaled : Bool) (v re im : Float) (length : ℕ) → number_in (i_outcome scaled v re im length).answer ≡ 0 →
      (x : Float) → LogGammaAsked scaled false (arguments_of v re im) length x → T (positive x) × stirling.EndsByTest (series_argument_of x)

pub of-i : OfI
unfolding i_outcome
of-i = record {
  as-series = λ scaled v re im length. refl;
  one-outcome = λ scaled v re im length. let o = i_outcome scaled v re im length in one-outcome o.answer o.cells;
  number = λ scaled v re im length. number-of-series scaled false v re im length;
  whole = λ scaled v re im length. i.whole scaled false v re im length;
  counts = λ scaled v re im length. i.answered-counts scaled false v re im length;
  listed = λ scaled a length. i.listed scaled false a length;
  sums = λ scaled v re im length. answered-sums-end scaled false v re im length;
  log-gammas = λ scaled v re im length. answered-log-gammas-end scaled false v re im length;
}

-- ---- log-gamma: one definition gives the number and the values of each case of its result
pub record OfLogGamma : Type 0 where
  pub one-outcome : (x : Float) → Determined (λ (a : Result Float Refusal). log-gammas.outcome_of a ≡ outcome_at x)
  pub value :
      (x : Float) →
      ((outcome_at x).number ≡ 0 → T (positive x) × T (finite (gamma_ln_of x).value))
      × (T (positive x) → T (finite (gamma_ln_of x).value) → outcome_at x ≡ log-gammas.answered (gamma_ln_of x).value)
  pub numbers : (x : Float) → Given (log-gammas.all_checks x) (outcome_at x).number
  pub listed : (x : Float) → numbers_of (log-gammas.all_checks x) ≡ 2 ∷ 10 ∷ 8 ∷ []
  pub no_other : (x : Float) → T (is_one_of (outcome_at x).number (0 ∷ 2 ∷ 10 ∷ 8 ∷ []))
  -- a refusal has no value
  pub no_value : (x : Float) → ((outcome_at x).number ≡ 0 → ⊥) → (outcome_at x).values ≡ []
  -- what the code's steps come to is this outcome
  pub steps : (x : Float) → log-gammas.outcome_of (log_gamma_of x) ≡ outcome_at x
  -- its series ends by its own test, wherever it is asked for
  pub ends : (x : Float) → T (positive x) → stirling.EndsByTest (series_argument_of x)

pub of-log-gamma : OfLogGamma
of-log-gamma = record {
  one-outcome = log-gamma.only-outcome;
  value = log-gamma.value-exactly;
  numbers = log-gamma.numbers;
  listed = log-gamma.listed;
  no_other = no_other;
  no_value = no_value;
  steps = log-gamma.steps-outcome;
  ends = series-ends;
}

-- ---- the functions of the C boundary, but the sweep's (Sweeps.antt) and the page's (Pages.antt): of each, one result. `lichenoar_sqrt` to `lichenoar_round` promise the equations of their routines
pub record OfExports : Type 0 where
  pub routines : OneResult
  pub log-gamma : (x : Float) → Determined (λ (r : exported.LogGamma). r ≡ exported_log_gamma (log_gamma_of x))
  pub i :
      (scaled : ℕ) (v re im : Float) (length : ℕ) →
      let o = i_outcome (is_scaled scaled) v re im length in Determined (Gives (answer_of o.answer) o.cells)
  pub k :
      (scaled : ℕ) (v re im : Float) (length : ℕ) →
      let o = k_outcome (is_scaled scaled) v re im length in Determined (Gives (answer_of o.answer) o.cells)
  -- the numbers that C is handed are those of log-gamma, of I and of K
  pub log-gamma-number :
      (x : Float) →
      Given (log-gammas.all_checks x) (exported_log_gamma (log_gamma_of x)).number × T (is_one_of (exported_log_gamma (log_gamma_of x)).number (0 ∷ 2 ∷ 10 ∷ 8 ∷ []))
  pub i-number : (scaled : ℕ) (v re im : Float) (length : ℕ) → NumberOfSeries (is_scaled scaled) false v re im length (answer_of (i_outcome (is_scaled scaled) v re im length).answer).number
  pub k-number : (scaled : ℕ) (v re im : Float) (length : ℕ) → NumberOfK (is_scaled scaled) v re im length (answer_of (k_outcome (is_scaled scaled) v re im length).answer).number

pub of-exports : OfExports
unfolding i_outcome
of-exports = record {
  routines = of-routines.one-result;
  log-gamma = λ x. one-result (exported_log_gamma (log_gamma_of x));
  i = λ scaled v re im length. let o = i_outcome (is_scaled scaled) v re im length in one-outcome (answer_of o.answer) o.cells;
  k = λ scaled v re im length. let o = k_outcome (is_scaled scaled) v re im length in one-outcome (answer_of o.answer) o.cells;
  log-gamma-number = exported-numbers;
  i-number = λ scaled v re im length. number-of-series (is_scaled scaled) false v re im length;
  k-number = λ scaled v re im length. number-of-k (is_scaled scaled) v re im length;
}

-- ---- lines, with no kernel beneath them: what is written is read back, and what is read is what was written
pub record OfFrames : Type 0 where
  pub asking-read : (f : Fields) → FieldsFit f → framed_of (asking_line_of f) ≡ Some f
  pub asking-again : (line : List ℕ) (f : Fields) → framed_of line ≡ Some f → asking_line_of f ≡ line
  pub answered-read :
      (a : Answer) (cells : List Float) (n : ℕ) → RecordFits (said_of a n) → number_in a ≡ 0 → length-of cells ≡ n * 2 → reading_of (line_of a cells) ≡ Some (said_of a n)
  pub refused-read : (a : Answer) (cells : List Float) → RecordFits (said_of a 0) → (number_in a ≡ 0 → ⊥) → reading_of (line_of a cells) ≡ Some (said_of a 0)
  pub cell-read :
      (a : Answer) (cells : List Float) (at : ℕ) (z : Float) → number_in a ≡ 0 → at < length-of cells → T (fits binary64 (get_or cells at z)) →
      cell_bits_of at (line_of a cells) ≡ to_bits binary64 (get_or cells at z)
  -- the same of any five numbers, whether or not they are an answer's: a number that is no refusal's, counts beside another number than 0
  pub answered-numbers-read : (r : readings.Record) (cells : List Float) → RecordFits r → r.number ≡ 0 → length-of cells ≡ r.pairs * 2 → reading_of (written_of r cells) ≡ Some r
  pub refused-numbers-read : (r : readings.Record) (cells : List Float) → RecordFits r → (r.number ≡ 0 → ⊥) → reading_of (written_of r cells) ≡ Some r
  pub cell-of-numbers-read :
      (r : readings.Record) (cells : List Float) (at : ℕ) (z : Float) → r.number ≡ 0 → at < length-of cells → T (fits binary64 (get_or cells at z)) →
      cell_bits_of at (written_of r cells) ≡ to_bits binary64 (get_or cells at z)
  pub answer-again : (line : List ℕ) (r : readings.Record) → reading_of line ≡ Some r → line_again r (bits_read (r.pairs * 2) line) ≡ line

pub of-frames : OfFrames
of-frames = record {
  asking-read = asking-read;
  asking-again = asking-again;
  answered-read = answered-read;
  refused-read = refused-read;
  cell-read = cell-read;
  answered-numbers-read = answered-numbers-read;
  refused-numbers-read = refused-numbers-read;
  cell-of-numbers-read = cell-of-numbers-read;
  answer-again = line-again;
}

-- ---- answer lines
pub record OfLines : Type 0 where
  -- the contract of `answer_line` gives the length that the line has and the bytes that are then lent: no second line fits it
  pub one_line : (d line : List ℕ) → Determined (Gives (length-of (answer_line_of line)) (bytes_into d line))
  -- the line is written over the first bytes where there is room; lent less than it has, every byte stays
  pub room : (d line : List ℕ) → length-of (answer_line_of line) ≤ length-of d → bytes_into d line ≡ over 0 (answer_line_of line) d
  pub no_room : (d line : List ℕ) → length-of d < length-of (answer_line_of line) → bytes_into d line ≡ d
  -- the line of a frame is that of the call which it asks for, on two cells a pair, re before im; more than 512 pairs get refusal 1
  pub asked : (line : List ℕ) (a : Asking) → parsed_of line ≡ Some a → answer_line_of line ≡ line_of (called_of a (a.count * 2)).answer (called_of a (a.count * 2)).cells
  pub called-k : (a : Asking) (n : ℕ) → a.kind ≡ K → called_of a n ≡ k_outcome a.scaled a.v a.re a.im n
  pub called-i : (a : Asking) (n : ℕ) → a.kind ≡ I → called_of a n ≡ i_outcome a.scaled a.v a.re a.im n
  pub too_many : (a : Asking) → 512 < a.count → called_of a (a.count * 2) ≡ refused_outcome Length (a.count * 2)
  -- what is no frame is malformed, by its length or by a digit; a frame is asked by its fields, of which a kind or a scaling can be wrong (`asked_of`)
  pub framed : (line : List ℕ) (f : Fields) → framed_of line ≡ Some f → parsed_of line ≡ asked_of f
  pub unframed : (line : List ℕ) → framed_of line ≡ None → parsed_of line ≡ None
  pub other_length : (line : List ℕ) → (length-of line ≡ asking_length → ⊥) → parsed_of line ≡ None
  -- the first two digits are the outcome's number, of which is true what is said of K's and of I's; 9 exactly for a malformed line; no number but these
  pub number : (line : List ℕ) → number_of (take byte_width (answer_line_of line)) ≡ (number_in (outcome_of (parsed_of line)).answer)
  pub k-number :
      (line : List ℕ) (a : Asking) → parsed_of line ≡ Some a → a.kind ≡ K →
      NumberOfK a.scaled a.v a.re a.im (a.count * 2) (number_of (take byte_width (answer_line_of line)))
  pub i-number :
      (line : List ℕ) (a : Asking) → parsed_of line ≡ Some a → a.kind ≡ I →
      NumberOfSeries a.scaled false a.v a.re a.im (a.count * 2) (number_of (take byte_width (answer_line_of line)))
  pub no_other : (line : List ℕ) → T (is_one_of (number_of (take byte_width (answer_line_of line))) (0 ∷ 9 ∷ 1 ∷ 2 ∷ 3 ∷ 11 ∷ 12 ∷ 4 ∷ 5 ∷ 6 ∷ 7 ∷ 8 ∷ []))
  pub malformed : (line : List ℕ) → let number = number_of (take byte_width (answer_line_of line)) in (number ≡ 9 → parsed_of line ≡ None) × (parsed_of line ≡ None → number ≡ 9)
  -- 18 digits, and 32 more a pair behind the number 0
  pub refused-length : (line : List ℕ) → ((number_in (outcome_of (parsed_of line)).answer) ≡ 0 → ⊥) → length-of (answer_line_of line) ≡ record_length
  pub answered-length :
      (line : List ℕ) (a : Asking) → parsed_of line ≡ Some a → number_in (called_of a (a.count * 2)).answer ≡ 0 → length-of (answer_line_of line) ≡ record_length + a.count * 32
  -- every answer line can be read, and its fields are the record's, all of them, with the pairs that follow
  pub fields : (line : List ℕ) → let p = parsed_of line in reading_of (answer_line_of line) ≡ Some (said_of (outcome_of p).answer (pairs_of p))

pub of-lines : OfLines
unfolding outcome_line called_of called_as parsed_of asked_in
of-lines = record {
  one_line = λ d line. one-outcome (length-of (answer_line_of line)) (bytes_into d line);
  room = λ d line h. offered-room (answer_line_of line) d h;
  no_room = λ d line h. offered-none (answer_line_of line) d h;
  asked = λ line a e. asked-line line a e;
  called-k = λ a n e. ap (λ (kind : Kind). called_as kind a n) e;
  called-i = λ a n e. ap (λ (kind : Kind). called_as kind a n) e;
  too_many = λ a h. length-called a (a.count * 2) (too_many a.count h);
  framed = λ line f e. ap asked_in e;
  unframed = λ line e. ap asked_in e;
  other_length = other_length;
  number = number_read;
  k-number = line-number-k;
  i-number = line-number-i;
  no_other = line-no-other;
  malformed = nine-exactly;
  refused-length = refused-length;
  answered-length = pairs-length;
  fields = fields_read;
}

-- ---- an input: what is to be handed to the writer, whatever pieces the reads bring, is one answer line for each line of it, with its newline; the program's own
-- functions, proved over these definitions, are crate lichenoar's, which no other crate can cite
pub record OfInput : Type 0 where
  pub cut-anywhere : (chunks : List (List ℕ)) → handed_from [] chunks ≡ output_of (joined_of chunks)

pub of-input : OfInput
of-input = record { cut-anywhere = cut-anywhere }

-- ---- all of it
pub record Claims : Type 0 where
  pub tried : Rows
  pub of-checks : OfChecks
  pub of-k : OfK
  pub of-series : OfSeries
  pub of-i : OfI
  pub of_steps : OfSteps
  pub of-log-gamma : OfLogGamma
  pub of-routines : OfRoutines
  pub of-complex : OfComplex
  pub of-exports : OfExports
  pub of-frames : OfFrames
  pub of-lines : OfLines
  pub of-input : OfInput
  pub of-sweep : OfSweep
  pub of-page : OfPage
