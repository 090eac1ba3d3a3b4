-- The three lines of docs/SCOPE.md's example and their answers, computed from the definitions. Assumes nothing.
use mathlib.Core.Path.{◌≡◌, refl, ap, ◌∙◌}
use mathlib.Core.Bool.{false}
use mathlib.Core.List.{List, [], ◌∷◌, ◌++◌}
use Prim.Native.Nat.{ℕ}
use borrow.Author.Tests.{eqb-false}
use lib.IntN.{pos}
use lib.ListN.{replicate}
use lib.Ieee.{Float, binary64, of_bits, to_bits, of_int, round, size, neg, add, mul, eq, le, lt}
use Rattle.std.proofs.Common.{Some}
use Rattle.machine.specs.Constants.{underflow_limit}
use Rattle.refusal.specs.declared.refusal.Refusal.TheVariants as refusals
use Rattle.roots.specs.Hypot.{hypot_of}
use Rattle.machine.specs.Magnitude.{magnitude_of}
use Rattle.complex.specs.Functions.{modulus_of}
use Rattle.series_step.specs.Setting.{order_at, order_plus_one}
use Rattle.power_series.specs.Series.{beyond_series}
use Rattle.power_series.specs.Tiny.{lowest_of, zeros_of, tiny_of}
use Rattle.power_series.specs.Series.{power_series_if, power_series_of}
use Rattle.cells.specs.AllFinite.{all_finite}
use Rattle.call.specs.declared.kind.Kind.TheVariants.{K, I}
use Rattle.call.specs.Answer.{answered_of, refused_of}
use Rattle.call.specs.Limits.{normalised_of, length_inside, are_finite, order_inside, sign_inside, part_inside, size_inside, is_zero}
use Rattle.call.specs.Checks.{Verdict, Admitted, Refused, refused_if, verdict_from, verdict_of, length_checks, finite_checks, limit_checks}
use Rattle.frame.specs.declared.asking.Asking.{Asking}
use Rattle.frame.specs.Digits.{is_digit, are_digits, worth_of, number_from, number_of, digit_of, spelled_of}
use Rattle.frame.specs.Asking.{fields_of, framed_of, asking_of, asked_of, asked_in, parsed_of}
use Rattle.frame.specs.Writing.{twos_complement, spelled_record, record_of, cells_of, line_of}
use Rattle.frame.proofs.AskingFacts.{other_length}
use Rattle.bessel.specs.declared.arguments.Arguments.{Arguments}
use Rattle.bessel.specs.Arguments.{arguments_of}
use Rattle.bessel.specs.Checks.{argument_checks, k_own_checks, k_checks, series_own_checks, series_checks}
use Rattle.bessel.specs.Outcome.{Outcome, refused_outcome, judged_if, judged_of, concluded_of, outcome_by, call_outcome}
use Rattle.bessel.specs.Series.{visited_by, visit_answer, visit_steps, series_outcome}
use Rattle.bessel.specs.I.{i_outcome}
use Rattle.bessel.specs.K.{k_steps, k_outcome}
use Rattle.answering.specs.Called.{called_as, called_of, outcome_line}
use Rattle.answering.specs.Line.{answer_line_of}
use Rattle.answering.proofs.LengthRefused.{refused-line}
use Rattle.answering.proofs.LineFacts.{asked-line, malformed-line}

-- the digit 0, so many times
abbrev noughts : ℕ → List ℕ
noughts n = replicate n 48

abbrev nought : Float
nought = of_bits binary64 0

-- ---- the order 0 at 0
abbrev origin : Arguments
origin = record { order = nought; z = record { re = nought; im = nought }; modulus = nought }

prepared : arguments_of nought nought nought ≡ origin
unfolding arguments_of normalised_of modulus_of hypot_of magnitude_of of_bits of_int round size neg add mul eq le lt
prepared = refl

series-admitted : verdict_of (series_checks origin 4) ≡ Admitted
unfolding verdict_of verdict_from refused_if series_checks series_own_checks argument_checks length_checks finite_checks limit_checks length_inside are_finite order_inside sign_inside part_inside size_inside beyond_series order_plus_one order_at of_bits of_int round size neg add mul eq le lt
series-admitted = refl

k-refused : verdict_of (k_checks origin 2) ≡ Refused refusals.Zero
unfolding verdict_of verdict_from refused_if k_checks k_own_checks argument_checks length_checks finite_checks limit_checks length_inside are_finite order_inside sign_inside part_inside size_inside is_zero of_bits neg eq le lt
k-refused = refl

-- ---- 02 00 0002 and zeros: I of 0, two entries, 1 and 0
abbrev first : List ℕ
first = 48 ∷ 50 ∷ noughts 5 ++ (50 ∷ noughts 48)

abbrev asking : Asking
asking = record { kind = I; scaled = false; count = 2; v = nought; re = nought; im = nought }

first-parsed : parsed_of first ≡ Some asking
unfolding parsed_of framed_of asked_in are_digits is_digit worth_of fields_of number_of number_from asked_of asking_of
first-parsed = refl

abbrev one-and-nought : Outcome
one-and-nought = record { answer = answered_of (pos 0) 0 0 0; cells = of_bits binary64 0x3FF0000000000000 ∷ nought ∷ nought ∷ nought ∷ [] }

visited : concluded_of 4 (visit_steps (visited_by false false origin 4)) ≡ one-and-nought
unfolding concluded_of visit_steps visited_by visit_answer judged_of judged_if all_finite power_series_of power_series_if tiny_of lowest_of zeros_of order_plus_one order_at magnitude_of underflow_limit of_bits of_int round size neg add mul eq le lt
visited = refl

first-called : called_of asking 4 ≡ one-and-nought
unfolding called_of called_as i_outcome series_outcome call_outcome outcome_by
first-called =
    ap (λ (a : Arguments). call_outcome (series_checks a 4) 4 (visit_steps (visited_by false false a 4))) prepared
    ∙ ap (λ (v : Verdict). outcome_by v 4 (visit_steps (visited_by false false origin 4))) series-admitted
    ∙ visited

first-written : outcome_line one-and-nought ≡ noughts 18 ++ (51 ∷ 70 ∷ 70 ∷ noughts 61)
unfolding outcome_line line_of answered_of record_of spelled_record twos_complement cells_of spelled_of digit_of to_bits of_bits
first-written = refl

pub first-answer : answer_line_of first ≡ noughts 18 ++ (51 ∷ 70 ∷ 70 ∷ noughts 61)
first-answer = asked-line first asking first-parsed ∙ ap outcome_line first-called ∙ first-written

-- ---- 01 00 0001 and zeros: K of 0, refusal 4
abbrev second : List ℕ
second = 48 ∷ 49 ∷ noughts 5 ++ (49 ∷ noughts 48)

abbrev asking-k : Asking
asking-k = record { kind = K; scaled = false; count = 1; v = nought; re = nought; im = nought }

second-parsed : parsed_of second ≡ Some asking-k
unfolding parsed_of framed_of asked_in are_digits is_digit worth_of fields_of number_of number_from asked_of asking_of
second-parsed = refl

second-called : called_of asking-k 2 ≡ refused_outcome refusals.Zero 2
unfolding called_of called_as k_outcome call_outcome outcome_by
second-called =
    ap (λ (a : Arguments). call_outcome (k_checks a 2) 2 (k_steps false a 2)) prepared ∙ ap (λ (v : Verdict). outcome_by v 2 (k_steps false origin 2)) k-refused

pub second-answer : answer_line_of second ≡ 48 ∷ 52 ∷ noughts 16
unfolding record_of spelled_record refused_of twos_complement spelled_of digit_of
second-answer = asked-line second asking-k second-parsed ∙ ap outcome_line second-called ∙ refused-line refusals.Zero 2

-- ---- 0200 alone: malformed
pub third-answer : answer_line_of (48 ∷ 50 ∷ 48 ∷ 48 ∷ []) ≡ 48 ∷ 57 ∷ noughts 16
unfolding record_of spelled_record refused_of twos_complement spelled_of digit_of
third-answer = malformed-line (48 ∷ 50 ∷ 48 ∷ 48 ∷ []) (other_length (48 ∷ 50 ∷ 48 ∷ 48 ∷ []) (λ e. absurd (eqb-false 4 56 refl e)))
