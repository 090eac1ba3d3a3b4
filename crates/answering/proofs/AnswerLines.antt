-- What is shown of answer lines: their lengths, the number in the first two digits, and digits alone. Assumes nothing.
use mathlib.Core.Path.{◌≡◌, ap, ◌∙◌}
use mathlib.Core.Logic.{inl, inr}
use mathlib.Core.Bool.{true, false}
use mathlib.Core.List.{List}
use Prim.Native.Nat.{ℕ, ◌+◌, ◌*◌, ◌<◌}
use native.Mathlib.Omega.{arith}
use lib.ListN.{length, take}
use Rattle.std.proofs.Common.{Option, None, Some}
use Rattle.refusal.specs.declared.refusal.Refusal.TheVariants as refusals
use Rattle.refusal.proofs.Distinct.{one_byte}
use Rattle.call.specs.declared.kind.Kind.{Kind}
use Rattle.call.specs.declared.kind.Kind.TheVariants.{K, I}
use Rattle.call.specs.Answer.{number_in, answered_of, refused_of}
use Rattle.frame.specs.declared.asking.Asking.{Asking}
use Rattle.frame.specs.Layout.{byte_width, record_length}
use Rattle.frame.specs.Digits.{are_digits, number_of, spelled_of}
use Rattle.frame.specs.Asking.{parsed_of}
use Rattle.frame.proofs.FieldFacts.{number-back}
use Rattle.frame.proofs.WriteFacts.{record-length, line_refused, line-digits, line-number}
use Rattle.bessel.specs.Outcome.{refused_outcome}
use Rattle.bessel.specs.K.{counts_answer}
use Rattle.bessel.specs.Series.{visit_answer}
use Rattle.bessel.specs.I.{i_outcome}
use Rattle.bessel.proofs.KernelOutcome as kernel
use Rattle.bessel.proofs.SeriesOutcome as series
use Rattle.answering.specs.Called.{called_as, called_of, outcome_line}
use Rattle.answering.specs.Line.{outcome_of, answer_line_of}
use Rattle.answering.proofs.LineFacts.{asked-line, answered-length}

-- ---- 18 digits, and for an answer 32 more for each pair
pub refused-length : (line : List ℕ) → (number_in (outcome_of (parsed_of line)).answer ≡ 0 → ⊥) → length (answer_line_of line) ≡ record_length
unfolding answer_line_of outcome_line
refused-length line h = let o = outcome_of (parsed_of line) in ap length (line_refused o.answer o.cells h) ∙ record-length o.answer

pub pairs-length : (line : List ℕ) (a : Asking) → parsed_of line ≡ Some a → number_in (called_of a (a.count * 2)).answer ≡ 0 → length (answer_line_of line) ≡ record_length + a.count * 32
pairs-length line a e h = ap length (asked-line line a e) ∙ answered-length a h

-- ---- every number fits one byte
pub called-number : (kind : Kind) (a : Asking) (n : ℕ) → number_in (called_as kind a n).answer < 256
unfolding called_as i_outcome counts_answer visit_answer answered_of
called-number K a n =
    elim (kernel.whole a.scaled a.v a.re a.im n) [
      | inl r ↦ omega (arith, r.number, one_byte r.refusal)
      | inr w ↦ omega (arith, ap number_in w.answer)
    ]
called-number I a n =
    elim (series.whole a.scaled false a.v a.re a.im n) [
      | inl r ↦ omega (arith, r.number, one_byte r.refusal)
      | inr w ↦ omega (arith, ap number_in w.answer)
    ]

parsed-number : (p : Option Asking) → number_in (outcome_of p).answer < 256
unfolding outcome_of called_of refused_outcome refused_of
parsed-number (Some a) = called-number a.kind a (a.count * 2)
parsed-number None = one_byte refusals.Malformed

-- ---- the first two digits, read back, are the number
pub number-first : (line : List ℕ) → take byte_width (answer_line_of line) ≡ spelled_of byte_width (number_in (outcome_of (parsed_of line)).answer)
unfolding answer_line_of outcome_line
number-first line = let o = outcome_of (parsed_of line) in line-number o.answer o.cells

pub number_read : (line : List ℕ) → number_of (take byte_width (answer_line_of line)) ≡ number_in (outcome_of (parsed_of line)).answer
number_read line = ap number_of (number-first line) ∙ number-back byte_width _ (parsed-number (parsed_of line))

-- ---- every byte is an upper-case digit, so that a newline behind a line ends it
pub all_digits : (line : List ℕ) → are_digits (answer_line_of line) ≡ true
unfolding answer_line_of outcome_line
all_digits line = let o = outcome_of (parsed_of line) in line-digits o.answer o.cells
