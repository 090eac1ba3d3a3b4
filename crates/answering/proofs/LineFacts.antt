-- The answer line from its parts: by what was parsed, how long it is, into lent bytes, and from the first 57 bytes of a line alone.
-- Assumes nothing.
use mathlib.Core.Path.{◌≡◌, refl, ap, ◌∙◌}
use mathlib.Core.Bool.{Bool, true, false}
use mathlib.Core.List.{List}
use Prim.Native.Nat.{ℕ, ◌+◌, ◌*◌, ◌≤◌}
use native.Mathlib.Omega.{arith}
use lib.Ieee.{Float}
use lib.ListN.{length, take}
use Rattle.std.proofs.Common.{Option, None, Some}
use Rattle.refusal.specs.declared.refusal.Refusal.TheVariants as refusals
use Rattle.call.specs.declared.kind.Kind.{Kind}
use Rattle.call.specs.declared.kind.Kind.TheVariants.{K, I}
use Rattle.call.specs.Answer.{Answer, number_in, refused_of}
use Rattle.call.specs.Limits.{length_inside}
use Rattle.call.proofs.LimitFacts.{lent}
use Rattle.frame.specs.declared.asking.Fields.{Fields}
use Rattle.frame.specs.declared.asking.Asking.{Asking}
use Rattle.frame.specs.Layout.{float_width, record_length, longest_line}
use Rattle.frame.specs.Over.{over, offered}
use Rattle.frame.specs.Asking.{framed_of, asked_of, asked_in, parsed_of}
use Rattle.frame.specs.Writing.{record_of, line_of}
use Rattle.frame.proofs.AskingFacts.{parsed-kept}
use Rattle.frame.proofs.OverFacts.{offered-room}
use Rattle.frame.proofs.WriteFacts.{record-length, line-length, line-most}
use Rattle.bessel.specs.Outcome.{Outcome}
use Rattle.bessel.specs.I.{i_outcome}
use Rattle.bessel.proofs.KernelOutcome as kernel
use Rattle.bessel.proofs.SeriesOutcome as series
use Rattle.answering.specs.Called.{called_as, called_of, outcome_line, called_line}
use Rattle.answering.specs.Line.{outcome_of, answer_line_of, parsed_line, bytes_into}
use Rattle.answering.proofs.LengthRefused.{refused-line, length-refused}

-- ---- by what was parsed
pub called-line : (o : Outcome) (a : Answer) (cells : List Float) → a ≡ o.answer → cells ≡ o.cells → line_of a cells ≡ outcome_line o
unfolding outcome_line
called-line o a cells e f = ap (λ (x : Answer). line_of x cells) e ∙ ap (line_of o.answer) f

pub framed-line : (line : List ℕ) (f : Fields) → framed_of line ≡ Some f → answer_line_of line ≡ parsed_line (asked_of f)
unfolding answer_line_of parsed_of asked_in
framed-line line f e = ap (λ (x : Option Fields). parsed_line (asked_in x)) e

pub asked-line : (line : List ℕ) (a : Asking) → parsed_of line ≡ Some a → answer_line_of line ≡ outcome_line (called_of a (a.count * 2))
unfolding answer_line_of outcome_of
asked-line line a e = ap (λ (p : Option Asking). outcome_line (outcome_of p)) e

pub malformed-line : (line : List ℕ) → parsed_of line ≡ None → answer_line_of line ≡ record_of (refused_of refusals.Malformed)
unfolding answer_line_of outcome_of
malformed-line line e = ap (λ (p : Option Asking). outcome_line (outcome_of p)) e ∙ refused-line refusals.Malformed 0

-- ---- how long it is
outcome-length : (o : Outcome) → length (outcome_line o) ≤ record_length + length o.cells * float_width
unfolding outcome_line
outcome-length o = line-most o.answer o.cells

called-as-cells : (kind : Kind) (a : Asking) (n : ℕ) → length (called_as kind a n).cells ≡ n
unfolding called_as i_outcome
called-as-cells K a n = kernel.cells-length a.scaled a.v a.re a.im n
called-as-cells I a n = series.cells-length a.scaled false a.v a.re a.im n

-- a cell's value for each of the 2n cells
pub called-cells : (a : Asking) (n : ℕ) → length (called_of a n).cells ≡ n
unfolding called_of
called-cells a n = called-as-cells a.kind a n

-- an answer of n pairs
pub answered-length : (a : Asking) → number_in (called_of a (a.count * 2)).answer ≡ 0 → length (outcome_line (called_of a (a.count * 2))) ≡ record_length + a.count * 32
unfolding outcome_line
answered-length a e =
    let o = called_of a (a.count * 2) in
    line-length o.answer o.cells e ∙ omega (arith, called-cells a (a.count * 2))

asked-bound : (a : Asking) (b : Bool) → length_inside (a.count * 2) ≡ b → length (outcome_line (called_of a (a.count * 2))) ≤ longest_line
asked-bound a true e =
    let l = lent (a.count * 2) e in
    omega (arith, outcome-length (called_of a (a.count * 2)), called-cells a (a.count * 2))
asked-bound a false e = omega (arith, ap length (length-refused a (a.count * 2) e), record-length (refused_of refusals.Length))

called-bound : (a : Asking) → length (called_line a) ≤ longest_line
called-bound a = asked-bound a (length_inside (a.count * 2)) refl

pub parsed-bound : (p : Option Asking) → length (outcome_line (outcome_of p)) ≤ longest_line
unfolding outcome_of
parsed-bound (Some a) = called-bound a
parsed-bound None = omega (arith, ap length (refused-line refusals.Malformed 0), record-length (refused_of refusals.Malformed))

pub line-bound : (line : List ℕ) → length (answer_line_of line) ≤ longest_line
unfolding answer_line_of
line-bound line = parsed-bound (parsed_of line)

-- ---- into lent bytes: room for the longest line is room for any
pub parsed-roomy : (p : Option Asking) (d : List ℕ) → longest_line ≤ length d → offered (parsed_line p) d ≡ over 0 (parsed_line p) d
parsed-roomy p d h = offered-room (parsed_line p) d (omega (arith, parsed-bound p))

pub roomy : (d line : List ℕ) → longest_line ≤ length d → bytes_into d line ≡ over 0 (answer_line_of line) d
unfolding answer_line_of
roomy d line h = parsed-roomy (parsed_of line) d h

-- ---- a line of another length is malformed whatever it holds, so that the first 57 bytes say all
pub kept : (line : List ℕ) → answer_line_of (take 57 line) ≡ answer_line_of line
unfolding answer_line_of
kept line = ap (λ (p : Option Asking). outcome_line (outcome_of p)) (parsed-kept line)
