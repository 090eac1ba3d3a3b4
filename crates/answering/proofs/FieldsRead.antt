-- Every count of a call that a frame can ask for fits its two bytes, so that the fields of an answer line, read back, are those of the record, whatever the
-- line asked. Assumes nothing.
use mathlib.Core.Path.{◌≡◌, refl}
use mathlib.Core.Bool.{Bool, true, false, cond}
use mathlib.Core.List.{List}
use Prim.Native.Nat.{ℕ, ◌*◌, ◌≤◌, ◌<◌}
use native.Mathlib.Omega.{arith}
use borrow.Author.Tests.{eqb-true, eqb-false}
use lib.Dec.{eqb}
use lib.IntN.{ℤ, pos, negsuc, nat_abs}
use lib.ListN.{length}
use Rattle.std.proofs.Common.{Option, None, Some}
use Rattle.refusal.proofs.Distinct.{one_byte}
use Rattle.refusal.specs.declared.refusal.Refusal.TheVariants as refusals
use Rattle.call.specs.declared.kind.Kind.{Kind}
use Rattle.call.specs.declared.kind.Kind.TheVariants.{K, I}
use Rattle.call.specs.Answer.{number_in, zeros_in, refused_of}
use Rattle.call.proofs.LimitFacts.{Lent, lent}
use Rattle.frame.specs.declared.asking.Asking.{Asking}
use Rattle.frame.specs.Asking.{parsed_of}
use Rattle.frame.specs.Reading.{FitsWord, RecordFits, said_of, reading_of}
use Rattle.frame.proofs.AnswerInverse.{answered-read, refused-read}
use Rattle.bessel.specs.Arguments.{arguments_of}
use Rattle.bessel.specs.Outcome.{Outcome, refused_outcome}
use Rattle.bessel.specs.I.{i_outcome}
use Rattle.bessel.proofs.CallFacts.{refused-facts}
use Rattle.bessel.proofs.CheckFacts.{k-passed, series-passed}
use Rattle.bessel.proofs.CountBounds.{Bounded, refused-bounded, k-bounded, series-bounded}
use Rattle.bessel.proofs.KernelOutcome as kernel
use Rattle.bessel.proofs.SeriesOutcome as series
use Rattle.answering.specs.Called.{called_as, called_of, outcome_line}
use Rattle.answering.specs.Line.{outcome_of, answer_line_of}
use Rattle.answering.specs.Fields.{pairs_of}
use Rattle.answering.proofs.AnswerLines.{called-number}

word_fits : (z : ℤ) → nat_abs z ≤ 512 → FitsWord z
unfolding FitsWord
word_fits (pos n) h = omega arith
word_fits (negsuc n) h = omega arith

-- ---- any outcome of a call: its number fits one byte and its counts two
fits-if : (o : Outcome) (n : ℕ) → Bounded o → number_in o.answer < 256 → (number_in o.answer ≡ 0 → (1 ≤ n) × (n ≤ 512)) → ((number_in o.answer ≡ 0 → ⊥) → n ≡ 0) → RecordFits (said_of o.answer n)
unfolding said_of
fits-if o n b number answered refused =
    record {
      number = number;
      zeros = word_fits (zeros_in o.answer) b.zeros;
      sum = omega (arith, b.longest-sum);
      rungs = omega (arith, b.rungs);
      backward = omega (arith, b.backward);
      answered = answered;
      refused = refused;
    }

pub called-bounded : (kind : Kind) (a : Asking) (n : ℕ) → Bounded (called_as kind a n)
unfolding called_as i_outcome
called-bounded K a n = k-bounded a.scaled a.v a.re a.im n
called-bounded I a n = series-bounded a.scaled false a.v a.re a.im n

called-cells : (kind : Kind) (a : Asking) → length (called_as kind a (a.count * 2)).cells ≡ a.count * 2
unfolding called_as i_outcome
called-cells K a = kernel.cells-length a.scaled a.v a.re a.im (a.count * 2)
called-cells I a = series.cells-length a.scaled false a.v a.re a.im (a.count * 2)

called-lent : (kind : Kind) (a : Asking) → number_in (called_as kind a (a.count * 2)).answer ≡ 0 → Lent (a.count * 2)
unfolding called_as i_outcome
called-lent K a z =
    let n = a.count * 2 in
    lent n (k-passed (arguments_of a.v a.re a.im) n (kernel.answered-whole a.scaled a.v a.re a.im n z).passed).lent
called-lent I a z =
    let n = a.count * 2 in
    lent n (series-passed (arguments_of a.v a.re a.im) n (series.answered-whole a.scaled false a.v a.re a.im n z).passed).0.lent

-- ---- the line of a call, and of no call
asked-read : (a : Asking) (b : Bool) → eqb (number_in (called_of a (a.count * 2)).answer) 0 ≡ b → reading_of (outcome_line (called_of a (a.count * 2))) ≡ Some (said_of (called_of a (a.count * 2)).answer (cond b a.count 0))
unfolding called_of outcome_line
asked-read a true e =
    let o = called_as a.kind a (a.count * 2) in
    let z = eqb-true (number_in o.answer) 0 e in
    let l = called-lent a.kind a z in
    answered-read o.answer o.cells a.count
    (fits-if o a.count (called-bounded a.kind a (a.count * 2)) (called-number a.kind a (a.count * 2)) (λ e. (omega (arith, l.some), omega (arith, l.most))) (λ h. absurd (h z))) z
    (called-cells a.kind a)
asked-read a false e =
    let o = called_as a.kind a (a.count * 2) in
    let h = eqb-false (number_in o.answer) 0 e in
    refused-read o.answer o.cells (fits-if o 0 (called-bounded a.kind a (a.count * 2)) (called-number a.kind a (a.count * 2)) (λ e. absurd (h e)) (λ e. refl)) h

parsed-read : (p : Option Asking) → reading_of (outcome_line (outcome_of p)) ≡ Some (said_of (outcome_of p).answer (pairs_of p))
unfolding outcome_of pairs_of outcome_line refused_outcome refused_of
parsed-read (Some a) = asked-read a (eqb (number_in (called_of a (a.count * 2)).answer) 0) refl
parsed-read None =
    let o = refused_outcome refusals.Malformed 0 in
    let h : number_in o.answer ≡ 0 → ⊥ = λ e. omega (arith, e) in
    refused-read o.answer o.cells (fits-if o 0 (refused-bounded 0 o (refused-facts 0 refusals.Malformed)) (one_byte refusals.Malformed) (λ e. absurd (h e)) (λ e. refl)) h

-- number, zeros, longest sum, rungs, backward steps and pairs, for every line
pub fields_read : (line : List ℕ) → let p = parsed_of line in reading_of (answer_line_of line) ≡ Some (said_of (outcome_of p).answer (pairs_of p))
unfolding answer_line_of
fields_read line = parsed-read (parsed_of line)
