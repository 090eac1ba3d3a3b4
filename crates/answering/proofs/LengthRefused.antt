-- Refusals as lines: a refusal's line is its record, and a count that no buffer can have is refused for its length, whatever else the frame
-- says. Assumes nothing.
use mathlib.Core.Path.{◌≡◌, refl, ap, ◌∙◌}
use mathlib.Core.Bool.{Bool, true, false, ◌&&◌}
use mathlib.Core.List.{List, ◌++◌}
use Prim.Native.Nat.{ℕ, ◌*◌, ◌<◌}
use native.Mathlib.Omega.{arith}
use borrow.Author.Tests.{lt-leb}
use lib.Dec.{ltb}
use Rattle.refusal.proofs.Distinct.{never-zero}
use Rattle.refusal.specs.declared.refusal.Refusal.{Refusal}
use Rattle.refusal.specs.declared.refusal.Refusal.TheVariants.{Length}
use Rattle.call.specs.declared.kind.Kind.{Kind}
use Rattle.call.specs.declared.kind.Kind.TheVariants.{K, I}
use Rattle.call.specs.Answer.{refused_of}
use Rattle.call.specs.Limits.{length_inside}
use Rattle.call.specs.Checks.{Check, Verdict, Refused, refused_if, verdict_from, verdict_of, length_checks}
use Rattle.call.proofs.FirstFacts.{stays}
use Rattle.frame.specs.declared.asking.Asking.{Asking}
use Rattle.frame.specs.Writing.{record_of}
use Rattle.frame.proofs.WriteFacts.{line_refused}
use Rattle.bessel.specs.Arguments.{arguments_of}
use Rattle.bessel.specs.Checks.{argument_checks, k_checks, series_checks}
use Rattle.bessel.specs.Outcome.{Steps, refused_outcome, outcome_by, call_outcome}
use Rattle.bessel.specs.Series.{visited_by, visit_steps, series_outcome}
use Rattle.bessel.specs.I.{i_outcome}
use Rattle.bessel.specs.K.{k_steps, k_outcome}
use Rattle.answering.specs.Called.{called_as, called_of, outcome_line}

pub refused-line : (r : Refusal) (length : ℕ) → outcome_line (refused_outcome r length) ≡ record_of (refused_of r)
unfolding outcome_line refused_outcome refused_of
refused-line r length = line_refused (refused_of r) _ (λ e. omega (arith, never-zero r))

-- the length is the first check of every call
by_length : (length : ℕ) (later : List Check) → length_inside length ≡ false → verdict_of (length_checks length ++ later) ≡ Refused Length
unfolding verdict_of verdict_from refused_if length_checks
by_length length later e = rw e (stays Length later)

module _ (length : ℕ) (later : List Check) (steps : Steps) where
  refused-first : length_inside length ≡ false → call_outcome (length_checks length ++ later) length steps ≡ refused_outcome Length length
  unfolding call_outcome outcome_by
  refused-first e = ap (λ (v : Verdict). outcome_by v length steps) (by_length length later e)

called : (kind : Kind) (a : Asking) (length : ℕ) → length_inside length ≡ false → called_as kind a length ≡ refused_outcome Length length
unfolding called_as k_outcome i_outcome series_outcome k_checks series_checks argument_checks length_checks
called K a length e = refused-first length _ (k_steps a.scaled (arguments_of a.v a.re a.im) length) e
called I a length e = refused-first length _ (visit_steps (visited_by a.scaled false (arguments_of a.v a.re a.im) length)) e

pub length-called : (a : Asking) (length : ℕ) → length_inside length ≡ false → called_of a length ≡ refused_outcome Length length
unfolding called_of
length-called a length e = called a.kind a length e

pub length-refused : (a : Asking) (length : ℕ) → length_inside length ≡ false → outcome_line (called_of a length) ≡ record_of (refused_of Length)
length-refused a length e = ap outcome_line (length-called a length e) ∙ refused-line Length length

-- above 512 pairs
pub too_many : (n : ℕ) → 512 < n → length_inside (n * 2) ≡ false
unfolding length_inside
too_many n h = simp (lt-leb (n * 2) 1024 (omega arith)) (never (ltb 0 (n * 2)))
  where
    never : (b : Bool) → (b && false) ≡ false
    never true = refl
    never false = refl
