-- The number of an answer line: that of the call asked for, 9 exactly for a malformed line, and no number but these. Assumes nothing.
use Rattle.std.specs.Prelude.{Option, Some, None}
use Rattle.call.specs.Answer.{number_in}
use mathlib.Core.Path.{◌≡◌, refl, sym, ap, ◌∙◌, subst}
use mathlib.Core.Bool.{Bool, true, false, ◌||◌, ◌&&◌}
use mathlib.Core.List.{List, [], ◌∷◌}
use Prim.Native.Nat.{ℕ, ◌*◌}
use lib.Dec.{T, lit<, eqb, eqb→eq}
use lib.Ieee.Fits.{and_l, and_r}
use lib.ListN.{take}
use Rattle.call.specs.declared.kind.Kind.{Kind}
use Rattle.call.specs.declared.kind.Kind.TheVariants.{K, I}
use Rattle.call.specs.Answer.{refused_of}
use Rattle.call.proofs.FirstFacts.{is_one_of}
use Rattle.bessel.specs.Arguments.{arguments_of}
use Rattle.bessel.specs.Outcome.{refused_outcome}
use Rattle.bessel.specs.I.{i_outcome}
use Rattle.bessel.specs.K.{k_outcome}
use Rattle.bessel.proofs.SeriesOutcome as i
use Rattle.bessel.proofs.KernelOutcome as k
use Rattle.frame.specs.declared.asking.Asking.{Asking}
use Rattle.frame.specs.Layout.{byte_width}
use Rattle.frame.specs.Digits.{number_of}
use Rattle.frame.specs.Asking.{parsed_of}
use Rattle.answering.specs.Called.{called_as, called_of}
use Rattle.answering.specs.Line.{outcome_of, answer_line_of}
use Rattle.answering.proofs.AnswerLines.{number_read}
use Rattle.claims.proofs.Numbers.{NumberOfK, NumberOfSeries, number-of-k, number-of-series}

-- 9 is in neither list
called-never : (kind : Kind) (a : Asking) (length : ℕ) → number_in (called_as kind a length).answer ≡ 9 → ⊥
unfolding called_as i_outcome
called-never K a length e =
    let b = arguments_of a.v a.re a.im in
    subst (λ (l : List ℕ). T (is_one_of 9 l)) (k.listed a.scaled b length) ((k.numbers a.scaled a.v a.re a.im length).only 9 (lit< tt) e)
called-never I a length e =
    let b = arguments_of a.v a.re a.im in
    subst (λ (l : List ℕ). T (is_one_of 9 l)) (i.listed a.scaled false b length) ((i.numbers a.scaled false a.v a.re a.im length).only 9 (lit< tt) e)

outcome-nine : (p : Option Asking) → number_in (outcome_of p).answer ≡ 9 → p ≡ None
unfolding outcome_of called_of
outcome-nine (Some a) e = absurd (called-never a.kind a (a.count * 2) e)
outcome-nine None e = refl

nine-outcome : number_in (outcome_of None).answer ≡ 9
unfolding outcome_of refused_outcome refused_of
nine-outcome = refl

pub nine-exactly : (line : List ℕ) → let number = number_of (take byte_width (answer_line_of line)) in (number ≡ 9 → parsed_of line ≡ None) × (parsed_of line ≡ None → number ≡ 9)
nine-exactly line = (λ e. outcome-nine (parsed_of line) (sym (number_read line) ∙ e), λ e. number_read line ∙ ap (λ (p : Option Asking). (number_in (outcome_of p).answer)) e ∙ nine-outcome)

-- ---- the number of a frame's answer is that of the call that it asks for
pub line-number-k : (line : List ℕ) (a : Asking) → parsed_of line ≡ Some a → a.kind ≡ K →
    NumberOfK a.scaled a.v a.re a.im (a.count * 2) (number_of (take byte_width (answer_line_of line)))
unfolding outcome_of called_of called_as
line-number-k line a e h =
    let n = a.count * 2 in
    subst (NumberOfK a.scaled a.v a.re a.im n)
    (sym (number_read line ∙ ap (λ (p : Option Asking). (number_in (outcome_of p).answer)) e ∙ ap (λ (kind : Kind). (number_in (called_as kind a n).answer)) h))
    (number-of-k a.scaled a.v a.re a.im n)

pub line-number-i : (line : List ℕ) (a : Asking) → parsed_of line ≡ Some a → a.kind ≡ I →
    NumberOfSeries a.scaled false a.v a.re a.im (a.count * 2) (number_of (take byte_width (answer_line_of line)))
unfolding outcome_of called_of called_as i_outcome
line-number-i line a e h =
    let n = a.count * 2 in
    subst (NumberOfSeries a.scaled false a.v a.re a.im n)
    (sym (number_read line ∙ ap (λ (p : Option Asking). (number_in (outcome_of p).answer)) e ∙ ap (λ (kind : Kind). (number_in (called_as kind a n).answer)) h))
    (number-of-series a.scaled false a.v a.re a.im n)

-- ---- no number but these: what holds of all of a list holds of one of it
unfoldable pub all_of : (ℕ → Bool) → List ℕ → Bool
all_of P [] = true
all_of P (x ∷ xs) = P x && all_of P xs

pub one_of_all : (P : ℕ → Bool) (m : ℕ) (xs : List ℕ) → T (all_of P xs) → T (is_one_of m xs) → T (P m)
unfolding all_of
one_of_all P m [] w t = absurd t
one_of_all P m (x ∷ xs) w t = by (eqb x m) refl t (one_of_all P m xs (and_r (P x) (all_of P xs) w))
  where
    by : (b : Bool) → eqb x m ≡ b → T (b || is_one_of m xs) → (T (is_one_of m xs) → T (P m)) → T (P m)
    by true e u h = subst (λ (n : ℕ). T (P n)) (eqb→eq x m (subst T (sym e) tt)) (and_l (P x) (all_of P xs) w)
    by false e u h = h u

-- 0, the program's 9, and what K and I can give
abbrev pub line_numbers : List ℕ
line_numbers = 0 ∷ 9 ∷ 1 ∷ 2 ∷ 3 ∷ 11 ∷ 12 ∷ 4 ∷ 5 ∷ 6 ∷ 7 ∷ 8 ∷ []

called-listed : (kind : Kind) (a : Asking) (n : ℕ) → T (is_one_of (number_in (called_as kind a n).answer) line_numbers)
unfolding called_as i_outcome all_of
called-listed K a n =
    let m = number_in (k_outcome a.scaled a.v a.re a.im n).answer in
    one_of_all (λ x. is_one_of x line_numbers) m (0 ∷ 1 ∷ 2 ∷ 3 ∷ 11 ∷ 12 ∷ 4 ∷ 6 ∷ 7 ∷ 8 ∷ []) tt (number-of-k a.scaled a.v a.re a.im n).no_other
called-listed I a n =
    let m = number_in (i_outcome a.scaled a.v a.re a.im n).answer in
    one_of_all (λ x. is_one_of x line_numbers) m (0 ∷ 1 ∷ 2 ∷ 3 ∷ 11 ∷ 12 ∷ 5 ∷ 8 ∷ []) tt (number-of-series a.scaled false a.v a.re a.im n).no_other

outcome-listed : (p : Option Asking) → T (is_one_of (number_in (outcome_of p).answer) line_numbers)
unfolding outcome_of called_of refused_outcome refused_of
outcome-listed (Some a) = called-listed a.kind a (a.count * 2)
outcome-listed None = tt

pub line-no-other : (line : List ℕ) → T (is_one_of (number_of (take byte_width (answer_line_of line))) line_numbers)
line-no-other line = subst (λ (n : ℕ). T (is_one_of n line_numbers)) (sym (number_read line)) (outcome-listed (parsed_of line))
