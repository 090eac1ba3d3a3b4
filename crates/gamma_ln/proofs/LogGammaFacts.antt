-- What log-gamma gives, exactly when: one outcome for each argument, and each number under its own condition and no other. Assumes nothing.
use mathlib.Core.Path.{◌≡◌, refl, sym, ap, ◌∙◌, subst}
use mathlib.Core.Bool.{Bool, true, false, not, cond}
use mathlib.Core.List.{[], ◌∷◌}
use Prim.Native.Nat.{ℕ, ◌<◌}
use Rattle.std.specs.Prelude.{Result, Ok, Err}
use native.Mathlib.Nat.{lt_irrefl, mul-pos}
use native.Mathlib.Omega.{arith}
use lib.Dec.{T, not_T, ltb→lt}
use lib.ListN.{get_or}
use lib.Ieee.{Float, nan, inf, fin, binary64, of_bits, round, to_unsigned, le, lt, eq}
use lib.Ieee.Fits.{up_pos}
use lib.Ieee.Scale.{finite}
use lib.Ieee.Positive.{positive, positive-finite}
use Rattle.laws.proofs.First.{passed, failed}
use Rattle.laws.proofs.Order.{nought, le-refl-finite, nonpos}
use Rattle.machine.specs.Small.{nothing}
use Rattle.rounding.specs.Round.{round_of, nearest_whole}
use Rattle.refusal.specs.Number.{number_of}
use Rattle.refusal.specs.declared.refusal.Refusal.{Refusal}
use Rattle.refusal.specs.declared.refusal.Refusal.TheVariants.{NotFinite, NotPositive, Overflow}
use Rattle.refusal.proofs.Distinct.{distinct, never-zero}
use Rattle.call.specs.Checks.{Verdict, Admitted, Refused, refused_if, verdict_from, verdict_of}
use Rattle.call.specs.Checks as calls
use Rattle.call.proofs.FirstFacts.{verdict-append, Given, given}
use Rattle.gamma_ln_tables.specs.Tables.{whole_values}
use Rattle.gamma_ln.specs.GammaLn.{is_tabulated, tabulated_of, gamma_ln_of}
use Rattle.gamma_ln.specs.LogGamma.{argument_checks, valued_of, log_gamma_by, log_gamma_of, all_checks, Outcome, answered, outcome_of, outcome_by, outcome_at}
use Rattle.gamma_ln.proofs.Arguments.{above_zero}

-- ---- the steps come to the defined outcome
by_value : (b : Bool) (v : Float) → outcome_of (cond b (Ok v) (Err Overflow)) ≡ outcome_by (cond (not b) (Refused Overflow) Admitted) v
unfolding outcome_by
by_value true v = refl
by_value false v = refl

by-verdict : (verdict : Verdict) (v : Float) → outcome_of (log_gamma_by verdict v) ≡ outcome_by (refused_if verdict (not (finite v)) Overflow) v
unfolding refused_if log_gamma_by valued_of outcome_by
by-verdict (Ok admitted) v = by_value (finite v) v
by-verdict (Err r) v = refl

pub steps-outcome : (x : Float) → outcome_of (log_gamma_of x) ≡ outcome_at x
unfolding log_gamma_of outcome_at all_checks verdict_of verdict_from
steps-outcome x =
    let v = (gamma_ln_of x).value in
    by-verdict (verdict_of (argument_checks x)) v ∙ ap (λ (w : Verdict). outcome_by w v) (sym (verdict-append Admitted (argument_checks x) _))

-- ---- one case for one outcome
value_of : Outcome → Float
value_of o = get_or o.values 0 nan

number_in : Outcome → ℕ
number_in o = o.number

no_number : (r : Refusal) → 0 ≡ number_of r → ⊥
no_number r e = lt_irrefl 0 (subst (λ (n : ℕ). 0 < n) (sym e) (never-zero r))

pub one-case : (a b : Result Float Refusal) → outcome_of a ≡ outcome_of b → a ≡ b
unfolding value_of number_in
one-case (Ok v) (Ok w) e = ap Ok (ap value_of e)
one-case (Ok v) (Err s) e = absurd (no_number s (ap number_in e))
one-case (Err r) (Ok w) e = absurd (no_number r (sym (ap number_in e)))
one-case (Err r) (Err s) e = ap Err (distinct r s (ap number_in e))

-- the contract of `log_gamma` leaves one case of the result, the defined one, and no second outcome
pub defined : (x : Float) (a : Result Float Refusal) → outcome_of a ≡ outcome_at x → a ≡ log_gamma_of x
defined x a p = one-case a (log_gamma_of x) (p ∙ sym (steps-outcome x))

pub only-outcome : (x : Float) (a b : Result Float Refusal) → outcome_of a ≡ outcome_at x → outcome_of b ≡ outcome_at x → a ≡ b
only-outcome x a b p q = one-case a b (p ∙ sym q)

-- ---- the number, exactly when, and no other than the list's: 2, 10 and 8
number_by : (verdict : Verdict) (v : Float) → calls.number_given verdict ≡ (outcome_by verdict v).number
unfolding outcome_by calls.number_given
number_by (Ok admitted) v = refl
number_by (Err r) v = refl

pub numbers : (x : Float) → Given (all_checks x) (outcome_at x).number
unfolding outcome_at
numbers x = subst (Given (all_checks x)) (number_by (verdict_of (all_checks x)) (gamma_ln_of x).value) (given (all_checks x))

pub listed : (x : Float) → calls.numbers_of (all_checks x) ≡ 2 ∷ 10 ∷ 8 ∷ []
unfolding calls.numbers_of all_checks argument_checks
listed x = refl

-- ---- above zero and finite, as the two tests say it
positive-of-tests : (x : Float) → finite x ≡ true → le x nothing ≡ false → T (positive x)
unfolding of_bits
positive-of-tests x f z = let F = subst T (sym f) tt in above_zero x x z F (le-refl-finite x F)

pub positive-not-le : (x : Float) → T (positive x) → le x nothing ≡ false
unfolding of_bits
positive-not-le nan p = absurd p
positive-not-le (inf s) p = absurd p
positive-not-le (fin true m e) p = absurd p
positive-not-le (fin false m e) p =
    failed (le (fin false m e) nought)
    (not_T (le (fin false m e) nought) (λ t. lt_irrefl 0 (subst (λ (k : ℕ). 0 < k) (nonpos (fin false m e) tt t) (mul-pos (ltb→lt 0 m p) (up_pos e)))))

-- ---- a value, and then the value of `gamma_ln_of`: the argument is finite and above zero, and the value is finite
abbrev picked : Bool → Bool → Bool → Float → Result Float Refusal
picked f z g v = cond f (cond z (Err NotPositive) (cond g (Ok v) (Err Overflow))) (Err NotFinite)

picks_by : (f z : Bool) (v : Float) → log_gamma_by (refused_if (refused_if Admitted (not f) NotFinite) z NotPositive) v ≡ picked f z (finite v) v
unfolding refused_if log_gamma_by valued_of
picks_by true true v = refl
picks_by true false v = refl
picks_by false z v = refl

picks : (x : Float) → log_gamma_of x ≡ picked (finite x) (le x nothing) (finite (gamma_ln_of x).value) (gamma_ln_of x).value
unfolding log_gamma_of verdict_of verdict_from argument_checks
picks x = picks_by (finite x) (le x nothing) (gamma_ln_of x).value

by_zero : (f z g : Bool) (v : Float) → (outcome_of (picked f z g v)).number ≡ 0 → (f ≡ true) × (z ≡ false) × (g ≡ true)
by_zero false z g v e = absurd (omega arith)
by_zero true true g v e = absurd (omega arith)
by_zero true false true v e = (refl, refl, refl)
by_zero true false false v e = absurd (omega arith)

pub value-exactly :
    (x : Float) →
    ((outcome_at x).number ≡ 0 → T (positive x) × T (finite (gamma_ln_of x).value))
    × (T (positive x) → T (finite (gamma_ln_of x).value) → outcome_at x ≡ answered (gamma_ln_of x).value)
unfolding number_in
value-exactly x =
    let p = ap outcome_of (sym (picks x)) ∙ steps-outcome x in (
      λ e. let w = by_zero (finite x) (le x nothing) (finite (gamma_ln_of x).value) (gamma_ln_of x).value (ap number_in p ∙ e) in (positive-of-tests x w.0 w.1, subst T (sym w.2) tt),
      λ a g. sym p ∙ simp (passed (finite x) (positive-finite x a), positive-not-le x a, passed (finite (gamma_ln_of x).value) g),
    )

-- ---- by computation: log-gamma of 1 and of 2 is +0, of either zero there is none
pub of_one : log_gamma_of (of_bits binary64 0x3FF0000000000000) ≡ Ok (of_bits binary64 0)
unfolding log_gamma_of log_gamma_by valued_of verdict_of verdict_from refused_if argument_checks gamma_ln_of is_tabulated tabulated_of whole_values round_of nearest_whole round of_bits le lt eq to_unsigned
of_one = refl

pub of_two : log_gamma_of (of_bits binary64 0x4000000000000000) ≡ Ok (of_bits binary64 0)
unfolding log_gamma_of log_gamma_by valued_of verdict_of verdict_from refused_if argument_checks gamma_ln_of is_tabulated tabulated_of whole_values round_of nearest_whole round of_bits le lt eq to_unsigned
of_two = refl

pub of_zero : log_gamma_of (of_bits binary64 0) ≡ Err NotPositive
unfolding log_gamma_of log_gamma_by verdict_of verdict_from refused_if argument_checks of_bits le lt eq
of_zero = refl

pub of-minus-zero : log_gamma_of (of_bits binary64 0x8000000000000000) ≡ Err NotPositive
unfolding log_gamma_of log_gamma_by verdict_of verdict_from refused_if argument_checks of_bits le lt eq
of-minus-zero = refl
