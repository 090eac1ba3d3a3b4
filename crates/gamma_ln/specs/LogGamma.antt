-- What the entry point answers: a value, or one refusal; and the number and the values that each case of the result stands for. Definitions
-- only.
use Rattle.std.specs.Prelude.{ℕ, not, cond, List, [], ◌∷◌, ◌++◌, Result, Ok, Err, Float}
use Rattle.std.specs.Float.Ieee.{le}
use Rattle.std.specs.Float.Ieee.Scale.{finite}
use Rattle.machine.specs.Small.{nothing}
use Rattle.refusal.specs.Number.{number_of}
use Rattle.refusal.specs.declared.refusal.Refusal.{Refusal}
use Rattle.refusal.specs.declared.refusal.Refusal.TheVariants.{NotFinite, NotPositive, Overflow}
use Rattle.call.specs.Checks.{Check, check, Verdict, verdict_of}
use Rattle.gamma_ln.specs.GammaLn.{gamma_ln_of}

-- not finite: 2; 0 or less: 10
unfoldable pub argument_checks : Float → List Check
argument_checks x =
    check (not (finite x)) NotFinite
    ∷ check (le x nothing) NotPositive
    ∷ []

-- a value that is not finite: 8
unfoldable pub valued_of : Float → Result Float Refusal
valued_of value = cond (finite value) (Ok value) (Err Overflow)

unfoldable pub log_gamma_by : Verdict → Float → Result Float Refusal
log_gamma_by (Ok admitted) value = valued_of value
log_gamma_by (Err refusal) value = Err refusal

-- the case of the result, as the steps come to it
unfoldable pub log_gamma_of : Float → Result Float Refusal
log_gamma_of x = log_gamma_by (verdict_of (argument_checks x)) (gamma_ln_of x).value

-- ---- all checks, that which the value answers too: 8 is the last
unfoldable pub all_checks : Float → List Check
all_checks x = argument_checks x ++ (check (not (finite (gamma_ln_of x).value)) Overflow ∷ [])

-- ---- an outcome on paper: its number, and its values
pub record Outcome : Type 0 where
  pub number : ℕ
  pub values : List Float

-- a value has the number 0
abbrev pub answered : Float → Outcome
answered v = record { number = 0; values = v ∷ [] }

-- a refusal has its own number and no value
abbrev pub refused : Refusal → Outcome
refused r = record { number = number_of r; values = [] }

-- the outcome that each case of the result stands for
abbrev pub outcome_of : Result Float Refusal → Outcome
outcome_of (Ok v) = answered v
outcome_of (Err r) = refused r

-- the outcome of x: the first check that applies refuses; where none does, the value
unfoldable pub outcome_by : Verdict → Float → Outcome
outcome_by (Ok admitted) value = answered value
outcome_by (Err refusal) value = refused refusal

unfoldable pub outcome_at : Float → Outcome
outcome_at x = outcome_by (verdict_of (all_checks x)) (gamma_ln_of x).value
