-- The numbers of log-gamma, exhaustive, in C too, and that a refusal has no value. Assumes nothing.
use mathlib.Core.Path.{◌≡◌, refl, sym, ap, ◌∙◌, subst}
use mathlib.Core.List.{[], ◌∷◌}
use lib.Dec.{T}
use lib.Ieee.{Float}
use Rattle.std.specs.Prelude.{Result, Ok, Err}
use Rattle.refusal.specs.declared.refusal.Refusal.{Refusal}
use Rattle.call.specs.Checks.{Verdict, verdict_of}
use Rattle.call.proofs.FirstFacts.{Given, is_one_of, none-or-listed}
use Rattle.gamma_ln.specs.GammaLn.{gamma_ln_of}
use Rattle.gamma_ln.specs.LogGamma.{Outcome, log_gamma_of, all_checks, outcome_of, outcome_by, outcome_at}
use Rattle.gamma_ln.proofs.LogGammaFacts.{numbers, listed, steps-outcome}
use Rattle.capi.specs.Outcome as exported

pub no_other : (x : Float) → T (is_one_of (outcome_at x).number (0 ∷ 2 ∷ 10 ∷ 8 ∷ []))
no_other x = none-or-listed (all_checks x) (outcome_at x).number (2 ∷ 10 ∷ 8 ∷ []) (numbers x) (listed x)

by-verdict : (verdict : Verdict) (value : Float) → ((outcome_by verdict value).number ≡ 0 → ⊥) → (outcome_by verdict value).values ≡ []
unfolding outcome_by
by-verdict (Ok admitted) value h = absurd (h refl)
by-verdict (Err r) value h = refl

pub no_value : (x : Float) → ((outcome_at x).number ≡ 0 → ⊥) → (outcome_at x).values ≡ []
unfolding outcome_at
no_value x h = by-verdict (verdict_of (all_checks x)) (gamma_ln_of x).value h

-- ---- the number that C is handed is the outcome's
as-exported : (a : Result Float Refusal) → (exported.outcome_of a).number ≡ (outcome_of a).number
as-exported (Ok v) = refl
as-exported (Err r) = refl

handed : (x : Float) → (outcome_at x).number ≡ (exported.outcome_of (log_gamma_of x)).number
handed x = sym (as-exported (log_gamma_of x) ∙ ap (λ (o : Outcome). o.number) (steps-outcome x))

pub exported-numbers : (x : Float) → Given (all_checks x) (exported.outcome_of (log_gamma_of x)).number × T (is_one_of (exported.outcome_of (log_gamma_of x)).number (0 ∷ 2 ∷ 10 ∷ 8 ∷ []))
exported-numbers x = let m = (exported.outcome_of (log_gamma_of x)).number in let g = subst (Given (all_checks x)) (handed x) (numbers x) in (g, none-or-listed (all_checks x) m (2 ∷ 10 ∷ 8 ∷ []) g (listed x))
