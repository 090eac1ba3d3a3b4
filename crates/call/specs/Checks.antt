-- The checks of a call: a list, and the first of it that applies. Definitions only.
use Rattle.std.specs.Prelude.{Bool, true, false, not, cond, ◌&&◌, ◌||◌, List, [], ◌∷◌, ℕ, eqb, Float, Result, Ok, Err, ⊤}
use Rattle.refusal.specs.Number.{number_of}
use Rattle.refusal.specs.declared.refusal.Refusal.{Refusal}
use Rattle.refusal.specs.declared.refusal.Refusal.TheVariants.{Length, NotFinite, Order, Sign, Size}
use Rattle.call.specs.Limits.{length_inside, are_finite, order_inside, sign_inside, size_inside}

-- a refusal, and whether it applies
pub record Check : Type 0 where
  pub applies : Bool
  pub refusal : Refusal

abbrev pub check : Bool → Refusal → Check
check applies refusal = record { applies = applies; refusal = refusal }

-- admitted, or refused
abbrev pub Verdict : Type 0
Verdict = Result ⊤ Refusal

abbrev pub Admitted : Verdict
Admitted = Ok tt

abbrev pub Refused : Refusal → Verdict
Refused refusal = Err refusal

-- the first that applies refuses; none admits the call
unfoldable pub refused_if : Verdict → Bool → Refusal → Verdict
refused_if (Ok admitted) applies refusal = cond applies (Refused refusal) Admitted
refused_if (Err before) applies refusal = Refused before

unfoldable pub verdict_from : Verdict → List Check → Verdict
verdict_from verdict [] = verdict
verdict_from verdict (c ∷ cs) = verdict_from (refused_if verdict c.applies c.refusal) cs

unfoldable pub verdict_of : List Check → Verdict
verdict_of cs = verdict_from Admitted cs

-- what is asked next counts only where nothing before it refuses
abbrev pub then_verdict : Verdict → Verdict → Verdict
then_verdict (Ok admitted) next = next
then_verdict (Err before) next = Refused before

-- the number that a verdict gives: 0 where the call is admitted
unfoldable pub number_given : Verdict → ℕ
number_given (Ok admitted) = 0
number_given (Err refusal) = number_of refusal

-- ---- parts of the lists, which the callers share
unfoldable pub length_checks : ℕ → List Check
length_checks length = check (not (length_inside length)) Length ∷ []

unfoldable pub finite_checks : Float → Float → Float → List Check
finite_checks v re im = check (not (are_finite v re im)) NotFinite ∷ []

-- the order first, then the sign of the real part, then the size of the parts
unfoldable pub limit_checks : Float → Float → Float → List Check
limit_checks v re im =
    check (not (order_inside v)) Order
    ∷ check (not (sign_inside re)) Sign
    ∷ check (not (size_inside re im)) Size
    ∷ []

-- ---- what a list says of a number, and of being admitted
unfoldable pub none_applies : List Check → Bool
none_applies [] = true
none_applies (c ∷ cs) = not c.applies && none_applies cs

-- a check with the number n applies, and none before it
unfoldable pub is_first : ℕ → List Check → Bool
is_first n [] = false
is_first n (c ∷ cs) = cond (eqb (number_of c.refusal) n) (c.applies || is_first n cs) (not c.applies && is_first n cs)

unfoldable pub numbers_of : List Check → List ℕ
numbers_of [] = []
numbers_of (c ∷ cs) = number_of c.refusal ∷ numbers_of cs
