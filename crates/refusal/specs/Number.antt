-- The number of each refusal, as in docs/SCOPE.md's table. Definitions only.
use Rattle.std.specs.Prelude.{◌≡◌, Bool, false, ◌&&◌, ◌||◌, ℕ, ltb, leb, eqb, Result, MatchResult}
use Rattle.refusal.specs.declared.refusal.Refusal.{Refusal}
use Rattle.refusal.specs.declared.refusal.Unlisted.{Unlisted}
use Rattle.refusal.specs.declared.refusal.Refusal.TheVariants.{Length, NotFinite, Order, Zero, Series, Start, Climb, Overflow, Malformed, NotPositive}
use Rattle.refusal.specs.declared.refusal.Refusal.TheVariants.{Sign, Size, Steps, Full}

abbrev pub number_of : Refusal → ℕ
number_of Length = 1
number_of NotFinite = 2
number_of Order = 3
number_of Zero = 4
number_of Series = 5
number_of Start = 6
number_of Climb = 7
number_of Overflow = 8
number_of Malformed = 9
number_of NotPositive = 10
number_of Sign = 11
number_of Size = 12
number_of Steps = 13
number_of Full = 15

-- the numbers that there are: each is some refusal's, and no refusal has another (proofs/Distinct.antt); 14 is no one's
unfoldable pub is_listed : ℕ → Bool
is_listed n = (ltb 0 n && leb n 13) || eqb n 15

-- the refusal with this number, or the number itself where it is no refusal's
abbrev pub ReadsNumber : ℕ → Result Refusal Unlisted → Type 0
ReadsNumber n r = MatchResult r (λ refusal. number_of refusal ≡ n) (λ e. (e.0 ≡ n) × (is_listed n ≡ false))
