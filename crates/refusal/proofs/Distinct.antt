-- No two refusals have one number, none has the number 0, which an answer has, and each fits one byte. Assumes nothing.
use mathlib.Core.Path.{◌≡◌, refl, sym, ap, ◌∙◌}
use mathlib.Core.Bool.{true}
use mathlib.Core.List.{[], ◌∷◌}
use Prim.Native.Nat.{ℕ, ◌<◌}
use lib.Dec.{lit<}
use lib.ListN.{get_or}
use Rattle.refusal.specs.Number.{number_of, is_listed}
use Rattle.refusal.specs.declared.refusal.Refusal.{Refusal}
use Rattle.refusal.specs.declared.refusal.Refusal.TheVariants.{Length, NotFinite, Order, Zero, Series, Start, Climb, Overflow, Malformed, NotPositive}
use Rattle.refusal.specs.declared.refusal.Refusal.TheVariants.{Sign, Size, Steps, Full}

-- the refusals at their numbers; no refusal has the number 0 or 14
unfoldable pub case_of : ℕ → Refusal
case_of n = get_or (Length ∷ Length ∷ NotFinite ∷ Order ∷ Zero ∷ Series ∷ Start ∷ Climb ∷ Overflow ∷ Malformed ∷ NotPositive ∷ Sign ∷ Size ∷ Steps ∷ Steps ∷ Full ∷ []) n Length

read_back : (r : Refusal) → case_of (number_of r) ≡ r
unfolding case_of
read_back Length = refl
read_back NotFinite = refl
read_back Order = refl
read_back Zero = refl
read_back Series = refl
read_back Start = refl
read_back Climb = refl
read_back Overflow = refl
read_back Malformed = refl
read_back NotPositive = refl
read_back Sign = refl
read_back Size = refl
read_back Steps = refl
read_back Full = refl

pub distinct : (r s : Refusal) → number_of r ≡ number_of s → r ≡ s
distinct r s e = sym (read_back r) ∙ ap case_of e ∙ read_back s

-- a number fits one byte
in-a-byte : (r : Refusal) → (0 < number_of r) × (number_of r < 256)
in-a-byte Length = (lit< tt, lit< tt)
in-a-byte NotFinite = (lit< tt, lit< tt)
in-a-byte Order = (lit< tt, lit< tt)
in-a-byte Zero = (lit< tt, lit< tt)
in-a-byte Series = (lit< tt, lit< tt)
in-a-byte Start = (lit< tt, lit< tt)
in-a-byte Climb = (lit< tt, lit< tt)
in-a-byte Overflow = (lit< tt, lit< tt)
in-a-byte Malformed = (lit< tt, lit< tt)
in-a-byte NotPositive = (lit< tt, lit< tt)
in-a-byte Sign = (lit< tt, lit< tt)
in-a-byte Size = (lit< tt, lit< tt)
in-a-byte Steps = (lit< tt, lit< tt)
in-a-byte Full = (lit< tt, lit< tt)

pub never-zero : (r : Refusal) → 0 < number_of r
never-zero r = (in-a-byte r).0

pub one_byte : (r : Refusal) → number_of r < 256
one_byte r = (in-a-byte r).1

-- ---- every refusal's number is in the list; that every number in the list is a refusal's is in crate page's proofs/ListFacts.antt
pub listed : (r : Refusal) → is_listed (number_of r) ≡ true
unfolding is_listed
listed Length = refl
listed NotFinite = refl
listed Order = refl
listed Zero = refl
listed Series = refl
listed Start = refl
listed Climb = refl
listed Overflow = refl
listed Malformed = refl
listed NotPositive = refl
listed Sign = refl
listed Size = refl
listed Steps = refl
listed Full = refl
