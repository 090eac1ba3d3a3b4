-- A number in decimal, with no zero in front of it, and behind a text. Definitions only.
use Rattle.std.specs.Prelude.{◌≡◌, Bool, true, false, List, ◌++◌, ℕ, zero, suc, ◌/◌, ltb}
use Rattle.io.specs.Digits.{last_digits, IsDigitCount}

-- a number in as many decimal digits as it takes
pub record Decimal (n : ℕ) (text : List ℕ) : Type 0 where
  pub places : ℕ
  pub fewest : IsDigitCount 10 1 n places
  pub spelled : text ≡ last_digits 10 places n

-- a text, and the number behind it
pub record Numbered (n : ℕ) (before after : List ℕ) : Type 0 where
  pub number : List ℕ
  pub decimal : Decimal n number
  pub spelled : after ≡ before ++ number

-- ---- the same as one text: how many digits a number below 10^21 takes, and the number in so many
unfoldable pub places_if : Bool → ℕ → ℕ
places_if true more = 1
places_if false more = suc more

unfoldable pub places_from : ℕ → ℕ → ℕ
places_from zero n = 1
places_from (suc fuel) n = places_if (ltb n 10) (places_from fuel (n / 10))

unfoldable pub decimal_of : ℕ → List ℕ
decimal_of n = last_digits 10 (places_from 20 n) n
