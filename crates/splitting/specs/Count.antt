-- Counts over lines: exact below 2^63, and there they stay, so that no input is too long for them. Definitions only.
use Rattle.std.specs.Prelude.{◌≡◌, List, [], ◌∷◌, ℕ, ◌+◌, min}

-- the sum of a number of each line
unfoldable pub total_of : (List ℕ → ℕ) → List (List ℕ) → ℕ
total_of f [] = 0
total_of f (l ∷ ls) = f l + total_of f ls

abbrev pub counted : ℕ → ℕ
counted n = min n 9223372036854775808

-- a count that is another one and n more
abbrev pub Adds : ℕ → ℕ → ℕ → Type 0
Adds before n after = counted after ≡ counted (before + n)
