-- An input that comes in parts, cut anywhere: what is held of the line that is being read, never more than its first `most` bytes, and the
-- lines that come to their ends, each as far as it was held. Definitions only.
use Rattle.std.specs.Prelude.{◌≡◌, Bool, true, false, List, [], ◌∷◌, ◌++◌, ℕ, ◌-◌, eqb, take, drop}
use Rattle.splitting.specs.Lines.{newline}

-- ---- one byte, where it is a newline and where it is not: what is held then, and what stands before the lines that end later
unfoldable pub held_if : Bool → ℕ → List ℕ → ℕ → List ℕ
held_if true most held b = []
held_if false most held b = take most (held ++ (b ∷ []))

unfoldable pub closed_if : Bool → List ℕ → List (List ℕ) → List (List ℕ)
closed_if true held later = held ∷ later
closed_if false held later = later

-- ---- bytes of the input where so much of a line was held: what is held then, and the lines that they end
unfoldable pub left_by : ℕ → List ℕ → List ℕ → List ℕ
left_by most held [] = held
left_by most held (b ∷ bs) = left_by most (held_if (eqb b newline) most held b) bs

unfoldable pub ended_in : ℕ → List ℕ → List ℕ → List (List ℕ)
ended_in most held [] = []
ended_in most held (b ∷ bs) = closed_if (eqb b newline) held (ended_in most (held_if (eqb b newline) most held b) bs)

-- ---- the lines of a whole input, each as far as it is held
unfoldable pub shortened : ℕ → List (List ℕ) → List (List ℕ)
shortened most [] = []
shortened most (l ∷ ls) = take most l ∷ shortened most ls

-- ---- the bytes of a chunk from one place to another
abbrev pub part_of : List ℕ → ℕ → ℕ → List ℕ
part_of chunk from at = take (at - from) (drop from chunk)

-- ---- bytes taken as far as a line's end, or to their own: the line and nothing held, or no line and what is held
unfoldable pub left_if : Bool → List ℕ → List ℕ
left_if true line = []
left_if false line = line

abbrev pub Taken : Bool → ℕ → List ℕ → List ℕ → List ℕ → Type 0
Taken ended most before bytes line = (ended_in most before bytes ≡ closed_if ended line []) × (left_by most before bytes ≡ left_if ended line)
