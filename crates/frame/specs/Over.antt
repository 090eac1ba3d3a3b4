-- Bytes written over others. Definitions only.
use Rattle.std.specs.Prelude.{cond, List, ◌++◌, ℕ, ◌+◌, leb, length, take, drop}

-- p in the place of as many bytes of d, from the place `at` on
unfoldable pub over : ℕ → List ℕ → List ℕ → List ℕ
over at p d = take at d ++ (p ++ drop (at + length p) d)

-- p over the first bytes of d where d has room for all of it, and else d as it was
unfoldable pub offered : List ℕ → List ℕ → List ℕ
offered p d = cond (leb (length p) (length d)) (over 0 p d) d
