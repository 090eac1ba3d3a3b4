-- A column of floats lies between two bounds where each of its entries does, by one test that antt computes. Assumes nothing.
use mathlib.Core.Bool.{Bool, true, ◌&&◌}
use mathlib.Core.List.{List, [], ◌∷◌}
use Prim.Native.Nat.{ℕ, zero, suc, ◌<◌}
use native.Mathlib.Nat.{le_of_suc-le-suc, not-suc-le-zero}
use lib.Dec.{T}
use lib.ListN.{length, get_or}
use lib.Ieee.{Float, nan, le}
use lib.Ieee.Fits.{and_l, and_r}

unfoldable pub column : Float → Float → List Float → Bool
column lo hi [] = true
column lo hi (x ∷ xs) = le lo x && le x hi && column lo hi xs

pub column-at : (lo hi : Float) (xs : List Float) → T (column lo hi xs) → (k : ℕ) → k < length xs → T (le lo (get_or xs k nan)) × T (le (get_or xs k nan) hi)
unfolding column
column-at lo hi [] t k h = absurd (not-suc-le-zero h)
column-at lo hi (x ∷ xs) t zero h =
    let p = and_l (le lo x && le x hi) (column lo hi xs) t in
    (and_l (le lo x) (le x hi) p, and_r (le lo x) (le x hi) p)
column-at lo hi (x ∷ xs) t (suc k) h = column-at lo hi xs (and_r (le lo x && le x hi) (column lo hi xs) t) k (le_of_suc-le-suc h)
