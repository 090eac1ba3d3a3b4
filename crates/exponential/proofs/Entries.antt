-- Where the entries of the tables lie, each table by one computed test. Assumes nothing.
use mathlib.Core.Bool.{Bool, true, ◌&&◌}
use mathlib.Core.List.{List, [], ◌∷◌}
use Prim.Native.Nat.{ℕ, zero, suc, ◌<◌}
use native.Mathlib.Nat.{le_of_suc-le-suc, not-suc-le-zero}
use lib.Dec.{T}
use lib.ListN.{length, get_or}
use lib.Ieee.{Float, nan, binary64, of_bits, le, lt, eq}
use lib.Ieee.Fits.{and_l, and_r}
use lib.Ieee.Scale.{finite}
use Rattle.laws.proofs.Interval.{Interval, iv, In}
use Rattle.exponential_tables.specs.Tables.{coarse_high, coarse_low, fine_high, fine_low}

-- each entry lies between l and h
unfoldable between : Float → Float → List Float → Bool
unfolding le
between l h [] = true
between l h (x ∷ xs) = le l x && le x h && between l h xs

entry : (l h : Float) (xs : List Float) (k : ℕ) → T (finite l) → T (finite h) → T (between l h xs) → k < length xs → In (iv l h) (get_or xs k nan)
unfolding between
entry l h [] k L H t b = absurd (not-suc-le-zero b)
entry l h (x ∷ xs) zero L H t b =
    let u = and_l (le l x && le x h) (between l h xs) t in
    (L, H, and_l (le l x) (le x h) u, and_r (le l x) (le x h) u)
entry l h (x ∷ xs) (suc k) L H t b = entry l h xs k L H (and_r (le l x && le x h) (between l h xs) t) (le_of_suc-le-suc b)

-- the least and the greatest entry of each table
abbrev pub coarse_highs : Interval
coarse_highs = iv (of_bits binary64 0x00744A3820000000) (of_bits binary64 0x7F693BF4E8000000)

abbrev pub coarse_lows : Interval
coarse_lows = iv (of_bits binary64 0) (of_bits binary64 0x7DC0A0BBECC82960)

abbrev pub fine_highs : Interval
fine_highs = iv (of_bits binary64 0x3F9276E5A0000000) (of_bits binary64 0x404A0C8898000000)

abbrev pub fine_lows : Interval
fine_lows = iv (of_bits binary64 0x3D9BB49CC2C2641A) (of_bits binary64 0x3EAF4A1A949E216A)

pub coarse-high-in : (i : ℕ) → i < 177 → In coarse_highs (get_or coarse_high i nan)
unfolding coarse_high between of_bits le lt eq
coarse-high-in i h = entry (of_bits binary64 0x00744A3820000000) (of_bits binary64 0x7F693BF4E8000000) coarse_high i tt tt tt h

pub coarse-low-in : (i : ℕ) → i < 177 → In coarse_lows (get_or coarse_low i nan)
unfolding coarse_low between of_bits le lt eq
coarse-low-in i h = entry (of_bits binary64 0) (of_bits binary64 0x7DC0A0BBECC82960) coarse_low i tt tt tt h

pub fine-high-in : (j : ℕ) → j < 256 → In fine_highs (get_or fine_high j nan)
unfolding fine_high between of_bits le lt eq
fine-high-in j h = entry (of_bits binary64 0x3F9276E5A0000000) (of_bits binary64 0x404A0C8898000000) fine_high j tt tt tt h

pub fine-low-in : (j : ℕ) → j < 256 → In fine_lows (get_or fine_low j nan)
unfolding fine_low between of_bits le lt eq
fine-low-in j h = entry (of_bits binary64 0x3D9BB49CC2C2641A) (of_bits binary64 0x3EAF4A1A949E216A) fine_low j tt tt tt h
