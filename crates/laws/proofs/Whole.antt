-- A whole number as a float, up to 2 ^ prec: its value is the number, so it has that number as a bound from either side. Assumes nothing.
use mathlib.Core.Path.{sym}
use Prim.Native.Nat.{ℕ, ◌^◌, ◌≤◌}
use native.Mathlib.Nat.{le_of_eq}
use mathlib.Core.Bool.{false}
use lib.IntN.{pos}
use lib.Dec.{lit<}
use lib.Ieee.{Format, prec, of_int}
use lib.Ieee.Exact.{HasValue}
use lib.Ieee.Back.{round_whole}
use lib.Ieee.Positive.{value→cross}
use Rattle.laws.proofs.Relative.{nonnegative-of-value}
use Rattle.laws.proofs.Bound.{Up, Lo, lo_at}

module _ (f : Format) (k : ℕ) (h : k ≤ 2 ^ prec f) where
  pub whole-value : HasValue (of_int f (pos k)) false k 1
  unfolding of_int
  whole-value = round_whole f false k h

  pub whole-up : Up (of_int f (pos k)) k 1
  whole-up = record { sign = nonnegative-of-value (of_int f (pos k)) k 1 whole-value; over = lit< tt; bound = le_of_eq (value→cross (of_int f (pos k)) k 1 whole-value) }

  pub whole-lo : Lo (of_int f (pos k)) k 1
  whole-lo = lo_at (of_int f (pos k)) k 1 (nonnegative-of-value (of_int f (pos k)) k 1 whole-value) (lit< tt) (le_of_eq (sym (value→cross (of_int f (pos k)) k 1 whole-value)))
