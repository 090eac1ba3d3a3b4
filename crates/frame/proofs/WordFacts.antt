-- Two bytes in two's complement: a count of zeros that fits them comes back with its sign, and two bytes that are read are written again.
-- Assumes nothing.
use mathlib.Core.Path.{◌≡◌, refl, ap, ◌∙◌}
use mathlib.Core.Bool.{Bool, true, false}
use Prim.Native.Nat.{ℕ, ◌-◌, ◌%◌, ◌≤◌, ◌<◌}
use native.Mathlib.Omega.{arith}
use borrow.Author.Tests.{lt-ltb, le-ltb, ltb-true, ltb-false}
use lib.Dec.{ltb}
use lib.IntN.{ℤ, pos, negsuc}
use mir.Syntax.{w32}
use mir.Val.{SFits, to_z, of_z}
use mir.Facts.{to_z-of_z}
use Rattle.frame.specs.Writing.{twos_complement}
use Rattle.frame.specs.Reading.{signed_word, FitsWord}

-- ---- written and read
pub word_small : (z : ℤ) → twos_complement z < 65536
unfolding twos_complement
word_small (pos n) = omega arith
word_small (negsuc n) = omega arith

pub word_back : (z : ℤ) → FitsWord z → signed_word (twos_complement z) ≡ z
unfolding signed_word twos_complement FitsWord
word_back (pos n) h = let e : n % 65536 ≡ n = omega arith in ap signed_word e ∙ simp (lt-ltb n 32768 h)
word_back (negsuc n) h =
    let e : 65535 - n % 65536 ≡ 65535 - n = omega arith in
    let k : 65535 - (65535 - n) ≡ n = omega arith in
    ap signed_word e ∙ simp (le-ltb (65535 - n) 32768 (omega arith)) (ap negsuc k)

-- ---- read and written
module _ (w : ℕ) (h : w < 65536) where
  again-if : (b : Bool) → ltb w 32768 ≡ b → twos_complement (signed_word w) ≡ w
  unfolding signed_word twos_complement
  again-if true e = rw e (omega arith)
  again-if false e = rw e (let k : 32768 ≤ w = ltb-false w 32768 e in omega arith)

  pub word-again : twos_complement (signed_word w) ≡ w
  word-again = again-if (ltb w 32768) refl

  fits-if : (b : Bool) → ltb w 32768 ≡ b → FitsWord (signed_word w)
  unfolding signed_word FitsWord
  fits-if true e = rw e (ltb-true w 32768 e)
  fits-if false e = rw e (let k : 32768 ≤ w = ltb-false w 32768 e in omega arith)

  pub word_fits : FitsWord (signed_word w)
  word_fits = fits-if (ltb w 32768) refl

-- ---- as the machine has it: a field of 32 bits holds it
module _ (w : ℕ) (h : w < 65536) where
  held-if : (b : Bool) → ltb w 32768 ≡ b → SFits w32 (signed_word w)
  unfolding signed_word
  held-if true e = rw e (record { sfits = omega arith })
  held-if false e = rw e (record { sfits = omega arith })

  pub word_held : (z : ℤ) → z ≡ signed_word w → to_z w32 (of_z w32 z) ≡ signed_word w
  word_held z e = ap (λ (k : ℤ). to_z w32 (of_z w32 k)) e ∙ to_z-of_z (held-if (ltb w 32768) refl)
