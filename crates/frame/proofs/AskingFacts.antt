-- What a line asks: only a line of 56 digits is a frame, so that the first 57 bytes of a line say all. Assumes nothing.
use mathlib.Core.Path.{◌≡◌, refl, sym, ap, ◌∙◌}
use mathlib.Core.Bool.{Bool, true, false, cond, ◌&&◌}
use mathlib.Core.List.{List}
use Prim.Native.Nat.{ℕ, min, ◌<◌}
use native.Mathlib.Omega.{arith}
use borrow.Author.Tests.{ne_eqb, eqb-true, leb-true, leb-false}
use lib.Dec.{leb, eqb}
use lib.ListN.{length, take, length-take}
use lib.Seq.{take_all}
use Rattle.std.proofs.Common.{None, Some}
use Rattle.frame.specs.declared.asking.Fields.{Fields}
use Rattle.frame.specs.Layout.{asking_length}
use Rattle.frame.specs.Digits.{are_digits}
use Rattle.frame.specs.Asking.{fields_of, framed_of, asked_in, parsed_of}
use Rattle.frame.proofs.DigitFacts.{both}

pub other_length : (line : List ℕ) → (length line ≡ asking_length → ⊥) → parsed_of line ≡ None
unfolding parsed_of framed_of asked_in
other_length line h = simp (ne_eqb (length line) asking_length h)

-- a line that reads as a frame
pub framed_is : (line : List ℕ) (f : Fields) → framed_of line ≡ Some f → (length line ≡ asking_length) × (are_digits line ≡ true) × (f ≡ fields_of line)
unfolding framed_of
framed_is line f e = go (eqb (length line) asking_length && are_digits line) refl e
  where
    go :
        (b : Bool) → (eqb (length line) asking_length && are_digits line) ≡ b → cond b (Some (fields_of line)) None ≡ Some f →
        (length line ≡ asking_length) × (are_digits line ≡ true) × (f ≡ fields_of line)
    go true k q = let t = both (eqb (length line) asking_length) (are_digits line) k in (eqb-true (length line) asking_length t.0, t.1, cc)
    go false k q = absurd (let z : ◌≡◌ {A = ℕ} 0 1 = cc in omega arith)

kept_if : (line : List ℕ) (b : Bool) → leb (length line) 57 ≡ b → parsed_of (take 57 line) ≡ parsed_of line
kept_if line true e = ap parsed_of (take_all 57 line (leb-true (length line) 57 e))
kept_if line false e =
    let h : 57 < length line = leb-false (length line) 57 e in
    let n : length (take 57 line) ≡ 57 = length-take 57 line ∙ less (length line) h in
    other_length (take 57 line) (λ x. omega arith) ∙ sym (other_length line (λ x. omega arith))
  where
    less : (m : ℕ) → 57 < m → min 57 m ≡ 57
    less m h = omega arith

pub parsed-kept : (line : List ℕ) → parsed_of (take 57 line) ≡ parsed_of line
parsed-kept line = kept_if line (leb (length line) 57) refl
