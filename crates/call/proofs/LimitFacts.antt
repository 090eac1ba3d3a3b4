-- What a call has that passed the shared checks. Assumes nothing.
use mathlib.Core.Path.{◌≡◌, refl, sym, subst}
use mathlib.Core.Bool.{Bool, true, false, not, ◌&&◌}
use Prim.Native.Nat.{ℕ, ◌%◌, ◌≤◌, ◌<◌}
use native.Mathlib.Omega.{arith}
use lib.Dec.{T, ltb, leb, eqb, ltb→lt, leb→le, eqb→eq}
use lib.Ieee.{Float}
use lib.Ieee.Fits.{and_l, and_r}
use Rattle.call.specs.Limits.{length_inside, are_finite, order_inside, sign_inside, size_inside}
use Rattle.call.specs.Checks.{none_applies, length_checks, finite_checks, limit_checks}

-- ---- a buffer's length that is let in: even, from 2 to 1,024
pub record Lent (length : ℕ) : Type 0 where
  pub some : 0 < length
  pub most : length ≤ 1024
  pub even : length % 2 ≡ 0

pub lent : (length : ℕ) → length_inside length ≡ true → Lent length
unfolding length_inside
lent length e =
    let some = ltb 0 length in
    let most = leb length 1024 in
    let even = eqb (length % 2) 0 in
    let t : T (some && (most && even)) = subst T (sym e) tt in
    let u : T (most && even) = and_r some (most && even) t in
    record { some = ltb→lt 0 length (and_l some (most && even) t); most = leb→le length 1024 (and_l most even u); even = eqb→eq (length % 2) 0 (and_r most even u) }

-- ---- the shared parts of a list, passed
alone : (b : Bool) → (not (not b) && true) ≡ true → b ≡ true
alone true e = refl
alone false e = e

pub length-passed : (length : ℕ) → none_applies (length_checks length) ≡ true → length_inside length ≡ true
unfolding none_applies length_checks
length-passed length e = alone (length_inside length) e

pub finite-passed : (v re im : Float) → none_applies (finite_checks v re im) ≡ true → are_finite v re im ≡ true
unfolding none_applies finite_checks
finite-passed v re im e = alone (are_finite v re im) e

pub record Inside (v re im : Float) : Type 0 where
  pub order : order_inside v ≡ true
  pub sign : sign_inside re ≡ true
  pub size : size_inside re im ≡ true

by_tests : (v re im : Float) (a b c : Bool) → order_inside v ≡ a → sign_inside re ≡ b → size_inside re im ≡ c → (not (not a) && (not (not b) && (not (not c) && true))) ≡ true → Inside v re im
by_tests v re im true true true p q r e = record { order = p; sign = q; size = r }
by_tests v re im false b c p q r e = absurd (let z : ◌≡◌ {A = ℕ} 0 1 = cc in omega arith)
by_tests v re im true false c p q r e = absurd (let z : ◌≡◌ {A = ℕ} 0 1 = cc in omega arith)
by_tests v re im true true false p q r e = absurd (let z : ◌≡◌ {A = ℕ} 0 1 = cc in omega arith)

pub limits-passed : (v re im : Float) → none_applies (limit_checks v re im) ≡ true → Inside v re im
unfolding none_applies limit_checks
limits-passed v re im e = by_tests v re im (order_inside v) (sign_inside re) (size_inside re im) refl refl refl e
