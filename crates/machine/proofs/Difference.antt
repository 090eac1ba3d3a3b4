-- A value's difference with itself is a zero exactly when the value is finite. Assumes nothing.
use mathlib.Core.Path.{◌≡◌, refl, ap, ◌∙◌}
use mathlib.Core.Bool.{Bool, true, false, cond, ◌&&◌}
use Prim.Native.Nat.{ℕ, ◌-◌, ◌*◌, ◌<◌}
use native.Mathlib.Nat.{sub_self, mul-pos}
use native.Mathlib.Omega.{arith}
use lib.IntN.{pos}
use lib.Dec.{ltb}
use borrow.Author.Tests.{le-ltb}
use lib.Ieee.{Float, nan, inf, fin, Format, up, down, sum, add, sub, neg, eq, round}
use lib.Ieee.Fits.{down_pos}
use lib.Ieee.Scale.{finite}
use Rattle.laws.proofs.Order.{round-zero}

not-below : (a : ℕ) → ltb a a ≡ false
not-below a = le-ltb a a (omega arith)

opposites : (f : Format) (s t : Bool) (a c : ℕ) → 0 < c → cond (ltb a a) (round f t (a - a) c) (round f (s && ltb a a) (a - a) c) ≡ fin (s && ltb a a) 0 (pos 0)
opposites f s t a c C = rw (not-below a, sub_self a) (round-zero f (s && false) c C)

zero-equal : (s : Bool) → eq (fin s 0 (pos 0)) (fin false 0 (pos 0)) ≡ true
unfolding eq
zero-equal true = refl
zero-equal false = refl

pub difference-itself : (f : Format) (x : Float) → eq (sub f x x) (fin false 0 (pos 0)) ≡ finite x
unfolding sub add sum neg eq
difference-itself f nan = refl
difference-itself f (inf true) = refl
difference-itself f (inf false) = refl
difference-itself f (fin true m e) =
    ap (λ (z : Float). eq z (fin false 0 (pos 0))) (opposites f true false (m * up e * down e) (down e * down e) (mul-pos (down_pos e) (down_pos e)))
    ∙ zero-equal (true && ltb (m * up e * down e) (m * up e * down e))
difference-itself f (fin false m e) =
    ap (λ (z : Float). eq z (fin false 0 (pos 0))) (opposites f false true (m * up e * down e) (down e * down e) (mul-pos (down_pos e) (down_pos e)))
    ∙ zero-equal false
