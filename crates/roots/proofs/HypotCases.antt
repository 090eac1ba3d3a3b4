-- The cases of `hypot_of`, as tests on the parts tell them apart, and what a sum of squares within its range says of the parts. Assumes nothing.
use mathlib.Core.Path.{◌≡◌, refl, sym, ap, ◌∙◌, subst}
use mathlib.Core.Bool.{Bool, true, false, not, ◌||◌, cond, beq, true≢false}
use Prim.Native.Nat.{ℕ, zero, suc, ◌*◌, ◌%◌, ◌^◌, ◌<◌}
use native.Mathlib.Nat.{zero-mul, mul-pos, lt_irrefl, zero-lt-suc}
use native.Mathlib.Omega.{arith}
use lib.IntN.{ℤ, pos}
use lib.Dec.{T, eqb, eqb→eq}
use lib.Ieee.{Float, nan, inf, fin, Format, binary64, up, down, add, mul, le, eq, ne, of_bits, to_bits, is_nan, fits}
use lib.Ieee.Fits.{up_pos, and_l}
use lib.Ieee.Compare.{differs_from_itself}
use lib.Ieee.Scale.{finite}
use borrow.Author.Tests.{ne_eqb}
use Rattle.std.specs.Float.{float_is_infinite}
use Rattle.laws.proofs.Value.{bare, finite-no-nan}
use Rattle.laws.proofs.Bits.{inf_bits, to_bits-bare, to_bits-finite, bare-fits}
use Rattle.laws.proofs.Order.{finite-between}
use Rattle.machine.specs.Magnitude.{magnitude_of}
use Rattle.roots.specs.Hypot.{root_at, sum_of_squares, least_sum, greatest_sum, larger, smaller, scaled_hypot, infinite, full_hypot, hypot_of}

-- ---- the infinities, by the library's test
pub infinite-is : (x : Float) → float_is_infinite x ≡ infinite x
unfolding float_is_infinite
infinite-is nan = refl
infinite-is (inf s) = refl
infinite-is (fin s m e) = refl

-- and by the pattern
differs : (b : ℕ) → b < inf_bits → b ≡ inf_bits → ⊥
differs b h e = omega arith

pub infinite-by-pattern : (x : Float) → T (fits binary64 x) → eqb (to_bits binary64 x % 2 ^ 63) inf_bits ≡ infinite x
unfolding to_bits
infinite-by-pattern nan F = refl
infinite-by-pattern (inf true) F = refl
infinite-by-pattern (inf false) F = refl
infinite-by-pattern (fin s m e) F =
    let x = fin s m e in
    ne_eqb (to_bits binary64 x % 2 ^ 63) inf_bits
    (differs (to_bits binary64 x % 2 ^ 63) (subst (λ (b : ℕ). b < inf_bits) (sym (to_bits-bare x F (finite-no-nan x tt))) (to_bits-finite (bare x) (bare-fits x F) tt refl)))

-- ---- which case it is
no : {A : Type 0} → false ≡ true → A
no e = absurd (true≢false (sym e))

pub infinite-left : (x y : Float) → infinite x ≡ true → hypot_of x y ≡ inf false
unfolding hypot_of
infinite-left nan y h = no h
infinite-left (inf s) y h = refl
infinite-left (fin s m e) y h = no h

pub infinite-right : (x y : Float) → infinite y ≡ true → hypot_of x y ≡ inf false
unfolding hypot_of
infinite-right x nan h = no h
infinite-right x (fin t n d) h = no h
infinite-right nan (inf t) h = refl
infinite-right (inf s) (inf t) h = refl
infinite-right (fin s m e) (inf t) h = refl

nan-first : (y : Float) → infinite y ≡ false → hypot_of nan y ≡ nan
unfolding hypot_of
nan-first nan h = refl
nan-first (inf t) h = no (sym h)
nan-first (fin t n d) h = refl

nan-second : (x : Float) → infinite x ≡ false → hypot_of x nan ≡ nan
unfolding hypot_of
nan-second nan h = refl
nan-second (inf s) h = no (sym h)
nan-second (fin s m e) h = refl

pub nan_left : (x y : Float) → ne x x ≡ true → infinite y ≡ false → hypot_of x y ≡ nan
nan_left x y e h = ap (λ (z : Float). hypot_of z y) (differs_from_itself x (subst T (sym e) tt)) ∙ nan-first y h

pub nan_right : (x y : Float) → ne y y ≡ true → infinite x ≡ false → hypot_of x y ≡ nan
nan_right x y e h = ap (λ (z : Float). hypot_of x z) (differs_from_itself y (subst T (sym e) tt)) ∙ nan-second x h

pub finite-of : (x : Float) → infinite x ≡ false → T (not (is_nan x)) → T (finite x)
unfolding is_nan
finite-of nan h k = k
finite-of (inf s) h k = no (sym h)
finite-of (fin s m e) h k = tt

-- ---- a zero
abbrev pub nought : Float
nought = fin false 0 (pos 0)

of_zero : (s : Bool) (e : ℤ) → eq (fin s 0 e) nought ≡ true
unfolding eq
of_zero s e = simp zero-mul (both s)
  where
    both : (t : Bool) → (beq t false || true) ≡ true
    both true = refl
    both false = refl

of_other : (s : Bool) (m : ℕ) (e : ℤ) → eq (fin s (suc m) e) nought ≡ true → ⊥
unfolding eq
of_other s m e h =
    let A = suc m * up e * 1 in
    let z : A ≡ 0 * 1 * down e = eqb→eq A (0 * 1 * down e) (and_l (eqb A (0 * 1 * down e)) (beq s false || eqb A 0) (subst T (sym h) tt)) in
    lt_irrefl 0 (subst (λ (k : ℕ). 0 < k) (z ∙ zero-mul (down e)) (mul-pos (mul-pos (zero-lt-suc m) (up_pos e)) (zero-lt-suc 0)))

pub zero_left : (x y : Float) → T (finite x) → T (finite y) → eq x nought ≡ true → hypot_of x y ≡ magnitude_of y
unfolding hypot_of
zero_left nan y p q h = absurd p
zero_left (inf s) y p q h = absurd p
zero_left (fin s m e) nan p q h = absurd q
zero_left (fin s m e) (inf t) p q h = absurd q
zero_left (fin s zero e) (fin t n d) p q h = refl
zero_left (fin s (suc m) e) (fin t n d) p q h = absurd (of_other s m e h)

pub zero_right : (x y : Float) → T (finite x) → T (finite y) → eq x nought ≡ false → eq y nought ≡ true → hypot_of x y ≡ magnitude_of x
unfolding hypot_of
zero_right nan y p q g h = absurd p
zero_right (inf s) y p q g h = absurd p
zero_right (fin s m e) nan p q g h = absurd q
zero_right (fin s m e) (inf t) p q g h = absurd q
zero_right (fin s zero e) (fin t n d) p q g h = no (sym g ∙ of_zero s e)
zero_right (fin s (suc m) e) (fin t zero d) p q g h = refl
zero_right (fin s (suc m) e) (fin t (suc n) d) p q g h = absurd (of_other t n d h)

pub full : (x y : Float) → T (finite x) → T (finite y) → eq x nought ≡ false → eq y nought ≡ false → hypot_of x y ≡ full_hypot x y
unfolding hypot_of
full nan y p q g h = absurd p
full (inf s) y p q g h = absurd p
full (fin s m e) nan p q g h = absurd q
full (fin s m e) (inf t) p q g h = absurd q
full (fin s zero e) (fin t n d) p q g h = no (sym g ∙ of_zero s e)
full (fin s (suc m) e) (fin t zero d) p q g h = no (sym h ∙ of_zero t d)
full (fin s (suc m) e) (fin t (suc n) d) p q g h = refl

-- ---- a finite sum of squares has finite parts
pub sum-parts : (f : Format) (z w : Float) → T (finite (add f z w)) → T (finite z) × T (finite w)
unfolding add
sum-parts f nan w h = absurd h
sum-parts f (inf s) nan h = absurd h
sum-parts f (inf s) (inf t) h = absurd (neither (beq s t) h)
  where
    neither : (b : Bool) → T (finite (cond b (inf s) nan)) → ⊥
    neither true k = k
    neither false k = k
sum-parts f (inf s) (fin t n d) h = absurd h
sum-parts f (fin s m e) nan h = absurd h
sum-parts f (fin s m e) (inf t) h = absurd h
sum-parts f (fin s m e) (fin t n d) h = (tt, tt)

square-part : (f : Format) (x : Float) → T (finite (mul f x x)) → T (finite x)
unfolding mul
square-part f nan h = h
square-part f (inf s) h = h
square-part f (fin s m e) h = tt

pub within-range : (x y : Float) → T (le least_sum (sum_of_squares x y)) → T (le (sum_of_squares x y) greatest_sum) → T (finite (sum_of_squares x y)) × T (finite x) × T (finite y)
unfolding sum_of_squares least_sum greatest_sum of_bits
within-range x y l u =
    let F = finite-between least_sum (sum_of_squares x y) greatest_sum tt tt l u in
    let p = sum-parts binary64 (mul binary64 x x) (mul binary64 y y) F in
    (F, square-part binary64 x p.0, square-part binary64 y p.1)

-- ---- where the sum of the squares lies
pub full-within : (x y : Float) → le least_sum (sum_of_squares x y) ≡ true → le (sum_of_squares x y) greatest_sum ≡ true → full_hypot x y ≡ root_at (to_bits binary64 (sum_of_squares x y))
unfolding full_hypot
full-within x y l u = rw (l, u)

pub full-above : (x y : Float) → le least_sum (sum_of_squares x y) ≡ true → le (sum_of_squares x y) greatest_sum ≡ false → full_hypot x y ≡ scaled_hypot smaller larger x y
unfolding full_hypot
full-above x y l u = rw (l, u)

pub full-below : (x y : Float) → le least_sum (sum_of_squares x y) ≡ false → full_hypot x y ≡ scaled_hypot larger smaller x y
unfolding full_hypot
full-below x y l = rw l
