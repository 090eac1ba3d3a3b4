-- A finite value as a signed fraction: `HasValue x s a c` says that x is finite, has the sign s and the size a / c.
-- Here: what follows of x and of other fractions, and the order of two values without a minus sign, zero included. Assumes nothing.
use mathlib.Core.Path.{◌≡◌, refl, sym, ap, ◌∙◌}
use mathlib.Core.Logic.{◌⊎◌, inl, inr}
use Prim.Native.Nat.{ℕ, zero, suc, ◌*◌, ◌≤◌, ◌<◌}
use native.Mathlib.Nat.{le_of_eq, le_of_lt, lt_of_not-le, not-le_of_lt, mul_right_comm, eq_of_mul-eq-mul_right}
use mathlib.Core.Bool.{Bool, true, false, not, ◌&&◌, ◌||◌, true≢false}
use lib.Dec.{T, ltb, eqb, eqb→eq, ltb→lt, lt→ltb}
use lib.Ieee.{Float, nan, inf, fin, up, down, odd, is_nan, le, lt}
use lib.Ieee.Fits.{and_l, down_pos}
use lib.Ieee.Exact.{HasValue}
use lib.Ieee.Order.{transfer}
use lib.Ieee.Scale.{finite}
use lib.Ieee.Positive.{num, den}

-- ---- the sign, which a NaN does not have, and the value without it
abbrev pub sign : Float → Bool
sign nan = false
sign (inf s) = s
sign (fin s m e) = s

abbrev pub bare : Float → Float
bare nan = nan
bare (inf s) = inf false
bare (fin s m e) = fin false m e

pub sign_of_odd : (d : ℕ) (s : Bool) (q k l : ℕ) → sign (odd d s q k l) ≡ s
unfolding odd
sign_of_odd d s zero k l = refl
sign_of_odd d s (suc q) k l = refl

-- ---- one value, several fractions
pub own-fraction : (x : Float) → T (finite x) → HasValue x (sign x) (num x) (den x)
own-fraction nan h = absurd h
own-fraction (inf s) h = absurd h
own-fraction (fin s m e) h = (refl, refl)

pub value-finite : (x : Float) (s : Bool) (a c : ℕ) → HasValue x s a c → T (finite x)
value-finite nan s a c h = absurd h
value-finite (inf t) s a c h = absurd h
value-finite (fin t m e) s a c h = tt

pub finite-no-nan : (x : Float) → T (finite x) → T (not (is_nan x))
unfolding is_nan
finite-no-nan nan h = absurd h
finite-no-nan (inf s) h = absurd h
finite-no-nan (fin s m e) h = tt

pub value-sign : (x : Float) (s : Bool) (a c : ℕ) → HasValue x s a c → sign x ≡ s
value-sign nan s a c h = absurd h
value-sign (inf t) s a c h = absurd h
value-sign (fin t m e) s a c h = h.0

pub value_same : (x : Float) (s : Bool) (a c b d : ℕ) → 0 < c → a * d ≡ b * c → HasValue x s a c → HasValue x s b d
value_same nan s a c b d C h v = v
value_same (inf t) s a c b d C h v = v
value_same (fin t m e) s a c b d C h v = (
  v.0,
  eq_of_mul-eq-mul_right c C (m * up e * d) (b * down e)
      (mul_right_comm (m * up e) d c
      ∙ ap (λ (z : ℕ). z * d) v.1
      ∙ mul_right_comm a (down e) d
      ∙ ap (λ (z : ℕ). z * down e) h
      ∙ mul_right_comm b c (down e)),
)

pub value-cross : (x : Float) (s t : Bool) (a c b d : ℕ) → HasValue x s a c → HasValue x t b d → a * d ≡ b * c
value-cross nan s t a c b d h k = absurd h
value-cross (inf u) s t a c b d h k = absurd h
value-cross (fin u m e) s t a c b d h k =
    eq_of_mul-eq-mul_right (down e) (down_pos e) (a * d) (b * c)
    (mul_right_comm a d (down e)
    ∙ ap (λ (z : ℕ). z * d) (sym h.1)
    ∙ mul_right_comm (m * up e) c d
    ∙ ap (λ (z : ℕ). z * c) k.1
    ∙ mul_right_comm b (down e) c)

-- ---- the order where there is no minus sign: `le_of_values` of lib.Ieee.Order, its converse, and the strict order
or_split : (a b : Bool) → T (a || b) → T a ⊎ T b
or_split true b t = inl tt
or_split false b t = inr t

test-le : (a b : ℕ) → T (ltb a b || (eqb a b && true)) → a ≤ b
test-le a b t = elim (or_split (ltb a b) (eqb a b && true) t) [ inl u ↦ le_of_lt (ltb→lt a b u) | inr u ↦ le_of_eq (eqb→eq a b (and_l (eqb a b) true u)) ]

pub le-values : (x y : Float) (a c b d : ℕ) → HasValue x false a c → HasValue y false b d → T (le x y) → a * d ≤ b * c
unfolding le
le-values nan y a c b d p q h = absurd p
le-values (inf s) y a c b d p q h = absurd p
le-values (fin true m e) y a c b d p q h = absurd (true≢false p.0)
le-values (fin false m e) nan a c b d p q h = absurd q
le-values (fin false m e) (inf t) a c b d p q h = absurd q
le-values (fin false m e) (fin true n k) a c b d p q h = absurd (true≢false q.0)
le-values (fin false m e) (fin false n k) a c b d p q h =
    transfer a b c d (m * up e) (n * up k) (down e) (down k) (down_pos e) (down_pos k) (sym p.1) (sym q.1) (test-le (m * up e * down k) (n * up k * down e) h)

pub lt-of-values : (x y : Float) (a c b d : ℕ) → 0 < c → 0 < d → HasValue x false a c → HasValue y false b d → a * d < b * c → T (lt x y)
unfolding lt
lt-of-values nan y a c b d C D p q h = absurd p
lt-of-values (inf s) y a c b d C D p q h = absurd p
lt-of-values (fin true m e) y a c b d C D p q h = absurd (true≢false p.0)
lt-of-values (fin false m e) nan a c b d C D p q h = absurd q
lt-of-values (fin false m e) (inf t) a c b d C D p q h = absurd q
lt-of-values (fin false m e) (fin true n k) a c b d C D p q h = absurd (true≢false q.0)
lt-of-values (fin false m e) (fin false n k) a c b d C D p q h =
    lt→ltb (m * up e * down k) (n * up k * down e)
    (lt_of_not-le (λ (g : n * up k * down e ≤ m * up e * down k). not-le_of_lt h
    (transfer b a d c (n * up k) (m * up e) (down k) (down e) (down_pos k) (down_pos e) (sym q.1) (sym p.1) g)))

pub lt-values : (x y : Float) (a c b d : ℕ) → 0 < c → 0 < d → HasValue x false a c → HasValue y false b d → T (lt x y) → a * d < b * c
unfolding lt
lt-values nan y a c b d C D p q h = absurd p
lt-values (inf s) y a c b d C D p q h = absurd p
lt-values (fin true m e) y a c b d C D p q h = absurd (true≢false p.0)
lt-values (fin false m e) nan a c b d C D p q h = absurd q
lt-values (fin false m e) (inf t) a c b d C D p q h = absurd q
lt-values (fin false m e) (fin true n k) a c b d C D p q h = absurd (true≢false q.0)
lt-values (fin false m e) (fin false n k) a c b d C D p q h =
    lt_of_not-le (λ (g : b * c ≤ a * d). not-le_of_lt (ltb→lt (m * up e * down k) (n * up k * down e) h)
    (transfer (n * up k) (m * up e) (down k) (down e) b a d c D C q.1 p.1 g))
