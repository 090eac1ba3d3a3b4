-- The magnitudes of two numbers, by size, and scaled: the larger lies between 2^-874 and 2^1000, and the smaller between 0 and it. Assumes nothing.
use mathlib.Core.Path.{◌≡◌, refl, sym, ap, ◌∙◌, subst, subst₂}
use mathlib.Core.List.{[], ◌∷◌}
use mathlib.Core.Bool.{Bool, true, false, not, ◌&&◌, cond}
use lib.Dec.{T}
use lib.Ieee.{Float, inf, binary64, of_bits, mul, fits, is_nan, lt, le, eq}
use lib.Ieee.Fits.{and_i, and_l, and_r, mul-fits}
use lib.Ieee.Scale.{finite}
use Rattle.std.specs.Float.{is_sign_negative}
use Rattle.laws.proofs.Value.{sign}
use Rattle.laws.proofs.Order.{nought, lt→le, le-ordered, le-trans-float, finite-between, mul-mono-pos}
use Rattle.laws.proofs.Bits.{to_bits-sign-bit, bare-fits}
use Rattle.laws.proofs.Interval.{Interval, iv, Expr, var, lit, product, eval, passes, Between, bounded, in-literals}
use Rattle.machine.specs.Magnitude.{magnitude_of}
use Rattle.machine.specs.Small.{nothing}
use Rattle.machine.proofs.MagnitudeFacts.{bare-is, negative_sign}
use Rattle.angle.proofs.Ends.{bare-above, not-below, finite-of, positive_of, positive-above, at-most-largest, at-least-smallest}
use Rattle.angle.specs.Angle.{infinity, negative, larger_of, smaller_of, sides_of, times, flat, even, lowered_of, raised_of, scaled_of}
use Rattle.angle.specs.shapes.Range.{lowest, highest, Ordered, Ranged}
use Rattle.angle.specs.declared.angle.Triangle.{Triangle}

-- ---- the constants as the laws have them
zero_is : nothing ≡ nought
unfolding of_bits
zero_is = refl

infinity-is : infinity ≡ inf false
unfolding infinity of_bits
infinity-is = refl

pub from_zero : (x : Float) → T (le nothing x) → T (le nought x)
from_zero x h = subst (λ (z : Float). T (le z x)) zero_is h

pub to-zero : (x : Float) → T (le nought x) → T (le nothing x)
to-zero x h = subst (λ (z : Float). T (le z x)) (sym zero_is) h

-- ---- a magnitude
pub negative-is : (x : Float) → T (fits binary64 x) → T (not (is_nan x)) → negative x ≡ sign x
unfolding negative
negative-is x F n = sym (to_bits-sign-bit x F n)

pub negative-at : (x : Float) → T (fits binary64 x) → T (not (is_nan x)) → is_sign_negative x ≡ negative x
negative-at x F n = negative_sign x n ∙ sym (negative-is x F n)

pub magnitude-fits : (x : Float) → T (fits binary64 x) → T (fits binary64 (magnitude_of x))
magnitude-fits x F = subst (λ (z : Float). T (fits binary64 z)) (bare-is x) (bare-fits x F)

pub magnitude-above : (x : Float) → T (not (is_nan x)) → T (le nothing (magnitude_of x))
magnitude-above x n = to-zero (magnitude_of x) (subst (λ (z : Float). T (le nought z)) (bare-is x) (bare-above x n))

-- ---- by size
is_true : (b : Bool) → b ≡ true → T b
is_true b h = subst T (sym h) tt

either : (P : Triangle → Type 0) (b : Bool) (x y : Triangle) → (b ≡ true → P x) → (b ≡ false → P y) → P (cond b x y)
either P true x y p q = p refl
either P false x y p q = q refl

pub sides-ordered : (y x : Float) → T (fits binary64 y) → T (fits binary64 x) → T (le nothing y) → T (le nothing x) → Ordered (sides_of y x)
unfolding sides_of larger_of smaller_of
sides-ordered y x F G p q = go (lt x y) (lt y x) refl refl
  where
    go : (a b : Bool) → lt x y ≡ a → lt y x ≡ b → Ordered (record { long = cond a y x; short = cond b y x })
    go true true h k = record { held = F; start = p; order = le-ordered nothing y p }
    go true false h k = record { held = F; start = q; order = lt→le x y (is_true (lt x y) h) }
    go false true h k = record { held = G; start = p; order = lt→le y x (is_true (lt y x) k) }
    go false false h k = record { held = G; start = q; order = le-ordered nothing x q }

-- ---- scaled
short-finite : (s : Triangle) → Ordered s → T (finite s.long) → T (finite s.short)
short-finite s o f = finite-between nought s.short s.long tt f (from_zero s.short o.start) o.order

times-ranged : (c : Float) (s : Triangle) → Ordered s → T (finite s.long) → T (finite c) → T (le nought c) → T (le nought (mul binary64 nought c)) → Between lowest highest (mul binary64 s.long c) → Ranged (times c s)
unfolding times
times-ranged c s o f C p z b =
    let g = short-finite s o f in
    record {
      held = mul-fits binary64 s.long c;
      start = to-zero (mul binary64 s.short c) (le-trans-float nought (mul binary64 nought c) (mul binary64 s.short c) z (mul-mono-pos binary64 nought s.short c tt g C p (from_zero s.short o.start)));
      order = mul-mono-pos binary64 s.short s.long c g f C p o.order;
      low = b.1;
      high = b.2;
    }

flat-ranged : Ranged flat
unfolding flat lowest highest of_bits fits le
flat-ranged = record { held = tt; start = tt; order = tt; low = tt; high = tt }

even-ranged : Ranged even
unfolding even lowest highest of_bits fits le
even-ranged = record { held = tt; start = tt; order = tt; low = tt; high = tt }

-- 2^-100 times what lies between 2^1000 and the largest
far : Interval
far = iv (of_bits binary64 0x7E70000000000000) (of_bits binary64 0x7FEFFFFFFFFFFFFF)

less : Expr
less = product (var 0) (lit (of_bits binary64 0x39B0000000000000))

less-test : T (passes binary64 (far ∷ []) less lowest highest)
unfolding passes far less lowest highest
less-test = tt

less-between : (x : Float) → T (le (of_bits binary64 0x7E70000000000000) x) → T (le x (of_bits binary64 0x7FEFFFFFFFFFFFFF)) → Between lowest highest (mul binary64 x (of_bits binary64 0x39B0000000000000))
unfolding eval far less
less-between x a b =
    bounded binary64 (far ∷ []) (x ∷ []) less lowest highest
    (in-literals (of_bits binary64 0x7E70000000000000) (of_bits binary64 0x7FEFFFFFFFFFFFFF) x (unfold of_bits in tt) a b, tt) less-test

-- 2^200 times what lies between the smallest and 2^-800
near : Interval
near = iv (of_bits binary64 1) (of_bits binary64 0x0DF0000000000000)

more : Expr
more = product (var 0) (lit (of_bits binary64 0x4C70000000000000))

more_test : T (passes binary64 (near ∷ []) more lowest highest)
unfolding passes near more lowest highest
more_test = tt

more-between : (x : Float) → T (le (of_bits binary64 1) x) → T (le x (of_bits binary64 0x0DF0000000000000)) → Between lowest highest (mul binary64 x (of_bits binary64 0x4C70000000000000))
unfolding eval near more
more-between x a b =
    bounded binary64 (near ∷ []) (x ∷ []) more lowest highest
    (in-literals (of_bits binary64 1) (of_bits binary64 0x0DF0000000000000) x (unfold of_bits in tt) a b, tt) more_test

long-above : (s : Triangle) → Ordered s → T (le nought s.long)
long-above s o = le-trans-float nought s.short s.long (from_zero s.short o.start) o.order

lowered-ranged : (s : Triangle) → Ordered s → T (lt (of_bits binary64 0x7E70000000000000) s.long) → Ranged (lowered_of s)
unfolding lowered_of
lowered-ranged s o h =
    either Ranged (eq s.long infinity) _ _
    (λ i. either Ranged (eq s.short infinity) _ _ (λ j. even-ranged) (λ j. flat-ranged))
    (λ i.
    let a = lt→le (of_bits binary64 0x7E70000000000000) s.long h in
    let f = finite-of s.long (long-above s o) (subst (λ (z : Float). eq s.long z ≡ false) infinity-is i) in
    let p = positive-above (of_bits binary64 0x7E70000000000000) s.long (unfold of_bits in tt) f a in
    times-ranged (of_bits binary64 0x39B0000000000000) s o f (unfold of_bits in tt) (unfold of_bits le in tt) (unfold of_bits le mul in tt) (less-between s.long a (at-most-largest s.long o.held p)))

raised-ranged : (s : Triangle) → Ordered s → T (lt s.long (of_bits binary64 0x0DF0000000000000)) → Ranged (raised_of s)
unfolding raised_of
raised-ranged s o h =
    either Ranged (eq s.long nothing) _ _ (λ i. flat-ranged)
    (λ i.
    let a = lt→le s.long (of_bits binary64 0x0DF0000000000000) h in
    let f = finite-between nought s.long (of_bits binary64 0x0DF0000000000000) tt (unfold of_bits in tt) (long-above s o) a in
    let p = positive_of s.long f (long-above s o) (subst (λ (z : Float). eq s.long z ≡ false) zero_is i) in
    times-ranged (of_bits binary64 0x4C70000000000000) s o f (unfold of_bits in tt) (unfold of_bits le in tt) (unfold of_bits le mul in tt) (more-between s.long (at-least-smallest s.long o.held p) a))

pub scaled-ranged : (s : Triangle) → Ordered s → Ranged (scaled_of s)
unfolding scaled_of
scaled-ranged s o =
    either Ranged (lt (of_bits binary64 0x7E70000000000000) s.long) _ _
    (λ h. lowered-ranged s o (is_true (lt (of_bits binary64 0x7E70000000000000) s.long) h))
    (λ h.
    either Ranged (lt s.long (of_bits binary64 0x0DF0000000000000)) _ _
    (λ i. raised-ranged s o (is_true (lt s.long (of_bits binary64 0x0DF0000000000000)) i))
    (λ i.
    record {
      held = o.held;
      start = o.start;
      order = o.order;
      low = le-trans-float lowest (of_bits binary64 0x0DF0000000000000) s.long (unfold lowest of_bits le in tt) (not-below s.long (of_bits binary64 0x0DF0000000000000) (long-above s o) (unfold of_bits le in tt) i);
      high = unfold highest in not-below (of_bits binary64 0x7E70000000000000) s.long (unfold of_bits le in tt) (long-above s o) h;
    }))

-- as the callees' results have them
pub ranged-at : (y x : Float) (p s : Triangle) → T (fits binary64 y) → T (fits binary64 x) → T (le nothing y && le nothing x) → p ≡ sides_of y x → s ≡ scaled_of p → Ranged s
ranged-at y x p s F G h e g =
    subst Ranged (sym (g ∙ ap scaled_of e)) (scaled-ranged (sides_of y x) (sides-ordered y x F G (and_l (le nothing y) (le nothing x) h) (and_r (le nothing y) (le nothing x) h)))

pub above_at : (y x a b : Float) → T (not (is_nan y)) → T (not (is_nan x)) → a ≡ magnitude_of y → b ≡ magnitude_of x → T (le nothing a && le nothing b)
above_at y x a b n m e g =
    subst₂ (λ (u v : Float). T (le nothing u && le nothing v)) (sym e) (sym g) (and_i (le nothing (magnitude_of y)) (le nothing (magnitude_of x)) (magnitude-above y n) (magnitude-above x m))
