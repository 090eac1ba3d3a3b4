-- How large the parts of the tabled arc can be. Every line of the tangent is homogeneous in the longer side, so that with its binade 2^p the tangent is at most 8, whatever p is;
-- what is left of it is at most 2^9, and the arc is finite. Exponents count from 2^-1074, so that 1 has 1074. Assumes nothing.
use Prim.Native.Nat.{ℕ, suc, ◌+◌, ◌-◌, ◌≤◌, ◌<◌}
use native.Mathlib.Omega.{arith}
use mathlib.Core.Bool.{Bool, true, false, ◌&&◌, cond}
use lib.Dec.{T, lit<, lit≤}
use lib.ListN.{get_or}
use lib.Ieee.{Float, nan, binary64, of_bits, neg, add, sub, mul, div, le}
use lib.Ieee.Fits.{and_l, and_r, add-fits, mul-fits}
use lib.Ieee.Positive.{positive}
use Rattle.laws.proofs.Order.{nought, le-trans-float, finite-between}
use Rattle.laws.proofs.Interval.{Between}
use Rattle.laws.proofs.Bound.{every, every-at}
use Rattle.laws.proofs.Mag.{Mag, AtLeast, mag_test, at_least_test, mag-literal, at-least-literal, mag-weaken, at-least-of-le, mag-mul, mag-div, mag-add, mag-sub}
use Rattle.machine.specs.Small.{nothing, one}
use Rattle.angle.proofs.Ends.{product-at-least-zero}
use Rattle.angle.proofs.Magnitude.{mag-below, at-least-add, mag-cut, binade}
use Rattle.angle.proofs.Sides.{from_zero}
use Rattle.angle.proofs.Step.{long-finite, long-positive, short-above, quotient-between, index_below, value-between}
use Rattle.angle.specs.Angle.{leading, step_of, tangent_of, series_of, joined_of, tabled_arc_of, arc_of}
use Rattle.angle_tables.specs.Tables.{atan_high, atan_low, tabled_of}
use Rattle.angle.specs.shapes.Range.{lowest, highest, Ranged}
use Rattle.angle.specs.declared.angle.Triangle.{Triangle}
use Rattle.angle.specs.declared.angle.Tangent.{Tangent}
use Rattle.machine.specs.declared.pair.Pair.{Pair}

-- ---- up to the tangent's value. h is a's leading digits
abbrev pub above_of : Float → Float → Float → Float
above_of b t h = sub binary64 b (mul binary64 t h)

abbrev pub below_of : Float → Float → Float → Float
below_of a t h = mul binary64 t (sub binary64 a h)

abbrev pub numerator_of : Float → Float → Float → Float → Float
numerator_of a b t h = sub binary64 (above_of b t h) (below_of a t h)

abbrev numerator_low_of : Float → Float → Float → Float → Float
numerator_low_of a b t h = sub binary64 (sub binary64 (above_of b t h) (numerator_of a b t h)) (below_of a t h)

abbrev pub denominator_of : Float → Float → Float → Float
denominator_of a b t = add binary64 a (mul binary64 t b)

abbrev denominator_low_of : Float → Float → Float → Float
denominator_low_of a b t = add binary64 (sub binary64 a (denominator_of a b t)) (mul binary64 t b)

abbrev pub inverse_of : Float → Float → Float → Float
inverse_of a b t = div binary64 one (denominator_of a b t)

abbrev left_of : Float → Float → Float → Float → Float → Float → Float
left_of a b t h v e = sub binary64 (sub binary64 (numerator_of a b t h) (mul binary64 v e)) (mul binary64 v (sub binary64 (denominator_of a b t) e))

abbrev rest_of : Float → Float → Float → Float → Float → Float → Float
rest_of a b t h v e = add binary64 (left_of a b t h v e) (sub binary64 (numerator_low_of a b t h) (mul binary64 v (denominator_low_of a b t)))

-- what is known of the operands
pub record Operands (a b t h : Float) : Type 0 where
  pub p : ℕ
  pub least : 200 ≤ p
  pub most : p ≤ 2074
  pub over : AtLeast binary64 p a
  pub plus : T (positive a)
  pub a-size : Mag binary64 (suc p) a
  pub b-size : Mag binary64 (suc p) b
  pub b-above : T (le nought b)
  pub t-size : Mag binary64 1074 t
  pub t-above : T (le nought t)
  pub h-size : Mag binary64 (suc p) h

one_size : Mag binary64 1074 one
unfolding of_bits mag_test
one_size = mag-literal tt

module _ (a b t h : Float) (o : Operands a b t h) where
  above-size : Mag binary64 (o.p + 2) (above_of b t h)
  above-size =
      let k = o.most in
      let q : Mag binary64 (suc o.p) (mul binary64 t h) = mag-mul o.t-size o.h-size (omega arith) (omega arith) in
      mag-sub o.b-size q (omega arith) (omega arith) (omega arith)

  below-size : Mag binary64 (o.p + 2) (below_of a t h)
  below-size =
      let k = o.most in
      let q : Mag binary64 (o.p + 2) (sub binary64 a h) = mag-sub o.a-size o.h-size (omega arith) (omega arith) (omega arith) in
      mag-mul o.t-size q (omega arith) (omega arith)

  numerator-size : Mag binary64 (o.p + 3) (numerator_of a b t h)
  numerator-size = let k = o.most in mag-sub above-size below-size (omega arith) (omega arith) (omega arith)

  numerator-low-size : Mag binary64 (o.p + 5) (numerator_low_of a b t h)
  numerator-low-size =
      let k = o.most in
      let q : Mag binary64 (o.p + 4) (sub binary64 (above_of b t h) (numerator_of a b t h)) = mag-sub above-size numerator-size (omega arith) (omega arith) (omega arith) in
      mag-sub q below-size (omega arith) (omega arith) (omega arith)

  product-size : Mag binary64 (suc o.p) (mul binary64 t b)
  product-size = let k = o.most in mag-mul o.t-size o.b-size (omega arith) (omega arith)

  pub denominator-size : Mag binary64 (o.p + 2) (denominator_of a b t)
  denominator-size = let k = o.most in mag-add o.a-size product-size (omega arith) (omega arith) (omega arith)

  denominator-over : AtLeast binary64 o.p (denominator_of a b t)
  denominator-over =
      let k = o.most in
      at-least-add (mul binary64 t b) o.over o.plus product-size.fine (product-at-least-zero t b o.t-size.fine o.b-size.fine o.t-above o.b-above) (omega arith) denominator-size.fine

  denominator-low-size : Mag binary64 (o.p + 4) (denominator_low_of a b t)
  denominator-low-size =
      let k = o.most in
      let q : Mag binary64 (o.p + 3) (sub binary64 a (denominator_of a b t)) = mag-sub o.a-size denominator-size (omega arith) (omega arith) (omega arith) in
      mag-add q product-size (omega arith) (omega arith) (omega arith)

  inverse-size : Mag binary64 (2148 - o.p) (inverse_of a b t)
  inverse-size = let k = o.most in let l = o.least in mag-div one_size denominator-over (omega arith) (omega arith)

  pub value-size : Mag binary64 1077 (mul binary64 (numerator_of a b t h) (inverse_of a b t))
  value-size = let k = o.most in let l = o.least in mag-mul numerator-size inverse-size (omega arith) (omega arith)

  -- v and e are the leading digits of the tangent's value and of the denominator
  module _ (v e : Float) (v-size : Mag binary64 1077 v) (e-size : Mag binary64 (o.p + 2) e) where
    left-size : Mag binary64 (o.p + 7) (left_of a b t h v e)
    left-size =
        let k = o.most in
        let q : Mag binary64 (o.p + 5) (mul binary64 v e) = mag-mul v-size e-size (omega arith) (omega arith) in
        let r : Mag binary64 (o.p + 6) (sub binary64 (numerator_of a b t h) (mul binary64 v e)) = mag-sub numerator-size q (omega arith) (omega arith) (omega arith) in
        let d : Mag binary64 (o.p + 3) (sub binary64 (denominator_of a b t) e) = mag-sub denominator-size e-size (omega arith) (omega arith) (omega arith) in
        let w : Mag binary64 (o.p + 6) (mul binary64 v (sub binary64 (denominator_of a b t) e)) = mag-mul v-size d (omega arith) (omega arith) in
        mag-sub r w (omega arith) (omega arith) (omega arith)

    rest-size : Mag binary64 (o.p + 9) (rest_of a b t h v e)
    rest-size =
        let k = o.most in
        let q : Mag binary64 (o.p + 7) (mul binary64 v (denominator_low_of a b t)) = mag-mul v-size denominator-low-size (omega arith) (omega arith) in
        let r : Mag binary64 (o.p + 8) (sub binary64 (numerator_low_of a b t h) (mul binary64 v (denominator_low_of a b t))) = mag-sub numerator-low-size q (omega arith) (omega arith) (omega arith) in
        mag-add left-size r (omega arith) (omega arith) (omega arith)

    low-size : Mag binary64 1083 (mul binary64 (rest_of a b t h v e) (inverse_of a b t))
    low-size = let k = o.most in let l = o.least in mag-mul rest-size inverse-size (omega arith) (omega arith)

-- ---- of a triangle in range
pub unit-between : (t : Float) → T (le nothing t && le t one) → Between nothing one t
unit-between t h =
    let a = and_l (le nothing t) (le t one) h in
    let b = and_r (le nothing t) (le t one) h in
    (finite-between nought t one tt (unfold of_bits in tt) (from_zero t a) b, a, b)

lowest-over : AtLeast binary64 200 lowest
unfolding lowest of_bits at_least_test
lowest-over = at-least-literal tt

highest-size : Mag binary64 2074 highest
unfolding highest of_bits mag_test
highest-size = mag-literal tt

module _ (s : Triangle) (r : Ranged s) (t : Float) (i : Between nothing one t) where
  pub operands : Operands s.long s.short t (leading s.long)
  unfolding leading lowest
  operands =
      let f = long-finite s r in
      let q = long-positive s r in
      let z : T (le nought s.long) = le-trans-float nought s.short s.long (short-above s r) r.order in
      let n = binade s.long (at-least-of-le lowest-over (unfold of_bits le in tt) r.low f) (mag-below s.long highest-size z r.high) in
      record {
        p = n.power;
        least = n.from;
        most = n.to;
        over = n.over;
        plus = q;
        a-size = n.under;
        b-size = mag-below s.short n.under (short-above s r) r.order;
        b-above = short-above s r;
        t-size = mag-below t one_size (from_zero t i.1) i.2;
        t-above = from_zero t i.1;
        h-size = mag-cut s.long r.held n.under;
      }

  tangent-value-size : Mag binary64 1077 (tangent_of s t).value
  unfolding tangent_of
  tangent-value-size = value-size s.long s.short t (leading s.long) operands

  tangent-high-size : Mag binary64 1077 (tangent_of s t).high
  unfolding tangent_of leading
  tangent-high-size = mag-cut (tangent_of s t).value (mul-fits binary64 _ _) tangent-value-size

  tangent-low-size : Mag binary64 1083 (tangent_of s t).low
  unfolding tangent_of
  tangent-low-size =
      low-size s.long s.short t (leading s.long) operands (tangent_of s t).high (leading (denominator_of s.long s.short t)) tangent-high-size
      (unfold leading in mag-cut (denominator_of s.long s.short t) (add-fits binary64 _ _) (denominator-size s.long s.short t (leading s.long) operands))

-- ---- the tables
high_test : ℕ → Bool
high_test k = mag_test binary64 1074 (get_or atan_high k nan)

low_test : ℕ → Bool
low_test k = mag_test binary64 1074 (get_or atan_low k nan)

high-entries : T (every high_test 65)
unfolding high_test atan_high of_bits neg mag_test
high-entries = tt

low-entries : T (every low_test 65)
unfolding low_test atan_low of_bits neg mag_test
low-entries = tt

high-entry : (k : ℕ) → k < 65 → Mag binary64 1074 (get_or atan_high k nan)
unfolding high_test
high-entry k h = mag-literal (every-at high_test 65 high-entries k h)

low-entry : (k : ℕ) → k < 65 → Mag binary64 1074 (get_or atan_low k nan)
unfolding low_test
low-entry k h = mag-literal (every-at low_test 65 low-entries k h)

-- ---- the arc
coefficient : (x : Float) → T (mag_test binary64 1074 x) → Mag binary64 1074 x
coefficient x t = mag-literal t

series-size : (v : Float) → Mag binary64 1077 v → Mag binary64 1097 (series_of v)
unfolding series_of
series-size v m =
    let a3 : Mag binary64 1074 (of_bits binary64 0xBFD5555555555547) = coefficient (of_bits binary64 0xBFD5555555555547) (unfold mag_test of_bits in tt) in
    let a5 : Mag binary64 1074 (of_bits binary64 0x3FC999999918148B) = coefficient (of_bits binary64 0x3FC999999918148B) (unfold mag_test of_bits in tt) in
    let a7 : Mag binary64 1074 (of_bits binary64 0xBFC248CEAD963C68) = coefficient (of_bits binary64 0xBFC248CEAD963C68) (unfold mag_test of_bits in tt) in
    let z : Mag binary64 1080 (mul binary64 v v) = mag-mul m m (lit≤ tt) (lit≤ tt) in
    let cube : Mag binary64 1083 (mul binary64 v (mul binary64 v v)) = mag-mul m z (lit≤ tt) (lit≤ tt) in
    let last : Mag binary64 1080 (mul binary64 (mul binary64 v v) (of_bits binary64 0xBFC248CEAD963C68)) = mag-mul z a7 (lit≤ tt) (lit≤ tt) in
    let inner : Mag binary64 1081 (add binary64 (of_bits binary64 0x3FC999999918148B) (mul binary64 (mul binary64 v v) (of_bits binary64 0xBFC248CEAD963C68))) =
    mag-add a5 last (lit< tt) (lit< tt) (lit≤ tt)
    in
    mag-mul {m = 1088} cube (mag-add {m = 1087} a3 (mag-mul z inner (lit≤ tt) (lit≤ tt)) (lit< tt) (lit< tt) (lit≤ tt)) (lit≤ tt) (lit≤ tt)

pub record ArcSize (a : Pair) : Type 0 where
  pub high : Mag binary64 1078 a.hi
  pub low : Mag binary64 1099 a.lo

joined-size : (base : Pair) (g : Tangent) → Mag binary64 1074 base.hi → Mag binary64 1074 base.lo → Mag binary64 1077 g.value → Mag binary64 1077 g.high → Mag binary64 1083 g.low → ArcSize (joined_of base g)
unfolding joined_of
joined-size base g p q v h l =
    let top : Mag binary64 1078 (add binary64 base.hi g.high) = mag-add p h (lit< tt) (lit< tt) (lit≤ tt) in
    let less : Mag binary64 1079 (sub binary64 base.hi (add binary64 base.hi g.high)) = mag-sub p top (lit< tt) (lit< tt) (lit≤ tt) in
    let carried : Mag binary64 1080 (add binary64 (sub binary64 base.hi (add binary64 base.hi g.high)) g.high) = mag-add less h (lit< tt) (lit< tt) (lit≤ tt) in
    let lows : Mag binary64 1084 (add binary64 base.lo g.low) = mag-add q l (lit< tt) (lit< tt) (lit≤ tt) in
    record {
      high = top;
      low = mag-add {m = 1098} carried (mag-add lows (series-size g.value v) (lit< tt) (lit< tt) (lit≤ tt)) (lit< tt) (lit< tt) (lit≤ tt);
    }

zero-size : Mag binary64 1074 nothing
unfolding of_bits mag_test
zero-size = mag-literal tt

pub arc-size : (s : Triangle) → Ranged s → ArcSize (arc_of s)
unfolding arc_of tabled_arc_of tabled_of
arc-size s r =
    either (λ (a : Pair). ArcSize a) (le s.short (mul binary64 s.long (of_bits binary64 0x3E30000000000000)))
    (record { hi = div binary64 s.short s.long; lo = nothing })
    (tabled_arc_of s)
    (record { high = mag-weaken (mag-below (div binary64 s.short s.long) one_size (from_zero (div binary64 s.short s.long) (quotient-between s r).1) (quotient-between s r).2) (lit≤ tt); low = mag-weaken zero-size (lit≤ tt) })
    (joined-size (tabled_of (step_of s).index) (tangent_of s (step_of s).value)
    (high-entry (step_of s).index (index_below s r)) (low-entry (step_of s).index (index_below s r))
    (tangent-value-size s r (step_of s).value (value-between s r)) (tangent-high-size s r (step_of s).value (value-between s r)) (tangent-low-size s r (step_of s).value (value-between s r)))
  where
    either : (P : Pair → Type 0) (b : Bool) (x y : Pair) → P x → P y → P (cond b x y)
    either P true x y p q = p
    either P false x y p q = q
