-- Bounds of a float expression whose variables lie in known intervals. Rounding keeps the order, so an interval's ends are the same float operations on the operands' ends, with no outward rounding.
-- An `Expr` is the expression as data: `eval` gives its value, `range` an interval of its values. Where `range` computes to an interval, each value and each intermediate result is finite.
-- A caller has two steps, as `example-test` and `example` below: the test on literals, by `tt`, and `bounded`, whose `eval` is the definition's own expression by computation. Assumes nothing.
use mathlib.Core.Path.{subst, subst₂}
use mathlib.Core.Logic.{inl, inr}
use mathlib.Core.List.{List, [], ◌∷◌}
use Prim.Native.Nat.{ℕ, zero, suc, ◌+◌, ◌*◌}
use native.Mathlib.Nat.{mul-pos}
use mathlib.Core.Bool.{Bool, true, false, not, ◌&&◌, cond}
use lib.Dec.{T, T_not}
use lib.Ieee.{Float, nan, inf, fin, Format, neg, add, sub, mul, div, le, of_bits}
use lib.Ieee.Fits.{and_l, and_r}
use lib.Ieee.Scale.{finite}
use lib.Ieee.Positive.{positive, above, above_of_le, den, den_pos}
use Rattle.laws.proofs.Order.{nought, le-refl-finite, le-trans-float, le_total, finite-between, neg-anti, neg-finite, pos_part, neg_part, add-mono, sub-mono, mul-mono-pos, mul-mono-neg, mul-comm-float, mul-rounds, rounds-ordered, div_mono, div-anti-pos, div-mono-neg}

-- ---- intervals with finite ends, or none
pub data Interval : Type 0 where
  none : Interval
  iv : Float → Float → Interval

abbrev pub In : Interval → Float → Type 0
In none z = ⊥
In (iv l h) z = T (finite l) × T (finite h) × T (le l z) × T (le z h)

abbrev pub some : Interval → Bool
some none = false
some (iv l h) = true

pub in-finite : (i : Interval) (z : Float) → In i z → T (finite z)
in-finite none z p = absurd p
in-finite (iv l h) z p = finite-between l z h p.0 p.1 p.2 p.3

unfoldable pub checked : Float → Float → Interval
checked l h = cond (finite l && finite h) (iv l h) none

checked-in : (l h z : Float) → T (some (checked l h)) → T (le l z) → T (le z h) → In (checked l h) z
unfolding checked
checked-in l h z t a b = go (finite l) (finite h) (λ (u : T (finite l)). u) (λ (u : T (finite h)). u) t
  where
    go : (p q : Bool) → (T p → T (finite l)) → (T q → T (finite h)) → T (some (cond (p && q) (iv l h) none)) → In (cond (p && q) (iv l h) none) z
    go true true u v t = (u tt, v tt, a, b)
    go true false u v t = absurd t
    go false q u v t = absurd t

-- ---- the operations on intervals
unfoldable pub add_i : Format → Interval → Interval → Interval
unfolding add checked
add_i f none j = none
add_i f (iv a b) none = none
add_i f (iv a b) (iv c d) = checked (add f a c) (add f b d)

unfoldable pub sub_i : Format → Interval → Interval → Interval
unfolding sub checked
sub_i f none j = none
sub_i f (iv a b) none = none
sub_i f (iv a b) (iv c d) = checked (sub f a d) (sub f b c)

unfoldable pub neg_i : Interval → Interval
unfolding neg
neg_i none = none
neg_i (iv a b) = iv (neg b) (neg a)

unfoldable pub least : Float → Float → Float
unfolding le
least x y = cond (le x y) x y

unfoldable pub greatest : Float → Float → Float
unfolding le
greatest x y = cond (le x y) y x

-- [a, b] is not negative: two products suffice
unfoldable pub mul_pos : Format → Float → Float → Float → Float → Interval
unfolding mul le checked
mul_pos f a b c d = checked (mul f (cond (le nought c) a b) c) (mul f (cond (le nought d) b a) d)

unfoldable pub mul_corners : Format → Float → Float → Float → Float → Interval
unfolding mul least greatest checked
mul_corners f a b c d =
    let p = mul f a c in
    let q = mul f a d in
    let r = mul f b c in
    let s = mul f b d in
    checked (least (least p q) (least r s)) (greatest (greatest p q) (greatest r s))

unfoldable pub mul_by : Format → Bool → Bool → Float → Float → Float → Float → Interval
unfolding mul_pos mul_corners
mul_by f true v a b c d = mul_pos f a b c d
mul_by f false true a b c d = mul_pos f c d a b
mul_by f false false a b c d = mul_corners f a b c d

unfoldable pub mul_i : Format → Interval → Interval → Interval
unfolding mul_by le
mul_i f none j = none
mul_i f (iv a b) none = none
mul_i f (iv a b) (iv c d) = mul_by f (le nought a) (le nought c) a b c d

-- for a divisor above zero
unfoldable pub div_by : Format → Bool → Float → Float → Float → Float → Interval
unfolding div le checked
div_by f false a b c d = none
div_by f true a b c d = checked (div f a (cond (le nought a) d c)) (div f b (cond (le nought b) c d))

unfoldable pub div_i : Format → Interval → Interval → Interval
unfolding div_by
div_i f none j = none
div_i f (iv a b) none = none
div_i f (iv a b) (iv c d) = div_by f (positive c) a b c d

-- ---- they hold the operations' results
pub add-in : (f : Format) (i j : Interval) (x y : Float) → In i x → In j y → T (some (add_i f i j)) → In (add_i f i j) (add f x y)
unfolding add_i
add-in f none j x y p q t = absurd p
add-in f (iv a b) none x y p q t = absurd q
add-in f (iv a b) (iv c d) x y p q t =
    let X = in-finite (iv a b) x p in
    let Y = in-finite (iv c d) y q in
    checked-in (add f a c) (add f b d) (add f x y) t (add-mono f a x c y p.0 X q.0 Y p.2 q.2) (add-mono f x b y d X p.1 Y q.1 p.3 q.3)

sub_in : (f : Format) (i j : Interval) (x y : Float) → In i x → In j y → T (some (sub_i f i j)) → In (sub_i f i j) (sub f x y)
unfolding sub_i
sub_in f none j x y p q t = absurd p
sub_in f (iv a b) none x y p q t = absurd q
sub_in f (iv a b) (iv c d) x y p q t =
    let X = in-finite (iv a b) x p in
    let Y = in-finite (iv c d) y q in
    checked-in (sub f a d) (sub f b c) (sub f x y) t (sub-mono f a x d y p.0 X q.1 Y p.2 q.3) (sub-mono f x b y c X p.1 Y q.0 p.3 q.2)

neg-in : (i : Interval) (x : Float) → In i x → In (neg_i i) (neg x)
unfolding neg_i
neg-in none x p = p
neg-in (iv a b) x p = (neg-finite b p.1, neg-finite a p.0, neg-anti x b p.3, neg-anti a x p.2)

-- ---- a product between its corners
-- from one edge of the rectangle: the first factor is fixed
module _ (f : Format) (a y c d : Float) (A : T (finite a)) (Y : T (finite y)) (C : T (finite c)) (D : T (finite d)) (l : T (le c y)) (h : T (le y d)) where
  turned : (u v : Float) → T (le (mul f u a) (mul f v a)) → T (le (mul f a u) (mul f a v))
  turned u v t = subst₂ (λ (p q : Float). T (le p q)) (mul-comm-float f u a) (mul-comm-float f v a) t

  edge-low : (m : Float) → T (le m (mul f a c)) → T (le m (mul f a d)) → T (le m (mul f a y))
  edge-low m p q = elim (le_total nought a (le-refl-finite nought tt) (le-refl-finite a A)) [
    | inl s ↦ le-trans-float m (mul f a c) (mul f a y) p (turned c y (mul-mono-pos f c y a C Y A s l))
    | inr s ↦ le-trans-float m (mul f a d) (mul f a y) q (turned d y (mul-mono-neg f y d a Y D A s h))
  ]

  edge-high : (m : Float) → T (le (mul f a c) m) → T (le (mul f a d) m) → T (le (mul f a y) m)
  edge-high m p q = elim (le_total nought a (le-refl-finite nought tt) (le-refl-finite a A)) [
    | inl s ↦ le-trans-float (mul f a y) (mul f a d) m (turned y d (mul-mono-pos f y d a Y D A s h)) q
    | inr s ↦ le-trans-float (mul f a y) (mul f a c) m (turned y c (mul-mono-neg f c y a C Y A s l)) p
  ]

product-ordered : (f : Format) (u v : Float) → T (finite u) → T (finite v) → T (le (mul f u v) (mul f u v))
product-ordered f u v U W = rounds-ordered f (pos_part u * pos_part v + neg_part u * neg_part v) (pos_part u * neg_part v + neg_part u * pos_part v) (den u * den v) (mul f u v) (mul-pos (den_pos u) (den_pos v)) (mul-rounds f u v U W)

module _ (f : Format) (a b c d x y : Float) (p : In (iv a b) x) (q : In (iv c d) y) where
  X : T (finite x)
  X = in-finite (iv a b) x p

  Y : T (finite y)
  Y = in-finite (iv c d) y q

  -- a bound of the four corners bounds the product
  corner-low : (m : Float) → T (le m (mul f a c)) → T (le m (mul f a d)) → T (le m (mul f b c)) → T (le m (mul f b d)) → T (le m (mul f x y))
  corner-low m ac ad bc bd = edge-low f x y c d X Y q.0 q.1 q.2 q.3 m (side c q.0 ac bc) (side d q.1 ad bd)
    where
      side : (e : Float) → T (finite e) → T (le m (mul f a e)) → T (le m (mul f b e)) → T (le m (mul f x e))
      side e E u v =
          subst (λ (z : Float). T (le m z)) (mul-comm-float f e x)
          (edge-low f e x a b E X p.0 p.1 p.2 p.3 m (subst (λ (z : Float). T (le m z)) (mul-comm-float f a e) u) (subst (λ (z : Float). T (le m z)) (mul-comm-float f b e) v))

  corner-high : (m : Float) → T (le (mul f a c) m) → T (le (mul f a d) m) → T (le (mul f b c) m) → T (le (mul f b d) m) → T (le (mul f x y) m)
  corner-high m ac ad bc bd = edge-high f x y c d X Y q.0 q.1 q.2 q.3 m (side c q.0 ac bc) (side d q.1 ad bd)
    where
      side : (e : Float) → T (finite e) → T (le (mul f a e) m) → T (le (mul f b e) m) → T (le (mul f x e) m)
      side e E u v =
          subst (λ (z : Float). T (le z m)) (mul-comm-float f e x)
          (edge-high f e x a b E X p.0 p.1 p.2 p.3 m (subst (λ (z : Float). T (le z m)) (mul-comm-float f a e) u) (subst (λ (z : Float). T (le z m)) (mul-comm-float f b e) v))

-- ---- the smaller and the larger of two
le-other : (x y : Float) → T (le x x) → T (le y y) → T (not (le x y)) → T (le y x)
le-other x y p q n = elim (le_total x y p q) [ inl t ↦ absurd (T_not (le x y) n t) | inr t ↦ t ]

module _ (x y : Float) (p : T (le x x)) (q : T (le y y)) where
  least-le : T (le (least x y) x) × T (le (least x y) y) × T (le (least x y) (least x y))
  unfolding least
  least-le = go (le x y) (λ (t : T (le x y)). t) (le-other x y p q)
    where
      go : (b : Bool) → (T b → T (le x y)) → (T (not b) → T (le y x)) → T (le (cond b x y) x) × T (le (cond b x y) y) × T (le (cond b x y) (cond b x y))
      go true h k = (p, h tt, p)
      go false h k = (k tt, q, q)

  greatest-ge : T (le x (greatest x y)) × T (le y (greatest x y)) × T (le (greatest x y) (greatest x y))
  unfolding greatest
  greatest-ge = go (le x y) (λ (t : T (le x y)). t) (le-other x y p q)
    where
      go : (b : Bool) → (T b → T (le x y)) → (T (not b) → T (le y x)) → T (le x (cond b y x)) × T (le y (cond b y x)) × T (le (cond b y x) (cond b y x))
      go true h k = (h tt, q, q)
      go false h k = (p, k tt, p)

-- ---- the product and the quotient
mul-corners-in : (f : Format) (a b c d x y : Float) → In (iv a b) x → In (iv c d) y → T (some (mul_corners f a b c d)) → In (mul_corners f a b c d) (mul f x y)
unfolding mul_corners
mul-corners-in f a b c d x y p q t =
    let ac = mul f a c in
    let ad = mul f a d in
    let bc = mul f b c in
    let bd = mul f b d in
    let Ac = product-ordered f a c p.0 q.0 in
    let AD = product-ordered f a d p.0 q.1 in
    let BC = product-ordered f b c p.1 q.0 in
    let BD = product-ordered f b d p.1 q.1 in
    let l = least-le ac ad Ac AD in
    let r = least-le bc bd BC BD in
    let m = least-le (least ac ad) (least bc bd) l.2 r.2 in
    let n = least (least ac ad) (least bc bd) in
    let l' = greatest-ge ac ad Ac AD in
    let r' = greatest-ge bc bd BC BD in
    let m' = greatest-ge (greatest ac ad) (greatest bc bd) l'.2 r'.2 in
    let n' = greatest (greatest ac ad) (greatest bc bd) in
    checked-in n n' (mul f x y) t
    (corner-low f a b c d x y p q n
    (le-trans-float n (least ac ad) ac m.0 l.0) (le-trans-float n (least ac ad) ad m.0 l.1)
    (le-trans-float n (least bc bd) bc m.1 r.0) (le-trans-float n (least bc bd) bd m.1 r.1))
    (corner-high f a b c d x y p q n'
    (le-trans-float ac (greatest ac ad) n' l'.0 m'.0) (le-trans-float ad (greatest ac ad) n' l'.1 m'.0)
    (le-trans-float bc (greatest bc bd) n' r'.0 m'.1) (le-trans-float bd (greatest bc bd) n' r'.1 m'.1))

mul-pos-in : (f : Format) (a b c d x y : Float) → T (le nought a) → In (iv a b) x → In (iv c d) y → T (some (mul_pos f a b c d)) → In (mul_pos f a b c d) (mul f x y)
unfolding mul_pos
mul-pos-in f a b c d x y s p q t =
    let X = in-finite (iv a b) x p in
    let Y = in-finite (iv c d) y q in
    let xs = le-trans-float nought a x s p.2 in
    checked-in (mul f (cond (le nought c) a b) c) (mul f (cond (le nought d) b a) d) (mul f x y) t
    (le-trans-float (mul f (cond (le nought c) a b) c) (mul f x c) (mul f x y) (low (le nought c) (λ (u : T (le nought c)). u) (le-other nought c (le-refl-finite nought tt) (le-refl-finite c q.0)))
    (subst₂ (λ (u v : Float). T (le u v)) (mul-comm-float f c x) (mul-comm-float f y x) (mul-mono-pos f c y x q.0 Y X xs q.2)))
    (le-trans-float (mul f x y) (mul f x d) (mul f (cond (le nought d) b a) d)
    (subst₂ (λ (u v : Float). T (le u v)) (mul-comm-float f y x) (mul-comm-float f d x) (mul-mono-pos f y d x Y q.1 X xs q.3))
    (high (le nought d) (λ (u : T (le nought d)). u) (le-other nought d (le-refl-finite nought tt) (le-refl-finite d q.1))))
  where
    low : (u : Bool) → (T u → T (le nought c)) → (T (not u) → T (le c nought)) → T (le (mul f (cond u a b) c) (mul f x c))
    low true h k = mul-mono-pos f a x c p.0 (in-finite (iv a b) x p) q.0 (h tt) p.2
    low false h k = mul-mono-neg f x b c (in-finite (iv a b) x p) p.1 q.0 (k tt) p.3

    high : (u : Bool) → (T u → T (le nought d)) → (T (not u) → T (le d nought)) → T (le (mul f x d) (mul f (cond u b a) d))
    high true h k = mul-mono-pos f x b d (in-finite (iv a b) x p) p.1 q.1 (h tt) p.3
    high false h k = mul-mono-neg f a x d p.0 (in-finite (iv a b) x p) q.1 (k tt) p.2

pub mul_in : (f : Format) (i j : Interval) (x y : Float) → In i x → In j y → T (some (mul_i f i j)) → In (mul_i f i j) (mul f x y)
unfolding mul_i
mul_in f none j x y p q t = absurd p
mul_in f (iv a b) none x y p q t = absurd q
mul_in f (iv a b) (iv c d) x y p q t = go (le nought a) (le nought c) (λ (u : T (le nought a)). u) (λ (u : T (le nought c)). u) t
  where
    go : (u v : Bool) → (T u → T (le nought a)) → (T v → T (le nought c)) → T (some (mul_by f u v a b c d)) → In (mul_by f u v a b c d) (mul f x y)
    go true v h k t = mul-pos-in f a b c d x y (h tt) p q t
    go false true h k t = subst (λ (z : Float). In (mul_pos f c d a b) z) (mul-comm-float f y x) (mul-pos-in f c d a b y x (k tt) q p t)
    go false false h k t = mul-corners-in f a b c d x y p q t

above-finite : (z : Float) → T (finite z) → T (above z) → T (positive z)
above-finite nan p a = absurd p
above-finite (inf s) p a = absurd p
above-finite (fin true m e) p a = absurd a
above-finite (fin false m e) p a = a

div-in : (f : Format) (i j : Interval) (x y : Float) → In i x → In j y → T (some (div_i f i j)) → In (div_i f i j) (div f x y)
unfolding div_i
div-in f none j x y p q t = absurd p
div-in f (iv a b) none x y p q t = absurd q
div-in f (iv a b) (iv c d) x y p q t = go (positive c) (λ (u : T (positive c)). u) t
  where
    low : T (positive c) → T (positive y) → T (positive d) → (u : Bool) → (T u → T (le nought a)) → (T (not u) → T (le a nought)) → T (le (div f a (cond u d c)) (div f a y))
    low C Y D true h k = div-anti-pos f a y d p.0 Y D (h tt) q.3
    low C Y D false h k = div-mono-neg f a c y p.0 C Y (k tt) q.2

    high : T (positive c) → T (positive y) → T (positive d) → (u : Bool) → (T u → T (le nought b)) → (T (not u) → T (le b nought)) → T (le (div f b y) (div f b (cond u c d)))
    high C Y D true h k = div-anti-pos f b c y p.1 C Y (h tt) q.2
    high C Y D false h k = div-mono-neg f b y d p.1 Y D (k tt) q.3

    go : (u : Bool) → (T u → T (positive c)) → T (some (div_by f u a b c d)) → In (div_by f u a b c d) (div f x y)
    go false h t = absurd t
    go true h t =
        let C = h tt in
        let X = in-finite (iv a b) x p in
        let Y = above-finite y (in-finite (iv c d) y q) (above_of_le c y C q.2) in
        let D = above-finite d q.1 (above_of_le y d Y q.3) in
        checked-in (div f a (cond (le nought a) d c)) (div f b (cond (le nought b) c d)) (div f x y) t
        (le-trans-float (div f a (cond (le nought a) d c)) (div f a y) (div f x y)
        (low C Y D (le nought a) (λ (u : T (le nought a)). u) (le-other nought a (le-refl-finite nought tt) (le-refl-finite a p.0))) (div_mono f a x y p.0 X Y p.2))
        (le-trans-float (div f x y) (div f b y) (div f b (cond (le nought b) c d)) (div_mono f x b y X p.1 Y p.3)
        (high C Y D (le nought b) (λ (u : T (le nought b)). u) (le-other nought b (le-refl-finite nought tt) (le-refl-finite b p.1))))

-- ---- expressions. `var n` is the n-th variable from 0; `share a b` is b with a's value as a new variable 0, the others moved up by one.
pub data Expr : Type 0 where
  var : ℕ → Expr
  lit : Float → Expr
  sum difference product quotient share : Expr → Expr → Expr
  opposite : Expr → Expr

unfoldable pub value : List Float → ℕ → Float
value [] n = nan
value (x ∷ ρ) zero = x
value (x ∷ ρ) (suc n) = value ρ n

unfoldable pub known : List Interval → ℕ → Interval
known [] n = none
known (i ∷ σ) zero = i
known (i ∷ σ) (suc n) = known σ n

unfoldable pub eval : Format → List Float → Expr → Float
unfolding value
eval f ρ (var n) = value ρ n
eval f ρ (lit x) = x
eval f ρ (sum a b) = add f (eval f ρ a) (eval f ρ b)
eval f ρ (difference a b) = sub f (eval f ρ a) (eval f ρ b)
eval f ρ (product a b) = mul f (eval f ρ a) (eval f ρ b)
eval f ρ (quotient a b) = div f (eval f ρ a) (eval f ρ b)
eval f ρ (share a b) = let x = eval f ρ a in eval f (x ∷ ρ) b
eval f ρ (opposite a) = neg (eval f ρ a)

unfoldable pub after : Interval → Interval → Interval
after none j = none
after (iv l h) j = j

unfoldable pub range : Format → List Interval → Expr → Interval
unfolding known checked add_i sub_i mul_i div_i neg_i after
range f σ (var n) = known σ n
range f σ (lit x) = checked x x
range f σ (sum a b) = add_i f (range f σ a) (range f σ b)
range f σ (difference a b) = sub_i f (range f σ a) (range f σ b)
range f σ (product a b) = mul_i f (range f σ a) (range f σ b)
range f σ (quotient a b) = div_i f (range f σ a) (range f σ b)
range f σ (share a b) = let i = range f σ a in after i (range f (i ∷ σ) b)
range f σ (opposite a) = neg_i (range f σ a)

-- each variable lies in its interval: for two variables the proof is (p, (q, tt))
abbrev pub Inside : List Interval → List Float → Type 0
Inside [] ρ = Unit {0}
Inside (i ∷ σ) [] = ⊥
Inside (i ∷ σ) (x ∷ ρ) = In i x × Inside σ ρ

known_in : (σ : List Interval) (ρ : List Float) (n : ℕ) → Inside σ ρ → T (some (known σ n)) → In (known σ n) (value ρ n)
unfolding known value
known_in [] ρ n p t = absurd t
known_in (i ∷ σ) [] n p t = absurd p
known_in (i ∷ σ) (x ∷ ρ) zero p t = p.0
known_in (i ∷ σ) (x ∷ ρ) (suc n) p t = known_in σ ρ n p.1 t

-- an operation on intervals that gives one has been given two
Strict : (Interval → Interval → Interval) → Type 0
Strict g = (i j : Interval) → T (some (g i j)) → T (some i) × T (some j)

add-strict : (f : Format) → Strict (add_i f)
unfolding Strict add_i
add-strict f none j t = absurd t
add-strict f (iv a b) none t = absurd t
add-strict f (iv a b) (iv c d) t = (tt, tt)

sub-strict : (f : Format) → Strict (sub_i f)
unfolding Strict sub_i
sub-strict f none j t = absurd t
sub-strict f (iv a b) none t = absurd t
sub-strict f (iv a b) (iv c d) t = (tt, tt)

mul-strict : (f : Format) → Strict (mul_i f)
unfolding Strict mul_i
mul-strict f none j t = absurd t
mul-strict f (iv a b) none t = absurd t
mul-strict f (iv a b) (iv c d) t = (tt, tt)

div-strict : (f : Format) → Strict (div_i f)
unfolding Strict div_i
div-strict f none j t = absurd t
div-strict f (iv a b) none t = absurd t
div-strict f (iv a b) (iv c d) t = (tt, tt)

after-strict : Strict after
unfolding Strict after
after-strict none j t = absurd t
after-strict (iv a b) j t = (tt, t)

neg-strict : (i : Interval) → T (some (neg_i i)) → T (some i)
unfolding neg_i
neg-strict none t = t
neg-strict (iv a b) t = tt

after-in : (i j : Interval) (z : Float) → T (some (after i j)) → In j z → In (after i j) z
unfolding after
after-in none j z t p = absurd t
after-in (iv a b) j z t p = p

lit-in : (x : Float) → T (some (checked x x)) → In (checked x x) x
unfolding checked
lit-in nan t = absurd t
lit-in (inf s) t = absurd t
lit-in (fin s m e) t = (tt, tt, le-refl-finite (fin s m e) tt, le-refl-finite (fin s m e) tt)

sound : (f : Format) (σ : List Interval) (ρ : List Float) (e : Expr) → Inside σ ρ → T (some (range f σ e)) → In (range f σ e) (eval f ρ e)
unfolding Strict eval range
sound f σ ρ (var n) p t = known_in σ ρ n p t
sound f σ ρ (lit x) p t = lit-in x t
sound f σ ρ (sum a b) p t =
    let s = add-strict f (range f σ a) (range f σ b) t in
    add-in f (range f σ a) (range f σ b) (eval f ρ a) (eval f ρ b) (sound f σ ρ a p s.0) (sound f σ ρ b p s.1) t
sound f σ ρ (difference a b) p t =
    let s = sub-strict f (range f σ a) (range f σ b) t in
    sub_in f (range f σ a) (range f σ b) (eval f ρ a) (eval f ρ b) (sound f σ ρ a p s.0) (sound f σ ρ b p s.1) t
sound f σ ρ (product a b) p t =
    let s = mul-strict f (range f σ a) (range f σ b) t in
    mul_in f (range f σ a) (range f σ b) (eval f ρ a) (eval f ρ b) (sound f σ ρ a p s.0) (sound f σ ρ b p s.1) t
sound f σ ρ (quotient a b) p t =
    let s = div-strict f (range f σ a) (range f σ b) t in
    div-in f (range f σ a) (range f σ b) (eval f ρ a) (eval f ρ b) (sound f σ ρ a p s.0) (sound f σ ρ b p s.1) t
sound f σ ρ (share a b) p t =
    let i = range f σ a in
    let x = eval f ρ a in
    let s = after-strict i (range f (i ∷ σ) b) t in
    after-in i (range f (i ∷ σ) b) (eval f (x ∷ ρ) b) t (sound f (i ∷ σ) (x ∷ ρ) b (sound f σ ρ a p s.0, p) s.1)
sound f σ ρ (opposite a) p t = neg-in (range f σ a) (eval f ρ a) (sound f σ ρ a p (neg-strict (range f σ a) t))

-- ---- an expression within given bounds
abbrev pub within : Interval → Float → Float → Bool
within none lo hi = false
within (iv l h) lo hi = le lo l && le h hi

unfoldable pub passes : Format → List Interval → Expr → Float → Float → Bool
unfolding range le of_bits neg
passes f σ e lo hi = within (range f σ e) lo hi

abbrev pub Between : Float → Float → Float → Type 0
Between lo hi z = T (finite z) × T (le lo z) × T (le z hi)

within-some : (i : Interval) (lo hi : Float) → T (within i lo hi) → T (some i)
within-some none lo hi t = t
within-some (iv l h) lo hi t = tt

within_in : (i : Interval) (lo hi z : Float) → T (within i lo hi) → In i z → Between lo hi z
within_in none lo hi z t p = absurd p
within_in (iv l h) lo hi z t p =
    (in-finite (iv l h) z p, le-trans-float lo l z (and_l (le lo l) (le h hi) t) p.2, le-trans-float z h hi p.3 (and_r (le lo l) (le h hi) t))

pub bounded : (f : Format) (σ : List Interval) (ρ : List Float) (e : Expr) (lo hi : Float) → Inside σ ρ → T (passes f σ e lo hi) → Between lo hi (eval f ρ e)
unfolding passes
bounded f σ ρ e lo hi p t = within_in (range f σ e) lo hi (eval f ρ e) t (sound f σ ρ e p (within-some (range f σ e) lo hi t))

-- an interval of literals, with its own test
pub in-literals : (l h z : Float) → T (finite l && finite h) → T (le l z) → T (le z h) → In (iv l h) z
in-literals l h z t a b = (and_l (finite l) (finite h) t, and_r (finite l) (finite h) t, a, b)
