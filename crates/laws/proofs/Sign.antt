-- The minus sign: it passes through products and quotients, NaN and infinities included, and through a sum unless the sum is an exact zero of two unlike signs, which is +0 both ways.
-- Comparisons turn around. Assumes nothing.
use mathlib.Core.Path.{◌≡◌, refl, sym, ap, ap₂, ◌∙◌}
use Prim.Native.Nat.{ℕ, ◌+◌, ◌-◌, ◌*◌, ◌≤◌, ◌<◌}
use native.Mathlib.Nat.{mul_comm, add_comm}
use native.Mathlib.Omega.{arith}
use mathlib.Core.Bool.{Bool, true, false, not, ◌&&◌, ◌||◌, beq, cond, true≢false}
use lib.IntN.{pos}
use lib.Dec.{T, ltb, eqb, ltb→lt, nltb→le, eqb→eq}
use lib.Ieee.{Float, nan, inf, fin, Format, up, down, unlike, round, neg, sum, add, sub, mul, div, level, lt, eq, le, ne, is_nan}
use lib.Ieee.Exact.{HasValue}
use lib.Ieee.Fits.{eq→eqb}
use lib.Ieee.Scale.{finite}
use Rattle.laws.proofs.Order.{round-neg}
use Rattle.laws.proofs.Value.{sign, bare}
use Rattle.laws.proofs.Bits.{same-bare}
use Rattle.laws.proofs.Grid.{round-sign}

pub neg-neg : (x : Float) → neg (neg x) ≡ x
unfolding neg
neg-neg nan = refl
neg-neg (inf true) = refl
neg-neg (inf false) = refl
neg-neg (fin true m e) = refl
neg-neg (fin false m e) = refl

pub neg-sign : (x : Float) → T (not (is_nan x)) → sign (neg x) ≡ not (sign x)
unfolding neg is_nan
neg-sign nan n = absurd n
neg-sign (inf s) n = refl
neg-sign (fin s m e) n = refl

pub neg-nan : (x : Float) → is_nan (neg x) ≡ is_nan x
unfolding neg is_nan
neg-nan nan = refl
neg-nan (inf s) = refl
neg-nan (fin s m e) = refl

pub neg-finite-same : (x : Float) → finite (neg x) ≡ finite x
unfolding neg
neg-finite-same nan = refl
neg-finite-same (inf s) = refl
neg-finite-same (fin s m e) = refl

pub bare-neg : (x : Float) → bare (neg x) ≡ bare x
unfolding neg
bare-neg nan = refl
bare-neg (inf s) = refl
bare-neg (fin s m e) = refl

pub neg_value : (x : Float) (s : Bool) (a c : ℕ) → HasValue x s a c → HasValue (neg x) (not s) a c
unfolding neg
neg_value nan s a c h = absurd h
neg_value (inf t) s a c h = absurd h
neg_value (fin t m e) s a c h = (ap not h.0, h.1)

-- ---- rounding
pub round-not : (f : Format) (s : Bool) (a c : ℕ) → round f (not s) a c ≡ neg (round f s a c)
round-not f false a c = round-neg f a c
round-not f true a c = sym (neg-neg (round f false a c)) ∙ ap neg (sym (round-neg f a c))

unlike-not-l : (s t : Bool) → unlike (not s) t ≡ not (unlike s t)
unlike-not-l true true = refl
unlike-not-l true false = refl
unlike-not-l false true = refl
unlike-not-l false false = refl

unlike-not-r : (s t : Bool) → unlike s (not t) ≡ not (unlike s t)
unlike-not-r true true = refl
unlike-not-r true false = refl
unlike-not-r false true = refl
unlike-not-r false false = refl

round-not-l : (f : Format) (s t : Bool) (a c : ℕ) → round f (unlike (not s) t) a c ≡ neg (round f (unlike s t) a c)
round-not-l f s t a c = ap (λ (u : Bool). round f u a c) (unlike-not-l s t) ∙ round-not f (unlike s t) a c

round-not-r : (f : Format) (s t : Bool) (a c : ℕ) → round f (unlike s (not t)) a c ≡ neg (round f (unlike s t) a c)
round-not-r f s t a c = ap (λ (u : Bool). round f u a c) (unlike-not-r s t) ∙ round-not f (unlike s t) a c

-- ---- products and quotients
neg-inf : (b s t : Bool) → s ≡ not t → cond b nan (inf s) ≡ neg (cond b nan (inf t))
unfolding neg
neg-inf true s t e = refl
neg-inf false s t e = ap inf e

pub mul-neg-l : (f : Format) (x y : Float) → mul f (neg x) y ≡ neg (mul f x y)
unfolding mul neg
mul-neg-l f nan y = refl
mul-neg-l f (inf s) nan = refl
mul-neg-l f (inf s) (inf t) = ap inf (unlike-not-l s t)
mul-neg-l f (inf s) (fin t n d) = neg-inf (eqb n 0) (unlike (not s) t) (unlike s t) (unlike-not-l s t)
mul-neg-l f (fin s m e) nan = refl
mul-neg-l f (fin s m e) (inf t) = neg-inf (eqb m 0) (unlike (not s) t) (unlike s t) (unlike-not-l s t)
mul-neg-l f (fin s m e) (fin t n d) = round-not-l f s t (m * up e * (n * up d)) (down e * down d)

pub mul-neg-r : (f : Format) (x y : Float) → mul f x (neg y) ≡ neg (mul f x y)
unfolding mul neg
mul-neg-r f nan y = refl
mul-neg-r f (inf s) nan = refl
mul-neg-r f (inf s) (inf t) = ap inf (unlike-not-r s t)
mul-neg-r f (inf s) (fin t n d) = neg-inf (eqb n 0) (unlike s (not t)) (unlike s t) (unlike-not-r s t)
mul-neg-r f (fin s m e) nan = refl
mul-neg-r f (fin s m e) (inf t) = neg-inf (eqb m 0) (unlike s (not t)) (unlike s t) (unlike-not-r s t)
mul-neg-r f (fin s m e) (fin t n d) = round-not-r f s t (m * up e * (n * up d)) (down e * down d)

pub mul-neg-neg : (f : Format) (x y : Float) → mul f (neg x) (neg y) ≡ mul f x y
mul-neg-neg f x y = mul-neg-l f x (neg y) ∙ ap neg (mul-neg-r f x y) ∙ neg-neg (mul f x y)

neg-quotient : (a b s t : Bool) (u v : Float) → s ≡ not t → u ≡ neg v → cond a (cond b nan (inf s)) u ≡ neg (cond a (cond b nan (inf t)) v)
neg-quotient true b s t u v e g = neg-inf b s t e
neg-quotient false b s t u v e g = g

pub div-neg-l : (f : Format) (x y : Float) → div f (neg x) y ≡ neg (div f x y)
unfolding div neg
div-neg-l f nan y = refl
div-neg-l f (inf s) nan = refl
div-neg-l f (inf s) (inf t) = refl
div-neg-l f (inf s) (fin t n d) = ap inf (unlike-not-l s t)
div-neg-l f (fin s m e) nan = refl
div-neg-l f (fin s m e) (inf t) = λ i. fin (unlike-not-l s t i) 0 (pos 0)
div-neg-l f (fin s m e) (fin t n d) =
    neg-quotient (eqb n 0) (eqb m 0) (unlike (not s) t) (unlike s t) (round f (unlike (not s) t) (m * up e * down d) (n * up d * down e)) (round f (unlike s t) (m * up e * down d) (n * up d * down e))
    (unlike-not-l s t) (round-not-l f s t (m * up e * down d) (n * up d * down e))

pub div-neg-r : (f : Format) (x y : Float) → div f x (neg y) ≡ neg (div f x y)
unfolding div neg
div-neg-r f nan y = refl
div-neg-r f (inf s) nan = refl
div-neg-r f (inf s) (inf t) = refl
div-neg-r f (inf s) (fin t n d) = ap inf (unlike-not-r s t)
div-neg-r f (fin s m e) nan = refl
div-neg-r f (fin s m e) (inf t) = λ i. fin (unlike-not-r s t i) 0 (pos 0)
div-neg-r f (fin s m e) (fin t n d) =
    neg-quotient (eqb n 0) (eqb m 0) (unlike s (not t)) (unlike s t) (round f (unlike s (not t)) (m * up e * down d) (n * up d * down e)) (round f (unlike s t) (m * up e * down d) (n * up d * down e))
    (unlike-not-r s t) (round-not-r f s t (m * up e * down d) (n * up d * down e))

pub div-neg-neg : (f : Format) (x y : Float) → div f (neg x) (neg y) ≡ div f x y
div-neg-neg f x y = div-neg-l f x (neg y) ∙ ap neg (div-neg-r f x y) ∙ neg-neg (div f x y)

-- ---- sums
-- finite, of unlike signs and of one size: the sum is +0
abbrev pub cancels : Float → Float → Bool
cancels nan y = false
cancels (inf s) y = false
cancels (fin s m e) nan = false
cancels (fin s m e) (inf t) = false
cancels (fin s m e) (fin t n d) = unlike s t && eqb (m * up e * down d) (n * up d * down e)

-- of unlike signs, at sizes that differ: the larger one's sign
unlike-sum : (f : Format) (s : Bool) (a b c : ℕ) → T (not (eqb a b)) → cond (ltb a b) (round f s (b - a) c) (round f (not s && ltb b a) (a - b) c) ≡ neg (cond (ltb a b) (round f (not s) (b - a) c) (round f (s && ltb b a) (a - b) c))
unlike-sum f s a b c k = go (ltb a b) (ltb b a) (nltb→le a b) (nltb→le b a)
  where
    flip : (u : Bool) → round f u (b - a) c ≡ neg (round f (not u) (b - a) c)
    flip true = round-not f false (b - a) c
    flip false = round-not f true (b - a) c

    both : (u : Bool) → round f (not u && true) (a - b) c ≡ neg (round f (u && true) (a - b) c)
    both true = round-not f true (a - b) c
    both false = round-not f false (a - b) c

    same : b ≤ a → a ≤ b → a ≡ b
    same h k = omega arith

    no : (u : Bool) → T (not u) → T u → ⊥
    no true p q = p
    no false p q = q

    go : (u v : Bool) → (T (not u) → b ≤ a) → (T (not v) → a ≤ b) → cond u (round f s (b - a) c) (round f (not s && v) (a - b) c) ≡ neg (cond u (round f (not s) (b - a) c) (round f (s && v) (a - b) c))
    go true v h l = flip s
    go false true h l = both s
    go false false h l = absurd (no (eqb a b) k (eq→eqb (same (h tt) (l tt))))

pub sum-neg : (f : Format) (s : Bool) (a : ℕ) (t : Bool) (b c : ℕ) → T (not (unlike s t && eqb a b)) → sum f (not s) a (not t) b c ≡ neg (sum f s a t b c)
unfolding sum
sum-neg f true a true b c k = round-not f true (a + b) c
sum-neg f false a false b c k = round-not f false (a + b) c
sum-neg f true a false b c k = unlike-sum f true a b c k
sum-neg f false a true b c k = unlike-sum f false a b c k

pub add-neg : (f : Format) (x y : Float) → T (not (cancels x y)) → add f (neg x) (neg y) ≡ neg (add f x y)
unfolding add neg
add-neg f nan y k = refl
add-neg f (inf s) nan k = refl
add-neg f (inf true) (inf true) k = refl
add-neg f (inf true) (inf false) k = refl
add-neg f (inf false) (inf true) k = refl
add-neg f (inf false) (inf false) k = refl
add-neg f (inf s) (fin t n d) k = refl
add-neg f (fin s m e) nan k = refl
add-neg f (fin s m e) (inf t) k = refl
add-neg f (fin s m e) (fin t n d) k = sum-neg f s (m * up e * down d) t (n * up d * down e) (down e * down d) k

pub sub-neg : (f : Format) (x y : Float) → T (not (cancels x (neg y))) → sub f (neg x) (neg y) ≡ neg (sub f x y)
unfolding sub
sub-neg f x y k = add-neg f x (neg y) k

-- like signs do not cancel
pub like-no-cancel : (x y : Float) → sign x ≡ sign y → T (not (cancels x y))
like-no-cancel nan y h = tt
like-no-cancel (inf s) y h = tt
like-no-cancel (fin s m e) nan h = tt
like-no-cancel (fin s m e) (inf t) h = tt
like-no-cancel (fin true m e) (fin true n d) h = tt
like-no-cancel (fin true m e) (fin false n d) h = absurd (true≢false h)
like-no-cancel (fin false m e) (fin true n d) h = absurd (true≢false (sym h))
like-no-cancel (fin false m e) (fin false n d) h = tt

-- nor do values that differ in size
pub differ-no-cancel : (x y : Float) → T (not (eq (bare x) (bare y))) → T (not (cancels x y))
unfolding eq
differ-no-cancel nan y h = tt
differ-no-cancel (inf s) y h = tt
differ-no-cancel (fin s m e) nan h = tt
differ-no-cancel (fin s m e) (inf t) h = tt
differ-no-cancel (fin s m e) (fin t n d) h = go (unlike s t) (eqb (m * up e * down d) (n * up d * down e)) h
  where
    go : (u v : Bool) → T (not (v && true)) → T (not (u && v))
    go true true h = h
    go true false h = tt
    go false v h = tt

-- ---- the order of the operands
same-eqb : (a b : ℕ) → eqb a b ≡ eqb b a
same-eqb a b = go (eqb a b) (eqb b a) (λ t. eq→eqb (sym (eqb→eq a b t))) (λ t. eq→eqb (sym (eqb→eq b a t)))
  where
    go : (u v : Bool) → (T u → T v) → (T v → T u) → u ≡ v
    go true true p q = refl
    go true false p q = absurd (p tt)
    go false true p q = absurd (q tt)
    go false false p q = refl

unlike-comm : (f : Format) (s : Bool) (a b c : ℕ) → cond (ltb a b) (round f (not s) (b - a) c) (round f (s && ltb b a) (a - b) c) ≡ cond (ltb b a) (round f s (a - b) c) (round f (not s && ltb a b) (b - a) c)
unlike-comm f s a b c = go (ltb a b) (ltb b a) (ltb→lt a b) (ltb→lt b a) (nltb→le a b) (nltb→le b a)
  where
    none : a < b → b < a → ⊥
    none h k = omega arith

    still : (u : Bool) → (u && false) ≡ false
    still true = refl
    still false = refl

    on : (u : Bool) → (u && true) ≡ u
    on true = refl
    on false = refl

    zero-both : b ≤ a → a ≤ b → a - b ≡ b - a
    zero-both h k = omega arith

    go : (u v : Bool) → (T u → a < b) → (T v → b < a) → (T (not u) → b ≤ a) → (T (not v) → a ≤ b) → cond u (round f (not s) (b - a) c) (round f (s && v) (a - b) c) ≡ cond v (round f s (a - b) c) (round f (not s && u) (b - a) c)
    go true true h k h' k' = absurd (none (h tt) (k tt))
    go true false h k h' k' = ap (λ (z : Bool). round f z (b - a) c) (sym (on (not s)))
    go false true h k h' k' = ap (λ (z : Bool). round f z (a - b) c) (on s)
    go false false h k h' k' = ap₂ (λ (z : Bool) (w : ℕ). round f z w c) (still s ∙ sym (still (not s))) (zero-both (h' tt) (k' tt))

sum_comm : (f : Format) (s : Bool) (a : ℕ) (t : Bool) (b c d : ℕ) → c ≡ d → sum f s a t b c ≡ sum f t b s a d
unfolding sum
sum_comm f true a true b c d e = ap₂ (λ (z w : ℕ). round f true z w) (add_comm a b) e
sum_comm f false a false b c d e = ap₂ (λ (z w : ℕ). round f false z w) (add_comm a b) e
sum_comm f true a false b c d e = unlike-comm f true a b c ∙ ap (λ (w : ℕ). cond (ltb b a) (round f true (a - b) w) (round f (false && ltb a b) (b - a) w)) e
sum_comm f false a true b c d e = unlike-comm f false a b c ∙ ap (λ (w : ℕ). cond (ltb b a) (round f false (a - b) w) (round f (true && ltb a b) (b - a) w)) e

pub add-comm-float : (f : Format) (x y : Float) → add f x y ≡ add f y x
unfolding add
add-comm-float f nan nan = refl
add-comm-float f nan (inf t) = refl
add-comm-float f nan (fin t n d) = refl
add-comm-float f (inf s) nan = refl
add-comm-float f (inf true) (inf true) = refl
add-comm-float f (inf true) (inf false) = refl
add-comm-float f (inf false) (inf true) = refl
add-comm-float f (inf false) (inf false) = refl
add-comm-float f (inf s) (fin t n d) = refl
add-comm-float f (fin s m e) nan = refl
add-comm-float f (fin s m e) (inf t) = refl
add-comm-float f (fin s m e) (fin t n d) = sum_comm f s (m * up e * down d) t (n * up d * down e) (down e * down d) (down d * down e) (mul_comm (down e) (down d))

-- y - x is -(x - y), unless it is zero
pub sub-swap : (f : Format) (x y : Float) → T (not (cancels x (neg y))) → sub f y x ≡ neg (sub f x y)
unfolding sub
sub-swap f x y k = add-comm-float f y (neg x) ∙ ap (add f (neg x)) (sym (neg-neg y)) ∙ add-neg f x (neg y) k

-- ---- comparisons
pub eq-neg : (x y : Float) → eq (neg x) (neg y) ≡ eq x y
unfolding eq neg
eq-neg nan y = refl
eq-neg (inf s) nan = refl
eq-neg (inf true) (inf true) = refl
eq-neg (inf true) (inf false) = refl
eq-neg (inf false) (inf true) = refl
eq-neg (inf false) (inf false) = refl
eq-neg (inf s) (fin t n d) = refl
eq-neg (fin s m e) nan = refl
eq-neg (fin s m e) (inf t) = refl
eq-neg (fin true m e) (fin true n d) = refl
eq-neg (fin true m e) (fin false n d) = refl
eq-neg (fin false m e) (fin true n d) = refl
eq-neg (fin false m e) (fin false n d) = refl

level_comm : (s : Bool) (a : ℕ) (t : Bool) (b : ℕ) → level s a t b ≡ level t b s a
level_comm s a t b = go (eqb a b) (eqb→eq a b) (same-eqb a b)
  where
    signs : (s t : Bool) → beq s t ≡ beq t s
    signs true true = refl
    signs true false = refl
    signs false true = refl
    signs false false = refl

    go : (u : Bool) → (T u → a ≡ b) → u ≡ eqb b a → (u && (beq s t || eqb a 0)) ≡ (eqb b a && (beq t s || eqb b 0))
    go true h e = ap₂ (λ (p q : Bool). p || q) (signs s t) (ap (λ (n : ℕ). eqb n 0) (h tt)) ∙ ap (λ (v : Bool). v && (beq t s || eqb b 0)) e
    go false h e = ap (λ (v : Bool). v && (beq t s || eqb b 0)) e

pub eq_comm : (x y : Float) → eq x y ≡ eq y x
unfolding eq
eq_comm nan nan = refl
eq_comm nan (inf t) = refl
eq_comm nan (fin t n d) = refl
eq_comm (inf s) nan = refl
eq_comm (inf true) (inf true) = refl
eq_comm (inf true) (inf false) = refl
eq_comm (inf false) (inf true) = refl
eq_comm (inf false) (inf false) = refl
eq_comm (inf s) (fin t n d) = refl
eq_comm (fin s m e) nan = refl
eq_comm (fin s m e) (inf t) = refl
eq_comm (fin s m e) (fin t n d) = level_comm s (m * up e * down d) t (n * up d * down e)

pub lt-neg : (x y : Float) → lt (neg x) (neg y) ≡ lt y x
unfolding lt neg
lt-neg nan nan = refl
lt-neg nan (inf t) = refl
lt-neg nan (fin t n d) = refl
lt-neg (inf s) nan = refl
lt-neg (inf true) (inf true) = refl
lt-neg (inf true) (inf false) = refl
lt-neg (inf false) (inf true) = refl
lt-neg (inf false) (inf false) = refl
lt-neg (inf s) (fin t n d) = refl
lt-neg (fin s m e) nan = refl
lt-neg (fin s m e) (inf true) = refl
lt-neg (fin s m e) (inf false) = refl
lt-neg (fin true m e) (fin true n d) = refl
lt-neg (fin true m e) (fin false n d) = refl
lt-neg (fin false m e) (fin true n d) = ap (λ (k : ℕ). ltb 0 k) (add_comm (m * up e * down d) (n * up d * down e))
lt-neg (fin false m e) (fin false n d) = refl

pub le-neg : (x y : Float) → le (neg x) (neg y) ≡ le y x
unfolding le
le-neg x y = ap₂ (λ (p q : Bool). p || q) (lt-neg x y) (eq-neg x y ∙ eq_comm x y)

pub ne-neg : (x y : Float) → ne (neg x) (neg y) ≡ ne x y
unfolding ne
ne-neg x y = ap not (eq-neg x y)

-- one operand: comparisons with a constant of the other sign
pub lt-neg-l : (x y : Float) → lt (neg x) y ≡ lt (neg y) x
lt-neg-l x y = ap (lt (neg x)) (sym (neg-neg y)) ∙ lt-neg x (neg y)

pub le-neg-l : (x y : Float) → le (neg x) y ≡ le (neg y) x
le-neg-l x y = ap (le (neg x)) (sym (neg-neg y)) ∙ le-neg x (neg y)

-- ---- the size of a product and of a quotient is that of the sizes
round-bare : (f : Format) (s : Bool) (a c : ℕ) → bare (round f s a c) ≡ round f false a c
round-bare f false a c = sym (same-bare (round f false a c) (round-sign f false a c))
round-bare f true a c = ap bare (round-neg f a c) ∙ bare-neg (round f false a c) ∙ sym (same-bare (round f false a c) (round-sign f false a c))

bare-cond : (b s : Bool) → bare (cond b nan (inf s)) ≡ cond b nan (inf false)
bare-cond true s = refl
bare-cond false s = refl

pub bare-mul : (f : Format) (x y : Float) → bare (mul f x y) ≡ mul f (bare x) (bare y)
unfolding mul
bare-mul f nan y = refl
bare-mul f (inf s) nan = refl
bare-mul f (inf s) (inf t) = refl
bare-mul f (inf s) (fin t n d) = bare-cond (eqb n 0) (unlike s t)
bare-mul f (fin s m e) nan = refl
bare-mul f (fin s m e) (inf t) = bare-cond (eqb m 0) (unlike s t)
bare-mul f (fin s m e) (fin t n d) = round-bare f (unlike s t) (m * up e * (n * up d)) (down e * down d)

bare-quotient : (a b s : Bool) (u v : Float) → bare u ≡ v → bare (cond a (cond b nan (inf s)) u) ≡ cond a (cond b nan (inf false)) v
bare-quotient true b s u v e = bare-cond b s
bare-quotient false b s u v e = e

pub bare-div : (f : Format) (x y : Float) → bare (div f x y) ≡ div f (bare x) (bare y)
unfolding div
bare-div f nan y = refl
bare-div f (inf s) nan = refl
bare-div f (inf s) (inf t) = refl
bare-div f (inf s) (fin t n d) = refl
bare-div f (fin s m e) nan = refl
bare-div f (fin s m e) (inf t) = refl
bare-div f (fin s m e) (fin t n d) =
    bare-quotient (eqb n 0) (eqb m 0) (unlike s t) (round f (unlike s t) (m * up e * down d) (n * up d * down e)) (round f false (m * up e * down d) (n * up d * down e))
    (round-bare f (unlike s t) (m * up e * down d) (n * up d * down e))
