-- Which limit a call hits: 3 by its order, 11 by the sign of the real part, 12 by the size of the parts, looked at in this order. Assumes nothing.
use mathlib.Core.Path.{◌≡◌, refl, ap, ◌∙◌, subst}
use mathlib.Core.Bool.{Bool, true, false, not, ◌&&◌}
use mathlib.Core.List.{List, [], ◌∷◌, ◌++◌}
use Prim.Native.Nat.{ℕ}
use lib.Ieee.{Float}
use Rattle.refusal.specs.declared.refusal.Refusal.TheVariants.{Length, NotFinite, Order, Sign, Size}
use Rattle.call.specs.Limits.{length_inside, are_finite, order_inside, sign_inside, size_inside}
use Rattle.call.specs.Checks.{Check, check, none_applies, numbers_of, length_checks, finite_checks, limit_checks}
use Rattle.call.proofs.FirstFacts.{Exactly, is_one_of, Given, given-at}

-- of the number m that a call gets: each exactly when the length and the values are admitted, the limits before it are kept, and its own is not
pub record HitsLimit (length : ℕ) (v re im : Float) (m : ℕ) : Type 0 where
  pub order : Exactly (m ≡ 3) (length_inside length && (are_finite v re im && not (order_inside v)))
  pub sign : Exactly (m ≡ 11) (length_inside length && (are_finite v re im && (order_inside v && not (sign_inside re))))
  pub size : Exactly (m ≡ 12) (length_inside length && (are_finite v re im && (order_inside v && (sign_inside re && not (size_inside re im)))))

-- what is not refused is kept
kept : (a x b : Bool) → ((not (not a) && x) && b) ≡ (a && (x && b))
kept true x b = refl
kept false x b = refl

module _ (l f o s b : Bool) where
  behind : ((not (not l) && (not (not f) && true)) && b) ≡ (l && (f && b))
  behind = kept l (not (not f) && true) b ∙ ap (λ (t : Bool). l && t) (kept f true b)

  behind-order : ((not (not l) && (not (not f) && (not (not o) && true))) && b) ≡ (l && (f && (o && b)))
  behind-order =
      kept l (not (not f) && (not (not o) && true)) b
      ∙ ap (λ (t : Bool). l && t) (kept f (not (not o) && true) b ∙ ap (λ (t : Bool). f && t) (kept o true b))

  behind-sign : ((not (not l) && (not (not f) && (not (not o) && (not (not s) && true)))) && b) ≡ (l && (f && (o && (s && b))))
  behind-sign =
      kept l (not (not f) && (not (not o) && (not (not s) && true))) b
      ∙ ap (λ (t : Bool). l && t)
      (kept f (not (not o) && (not (not s) && true)) b ∙ ap (λ (t : Bool). f && t) (kept o (not (not s) && true) b ∙ ap (λ (t : Bool). o && t) (kept s true b)))

-- whatever checks come behind the limits, where these three numbers are none of theirs
pub hits-limit : (length : ℕ) (v re im : Float) (rest : List Check) (m : ℕ) → Given (length_checks length ++ (finite_checks v re im ++ (limit_checks v re im ++ rest))) m →
    is_one_of 3 (numbers_of rest) ≡ false → is_one_of 11 (numbers_of rest) ≡ false → is_one_of 12 (numbers_of rest) ≡ false → HitsLimit length v re im m
unfolding length_checks finite_checks limit_checks none_applies numbers_of
hits-limit length v re im rest m g p q r =
    let l = length_inside length in
    let f = are_finite v re im in
    let o = order_inside v in
    let s = sign_inside re in
    let z = size_inside re im in
    let lengths = check (not l) Length in
    let values = check (not f) NotFinite in
    let orders = check (not o) Order in
    let signs = check (not s) Sign in
    let sizes = check (not z) Size in
    record {
      order = subst (Exactly (m ≡ 3)) (behind l f o s (not o)) (given-at (lengths ∷ values ∷ []) orders (signs ∷ sizes ∷ rest) m g refl p);
      sign = subst (Exactly (m ≡ 11)) (behind-order l f o s (not s)) (given-at (lengths ∷ values ∷ orders ∷ []) signs (sizes ∷ rest) m g refl q);
      size = subst (Exactly (m ≡ 12)) (behind-sign l f o s (not z)) (given-at (lengths ∷ values ∷ orders ∷ signs ∷ []) sizes rest m g refl r);
    }
