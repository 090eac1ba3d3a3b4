-- A product that begins with a zero: it stays a zero, or is no number, and is finite exactly when each of its factors is. Eight of them, each with one
-- factor more, joined as one product. Assumes nothing.
use mathlib.Core.Path.{◌≡◌, refl, sym, ap, ◌∙◌}
use mathlib.Core.Bool.{Bool, true, false, ◌&&◌}
use mathlib.Core.Logic.{◌⊎◌, inl, inr}
use Prim.Native.Nat.{ℕ, ◌*◌}
use native.Mathlib.Nat.{zero-mul, mul-pos, zero-lt-suc}
use lib.Ieee.{Float, nan, inf, fin, binary64, of_bits, up, down, unlike, round, mul, eq}
use lib.Ieee.Fits.{down_pos}
use lib.Ieee.Scale.{finite}
use Rattle.laws.specs.Operators.{◌⊗◌}
use Rattle.laws.proofs.Order.{round-zero}
use Rattle.laws.proofs.Zero.{zero_of}
use Rattle.cells.specs.shapes.Nought.{Nought}

-- a zero times a value that is not finite, and one that is
times : (s : Bool) (x : Float) → ((zero_of s ⊗ x ≡ nan) × (finite x ≡ false)) ⊎ (((t : Bool) × (zero_of s ⊗ x ≡ zero_of t)) × (finite x ≡ true))
unfolding mul
times s nan = inl (refl, refl)
times s (inf t) = inl (refl, refl)
times s (fin t n d) =
    inr ((unlike s t, ap (λ (k : ℕ). round binary64 (unlike s t) k (1 * down d)) (zero-mul (n * up d)) ∙ round-zero binary64 (unlike s t) (1 * down d) (mul-pos (zero-lt-suc 0) (down_pos d))), refl)

nan-times : (x : Float) → nan ⊗ x ≡ nan
unfolding mul
nan-times x = refl

pub nought-times : (a x : Float) → Nought a → Nought (a ⊗ x)
nought-times a x (inl e) = inl (ap (λ (b : Float). b ⊗ x) e ∙ nan-times x)
nought-times a x (inr z) = go (times z.0 x)
  where
    go : ((zero_of z.0 ⊗ x ≡ nan) × (finite x ≡ false)) ⊎ (((t : Bool) × (zero_of z.0 ⊗ x ≡ zero_of t)) × (finite x ≡ true)) → Nought (a ⊗ x)
    go (inl w) = inl (ap (λ (b : Float). b ⊗ x) z.1 ∙ w.0)
    go (inr w) = inr (w.0.0, ap (λ (b : Float). b ⊗ x) z.1 ∙ w.0.1)

pub times-finite : (a x : Float) → Nought a → finite (a ⊗ x) ≡ (finite a && finite x)
times-finite a x (inl e) = ap (λ (b : Float). finite (b ⊗ x)) e ∙ ap finite (nan-times x) ∙ sym (ap (λ (b : Float). finite b && finite x) e)
times-finite a x (inr z) = go (times z.0 x)
  where
    go : ((zero_of z.0 ⊗ x ≡ nan) × (finite x ≡ false)) ⊎ (((t : Bool) × (zero_of z.0 ⊗ x ≡ zero_of t)) × (finite x ≡ true)) → finite (a ⊗ x) ≡ (finite a && finite x)
    go (inl w) = ap (λ (b : Float). finite (b ⊗ x)) z.1 ∙ ap finite w.0 ∙ sym (ap (λ (b : Float). finite b && finite x) z.1 ∙ w.1)
    go (inr w) = ap (λ (b : Float). finite (b ⊗ x)) z.1 ∙ ap finite w.0.1 ∙ sym (ap (λ (b : Float). finite b && finite x) z.1 ∙ w.1)

zero-equal : (s : Bool) → eq (zero_of s) (of_bits binary64 0) ≡ true
unfolding of_bits eq
zero-equal true = refl
zero-equal false = refl

nan-equal : eq nan (of_bits binary64 0) ≡ false
unfolding of_bits eq
nan-equal = refl

pub equals-zero : (x : Float) → Nought x → eq x (of_bits binary64 0) ≡ finite x
equals-zero x (inl e) = ap (λ (b : Float). eq b (of_bits binary64 0)) e ∙ nan-equal ∙ sym (ap finite e)
equals-zero x (inr z) = ap (λ (b : Float). eq b (of_bits binary64 0)) z.1 ∙ zero-equal z.0 ∙ sym (ap finite z.1)

-- ---- conjunctions
pub and-of : (p q r : Bool) → (p && (q && r)) ≡ ((p && q) && r)
and-of true q r = refl
and-of false q r = refl

swap : (p q r s : Bool) → ((p && q) && (r && s)) ≡ ((p && r) && (q && s))
swap false q r s = refl
swap true true r s = refl
swap true false true s = refl
swap true false false s = refl

-- four of each kind, and four in a row
four : (p q r s p' q' r' s' : Bool) → (((p && p') && (q && q')) && ((r && r') && (s && s'))) ≡ (((p && q) && (r && s)) && ((p' && q') && (r' && s')))
four p q r s p' q' r' s' = rw (swap p p' q q', swap r r' s s') (swap (p && q) (p' && q') (r && s) (r' && s'))

row : (p q r s t : Bool) → (p && (q && (r && (s && t)))) ≡ (((p && r) && (q && s)) && t)
row p q r s t =
    and-of p q (r && (s && t))
    ∙ ap (λ (b : Bool). (p && q) && b) (and-of r s t)
    ∙ and-of (p && q) (r && s) t
    ∙ ap (λ (b : Bool). b && t) (swap p q r s)

-- ---- eight of them, joined
module _ (a b c d e f g h : Float) where
  abbrev pub joined : Float
  joined = ((a ⊗ c) ⊗ (e ⊗ g)) ⊗ ((b ⊗ d) ⊗ (f ⊗ h))

  -- the eight truths of their factors, joined likewise
  abbrev pub together : Bool
  together = ((finite a && finite c) && (finite e && finite g)) && ((finite b && finite d) && (finite f && finite h))

  pub row-of-eight : (t : Bool) → (finite a && (finite b && (finite c && (finite d && (finite e && (finite f && (finite g && (finite h && t)))))))) ≡ (together && t)
  row-of-eight t =
      row (finite a) (finite b) (finite c) (finite d) (finite e && (finite f && (finite g && (finite h && t))))
      ∙ ap (λ (u : Bool). ((finite a && finite c) && (finite b && finite d)) && u) (row (finite e) (finite f) (finite g) (finite h) t)
      ∙ and-of ((finite a && finite c) && (finite b && finite d)) ((finite e && finite g) && (finite f && finite h)) t
      ∙ ap (λ (u : Bool). u && t) (swap (finite a && finite c) (finite b && finite d) (finite e && finite g) (finite f && finite h))

  -- each of them a zero or no number
  abbrev pub Noughts : Type 0
  Noughts = Nought a × Nought b × Nought c × Nought d × Nought e × Nought f × Nought g × Nought h

  pub joined-nought : Noughts → Nought joined
  joined-nought n = nought-times _ _ (nought-times _ _ (nought-times a c n.0))

  pub joined-finite : Noughts → finite joined ≡ together
  joined-finite n =
      times-finite ((a ⊗ c) ⊗ (e ⊗ g)) ((b ⊗ d) ⊗ (f ⊗ h)) (nought-times _ _ (nought-times a c n.0))
      ∙ rw (
        times-finite (a ⊗ c) (e ⊗ g) (nought-times a c n.0),
        times-finite (b ⊗ d) (f ⊗ h) (nought-times b d n.1),
        times-finite a c n.0,
        times-finite e g n.4,
        times-finite b d n.1,
        times-finite f h n.5,
      ) refl

-- as they begin
abbrev zero : Float
zero = of_bits binary64 0

zero-nought : Nought zero
unfolding of_bits
zero-nought = inr (false, refl)

pub zeros-nought : Noughts zero zero zero zero zero zero zero zero
zeros-nought = (zero-nought, zero-nought, zero-nought, zero-nought, zero-nought, zero-nought, zero-nought, zero-nought)

pub zeros-together : (t : Bool) → t ≡ (together zero zero zero zero zero zero zero zero && t)
unfolding of_bits
zeros-together t = refl

-- with one factor more each
module _ (a b c d e f g h r s t u v w x y : Float) (n : Noughts a b c d e f g h) where
  pub noughts-on : Noughts (a ⊗ r) (b ⊗ s) (c ⊗ t) (d ⊗ u) (e ⊗ v) (f ⊗ w) (g ⊗ x) (h ⊗ y)
  noughts-on = (
    nought-times a r n.0,
    nought-times b s n.1,
    nought-times c t n.2,
    nought-times d u n.3,
    nought-times e v n.4,
    nought-times f w n.5,
    nought-times g x n.6,
    nought-times h y n.7,
  )

  pub together-on : together (a ⊗ r) (b ⊗ s) (c ⊗ t) (d ⊗ u) (e ⊗ v) (f ⊗ w) (g ⊗ x) (h ⊗ y) ≡ (together a b c d e f g h && together r s t u v w x y)
  together-on =
      rw (
        times-finite a r n.0,
        times-finite b s n.1,
        times-finite c t n.2,
        times-finite d u n.3,
        times-finite e v n.4,
        times-finite f w n.5,
        times-finite g x n.6,
        times-finite h y n.7,
        four (finite a) (finite c) (finite e) (finite g) (finite r) (finite t) (finite v) (finite x),
        four (finite b) (finite d) (finite f) (finite h) (finite s) (finite u) (finite w) (finite y),
      )
      (swap ((finite a && finite c) && (finite e && finite g)) ((finite r && finite t) && (finite v && finite x)) ((finite b && finite d) && (finite f && finite h)) ((finite s && finite u) && (finite w && finite y)))
