-- Cells off the scale: list behind list, as many as before, a value's pair is its entry. One cell more of the products. Assumes nothing.
use mathlib.Core.Path.{◌≡◌, refl, sym, ap, ◌∙◌}
use mathlib.Core.List.{List, [], ◌∷◌, ◌++◌, map, map-append}
use Prim.Native.Nat.{ℕ, ◌+◌, ◌<◌}
use native.Mathlib.Numerals.{add-one}
use lib.Dec.{T}
use lib.ListN.{length, take, get_or, length-map}
use lib.Seq.{take-suc}
use lib.Ieee.{Float, binary64, fits, mul}
use lib.Ieee.Fits.{add-fits}
use Rattle.laws.proofs.Seam.{Seam, seam-start}
use Rattle.laws.proofs.Unit.{mul-one-float}
use Rattle.complex.specs.declared.number.Complex.{Complex}
use Rattle.complex.specs.Arithmetic.{plus_of, times_real}
use Rattle.recurrence.specs.State.{reciprocal_of}
use Rattle.recurrence.specs.Rung.{next_of}
use Rattle.recurrence.specs.shapes.Stretch.{products_of, off_scale}
use Rattle.recurrence.specs.declared.state.OverflowState.{OverflowState}
use Rattle.recurrence.specs.declared.state.OverflowState.TheVariants.{NearUnder, None, NearOver}

-- what is done to a list is done to its parts
pub record Spreads (off : List Float → List Float) : Type 0 where
  pub none : off [] ≡ []
  pub both : (a b : List Float) → off (a ++ b) ≡ off a ++ off b

pub same-spreads : Spreads (λ (l : List Float). l)
same-spreads = record { none = refl; both = λ a b. refl }

products-spread : (by : Float) → Spreads (products_of by)
unfolding products_of
products-spread by = record { none = refl; both = λ a b. map-append (λ (x : Float). mul binary64 x by) a b }

pub scale-spreads : (s : OverflowState) → Spreads (off_scale s)
unfolding off_scale
scale-spreads NearUnder = products-spread (reciprocal_of NearUnder)
scale-spreads None = same-spreads
scale-spreads NearOver = products-spread (reciprocal_of NearOver)

pub products-length : (by : Float) (l : List Float) → length (products_of by l) ≡ length l
unfolding products_of
products-length by l = length-map l (λ (x : Float). mul binary64 x by)

pub scale-length : (s : OverflowState) (l : List Float) → length (off_scale s l) ≡ length l
unfolding off_scale
scale-length NearUnder l = products-length (reciprocal_of NearUnder) l
scale-length None l = refl
scale-length NearOver l = products-length (reciprocal_of NearOver) l

-- the products of no cell, and of one cell more
pub products-none : (by : Float) (d : List Float) → Seam d (products_of by (take 0 d)) 0 d
unfolding products_of
products-none by d = seam-start d

pub products-next : (by : Float) (d : List Float) (n : ℕ) (z : Float) → n < length d → products_of by (take n d) ++ (mul binary64 (get_or d n z) by ∷ []) ≡ products_of by (take (n + 1) d)
unfolding products_of
products-next by d n z h =
    sym (map-append (λ (x : Float). mul binary64 x by) (take n d) (get_or d n z ∷ [])) ∙ ap (map (λ (x : Float). mul binary64 x by)) (sym (ap (λ (k : ℕ). take k d) (add-one n) ∙ take-suc d n z h))

pair : (s : OverflowState) (w : Complex) → T (fits binary64 w.re) → T (fits binary64 w.im) → off_scale s (w.re ∷ w.im ∷ []) ≡ (times_real w (reciprocal_of s)).re ∷ (times_real w (reciprocal_of s)).im ∷ []
unfolding off_scale products_of times_real reciprocal_of
pair NearUnder w p q = refl
pair None w p q =
    sym (ap (λ (x : Float). x ∷ mul binary64 w.im (reciprocal_of None) ∷ []) (mul-one-float w.re p) ∙ ap (λ (x : Float). w.re ∷ x ∷ []) (mul-one-float w.im q))
pair NearOver w p q = refl

-- a value is a sum, hence an f64, and its product by 1 is itself
pub scale-pair : (s : OverflowState) (f older newer w : Complex) → w ≡ next_of f older newer
    → off_scale s (w.re ∷ w.im ∷ []) ≡ (times_real w (reciprocal_of s)).re ∷ (times_real w (reciprocal_of s)).im ∷ []
unfolding next_of plus_of
scale-pair s f older newer w e =
    ap (λ (v : Complex). off_scale s (v.re ∷ v.im ∷ [])) e
    ∙ pair s (next_of f older newer) (add-fits binary64 _ _) (add-fits binary64 _ _)
    ∙ sym (ap (λ (v : Complex). (times_real v (reciprocal_of s)).re ∷ (times_real v (reciprocal_of s)).im ∷ []) e)
