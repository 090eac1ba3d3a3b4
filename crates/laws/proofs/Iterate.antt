-- n-fold iteration: one step more at either end, a sum of counts, and what each step keeps. Assumes nothing.
use mathlib.Core.Path.{◌≡◌, refl, ap, ◌∙◌}
use Prim.Native.Nat.{ℕ, zero, suc, ◌+◌}
use native.Mathlib.Nat.{suc-add, zero-add}
use native.Mathlib.Numerals.{add-one}
use Rattle.laws.specs.Iterate.{iterate}

module _ {A : Type 0} where
  pub iterate-zero : (f : A → A) (x : A) → iterate 0 f x ≡ x
  unfolding iterate
  iterate-zero f x = refl

  pub iterate-suc : (n : ℕ) (f : A → A) (x : A) → iterate (suc n) f x ≡ f (iterate n f x)
  unfolding iterate
  iterate-suc n f x = refl

  -- as the code writes the count
  pub iterate-next : (n : ℕ) (f : A → A) (x : A) → iterate (n + 1) f x ≡ f (iterate n f x)
  iterate-next n f x = ap (λ (k : ℕ). iterate k f x) (add-one n) ∙ iterate-suc n f x

  pub iterate-shift : (n : ℕ) (f : A → A) (x : A) → f (iterate n f x) ≡ iterate n f (f x)
  unfolding iterate
  iterate-shift zero f x = refl
  iterate-shift (suc n) f x = ap f (iterate-shift n f x)

  pub iterate-add : (m n : ℕ) (f : A → A) (x : A) → iterate (m + n) f x ≡ iterate m f (iterate n f x)
  unfolding iterate
  iterate-add zero n f x = ap (λ (k : ℕ). iterate k f x) (zero-add n)
  iterate-add (suc m) n f x = ap (λ (k : ℕ). iterate k f x) (suc-add m n) ∙ ap f (iterate-add m n f x)

  -- what holds at the start and is kept by each step
  pub iterate-keeps : (P : A → Type 0) (n : ℕ) (f : A → A) (x : A) → P x → ((y : A) → P y → P (f y)) → P (iterate n f x)
  unfolding iterate
  iterate-keeps P zero f x p k = p
  iterate-keeps P (suc n) f x p k = k (iterate n f x) (iterate-keeps P n f x p k)

  -- two steps that agree
  pub iterate-same : (n : ℕ) (f g : A → A) (x : A) → ((y : A) → f y ≡ g y) → iterate n f x ≡ iterate n g x
  unfolding iterate
  iterate-same zero f g x h = refl
  iterate-same (suc n) f g x h = h (iterate n f x) ∙ ap g (iterate-same n f g x h)

-- a map that turns the steps of one into those of the other
pub iterate-map : {A B : Type 0} (n : ℕ) (f : A → A) (g : B → B) (h : A → B) (x : A) → ((y : A) → h (f y) ≡ g (h y)) → h (iterate n f x) ≡ iterate n g (h x)
unfolding iterate
iterate-map zero f g h x k = refl
iterate-map (suc n) f g h x k = k (iterate n f x) ∙ ap g (iterate-map n f g h x k)
