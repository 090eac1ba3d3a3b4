-- What a K call answers: r + n - 2 rungs, at most 256 backward steps and 18 terms; and which refusals it can give. Assumes nothing.
use mathlib.Core.Path.{◌≡◌, refl, sym, ap, ◌∙◌, subst}
use mathlib.Core.Logic.{◌⊎◌, inl, inr}
use mathlib.Core.Bool.{Bool, true, false, ◌&&◌, cond}
use Prim.Native.Nat.{ℕ, ◌+◌, ◌-◌, ◌≤◌, ◌<◌}
use native.Mathlib.Omega.{arith}
use Rattle.std.specs.Prelude.{Result, Ok, Err}
use lib.Dec.{eqb}
use borrow.Author.Tests.{eqb-true, eqb-false}
use lib.Ieee.{Float}
use Rattle.complex.specs.declared.number.Complex.{Complex}
use Rattle.refusal.specs.declared.refusal.Refusal.{Refusal}
use Rattle.refusal.specs.declared.refusal.Refusal.TheVariants as refusals
use Rattle.right_half_plane.specs.declared.ground.Ground.{Ground}
use Rattle.right_half_plane.specs.declared.seeds.Seeds.{Seeds}
use Rattle.right_half_plane.specs.declared.seeds.Seeds.TheVariants as seeds
use Rattle.right_half_plane.specs.declared.seeds.Seeded.{Seeded}
use Rattle.right_half_plane.specs.declared.reach.Reached.{Reached}
use Rattle.right_half_plane.specs.declared.reach.Reached.TheVariants as reached
use Rattle.right_half_plane.specs.declared.kernel.Counts.{Counts}
use Rattle.right_half_plane.specs.Ground.{nearest_order, ground_of, is_alone}
use Rattle.right_half_plane.specs.Seeds.{seed_of, terms_of}
use Rattle.right_half_plane.specs.Reach.{steps_of}
use Rattle.right_half_plane.specs.Kernel.{lead_kernel, refused_kernel, reached_kernel, pair_kernel, finished_kernel, seeds_kernel, seeded_kernel, kernel_of}
use Rattle.right_half_plane.proofs.Counts.{Arrives, reach-arrives}
use Rattle.right_half_plane.proofs.LeadFacts.{on-scale-rungs, first-rungs}
use Rattle.right_half_plane.proofs.SeedFacts.{Kind, Stages, seeding, few-terms}

-- r + n - 2 rungs, which is none for r = 0 and n = 1; refusals 6 and 7 alone
abbrev pub Answers : ℕ → ℕ → Result Counts Refusal → Type 0
Answers rungs terms (Ok counts) = (counts.rungs ≡ rungs) × (counts.backward ≤ 256) × (counts.longest_sum ≡ terms)
Answers rungs terms (Err refusal) = (refusal ≡ refusals.Start) ⊎ (refusal ≡ refusals.Climb)

pub alone-is : (g : Ground) → is_alone g ≡ true → (g.nearest ≡ 0) × (g.count ≡ 1)
unfolding is_alone
alone-is g e = go (eqb g.nearest 0) (eqb g.count 1) refl refl e
  where
    go : (a b : Bool) → eqb g.nearest 0 ≡ a → eqb g.count 1 ≡ b → a && b ≡ true → (g.nearest ≡ 0) × (g.count ≡ 1)
    go true true p q h = (eqb-true g.nearest 0 p, eqb-true g.count 1 q)
    go true false p q h = let z : ◌≡◌ {A = ℕ} 0 1 = ap (λ (b : Bool). cond b 1 0) h in absurd (never z)
      where
        never : ◌≡◌ {A = ℕ} 0 1 → ⊥
        never z = omega arith
    go false b p q h = let z : ◌≡◌ {A = ℕ} 0 1 = ap (λ (b : Bool). cond b 1 0) h in absurd (never z)
      where
        never : ◌≡◌ {A = ℕ} 0 1 → ⊥
        never z = omega arith

pub finished-alone : (g : Ground) (scaled : Bool) (s : Seeded) (value : Complex) → seed_of g scaled ≡ Ok s → s.seeds ≡ seeds.Finished value → g.count ≡ 1
finished-alone g scaled s value e f = (alone-is g (subst (Kind g) f (subst (Stages g) e (seeding g scaled)).kind)).1

-- the definition, by what the code has worked out
pub kernel-as : (scaled : Bool) (order : Float) (z : Complex) (modulus : Float) (n : ℕ) {g : Ground} {s : Result Seeded Refusal} → g ≡ ground_of order z modulus n → s ≡ seed_of g scaled
    → kernel_of scaled order z modulus n ≡ seeded_kernel g s
unfolding kernel_of
kernel-as scaled order z modulus n {g} {s} p q = sym (ap (λ (h : Ground). seeded_kernel h (seed_of h scaled)) p) ∙ sym (ap (seeded_kernel g) q)

pub kernel-seeds : (scaled : Bool) (order : Float) (z : Complex) (modulus : Float) (n : ℕ) {g : Ground} {s : Seeded} {v : Seeds} → g ≡ ground_of order z modulus n → Ok s ≡ seed_of g scaled → s.seeds ≡ v
    → kernel_of scaled order z modulus n ≡ seeds_kernel g s v
unfolding seeded_kernel
kernel-seeds scaled order z modulus n {g} {s} p q e = kernel-as scaled order z modulus n p q ∙ ap (seeds_kernel g s) e

steps-and-fill : (g : Ground) → 0 < g.count → steps_of g + (g.count - 2) ≡ g.nearest + g.count - 2
unfolding steps_of
steps-and-fill g h = go (eqb g.count 1) refl
  where
    go : (b : Bool) → eqb g.count 1 ≡ b → cond b (g.nearest - 1) g.nearest + (g.count - 2) ≡ g.nearest + g.count - 2
    go true e = one g.nearest g.count (eqb-true g.count 1 e)
      where
        one : (r n : ℕ) → n ≡ 1 → r - 1 + (n - 2) ≡ r + n - 2
        one r n e = omega arith
    go false e = more g.nearest g.count h (eqb-false g.count 1 e)
      where
        more : (r n : ℕ) → 0 < n → (n ≡ 1 → ⊥) → r + (n - 2) ≡ r + n - 2
        more r n h e = omega arith

module _ (g : Ground) (s : Seeded) (some : 0 < g.count) (backward : s.backward ≤ 256) where
  reached-answers : (r : Result Reached Refusal) → Arrives g r → Answers (g.nearest + g.count - 2) s.terms (reached_kernel g s r).ending
  unfolding reached_kernel lead_kernel refused_kernel
  reached-answers (Ok (reached.OnScale c)) e = (on-scale-rungs g c ∙ ap (λ (k : ℕ). k + (g.count - 2)) e ∙ steps-and-fill g some, backward, refl)
  reached-answers (Ok (reached.Marked c)) e = (first-rungs g c ∙ ap (λ (k : ℕ). k + (g.count - 2)) e ∙ steps-and-fill g some, backward, refl)
  reached-answers (Err refusal) e = inr e

  seeds-answers : (v : Seeds) → Kind g v → Answers (g.nearest + g.count - 2) s.terms (seeds_kernel g s v).ending
  unfolding seeds_kernel finished_kernel pair_kernel
  seeds-answers (seeds.Finished value) e = let a = alone-is g e in (none g.nearest g.count a.0 a.1, backward, refl)
    where
      none : (r n : ℕ) → r ≡ 0 → n ≡ 1 → 0 ≡ r + n - 2
      none r n p q = omega arith
  seeds-answers (seeds.Pair first second) e = reached-answers _ (reach-arrives g s.underflow (record { older = first; newer = second; state = s.state; rungs = 0 }) refl)

seeded-answers : (g : Ground) (r : Result Seeded Refusal) → 0 < g.count → Stages g r → Answers (g.nearest + g.count - 2) (terms_of r) (seeded_kernel g r).ending
unfolding seeded_kernel refused_kernel terms_of
seeded-answers g (Ok s) h e = seeds-answers g s h e.backward s.seeds e.kind
seeded-answers g (Err refusal) h e = inl e

pub kernel-answers : (scaled : Bool) (order : Float) (z : Complex) (modulus : Float) (n : ℕ) → 0 < n
    → Answers (nearest_order order + n - 2) (terms_of (seed_of (ground_of order z modulus n) scaled)) (kernel_of scaled order z modulus n).ending
unfolding kernel_of ground_of
kernel-answers scaled order z modulus n h =
    let g = ground_of order z modulus n in
    seeded-answers g (seed_of g scaled) h (seeding g scaled)

-- Temme's sum has met its own test by the term 18
pub kernel-terms : (scaled : Bool) (order : Float) (z : Complex) (modulus : Float) (n : ℕ) → terms_of (seed_of (ground_of order z modulus n) scaled) ≤ 18
unfolding ground_of
kernel-terms scaled order z modulus n = few-terms (ground_of order z modulus n) scaled
