-- An answer of n orders has no more zeros than orders, a pair of cells for each order, and +0 in the cells of the entries before the count; a refusal is 6 or 7.
-- Assumes nothing.
use mathlib.Core.Path.{◌≡◌, refl, sym, ap, ◌∙◌}
use mathlib.Core.Bool.{Bool}
use mathlib.Core.List.{List, ◌++◌}
use mathlib.Core.Logic.{◌⊎◌, inl, inr}
use Prim.Native.Nat.{ℕ, zero, suc, ◌+◌, ◌-◌, ◌*◌, ◌≤◌}
use native.Mathlib.Omega.{arith}
use Rattle.std.specs.Prelude.{Result, Ok, Err}
use lib.ListN.{length, take, replicate, length-append, length-replicate}
use lib.Seq.{take-append_seam}
use lib.Ieee.{Float, binary64, of_bits}
use Rattle.laws.specs.Operators.{◌⊖◌}
use Rattle.machine.specs.Small.{one}
use Rattle.complex.specs.declared.number.Complex.{Complex}
use Rattle.refusal.specs.declared.refusal.Refusal.{Refusal}
use Rattle.refusal.specs.declared.refusal.Refusal.TheVariants as refusals
use Rattle.recurrence.specs.declared.state.Climb.{Climb}
use Rattle.recurrence.proofs.FillFacts.{fill-length}
use Rattle.right_half_plane.specs.declared.ground.Ground.{Ground}
use Rattle.right_half_plane.specs.declared.seeds.Seeds.{Seeds}
use Rattle.right_half_plane.specs.declared.seeds.Seeds.TheVariants as seeds
use Rattle.right_half_plane.specs.declared.seeds.Seeded.{Seeded}
use Rattle.right_half_plane.specs.declared.reach.Reached.{Reached}
use Rattle.right_half_plane.specs.declared.reach.Reached.TheVariants as reached
use Rattle.right_half_plane.specs.declared.lead.Lead.{Lead}
use Rattle.right_half_plane.specs.declared.kernel.Counts.{Counts}
use Rattle.right_half_plane.specs.Ground.{ground_of}
use Rattle.right_half_plane.specs.Seeds.{seed_of}
use Rattle.right_half_plane.specs.Lead.{on_scale_lead}
use Rattle.right_half_plane.specs.Kernel.{rest_of, lead_cells, lead_kernel, refused_kernel, reached_kernel, pair_kernel, finished_kernel, seeds_kernel, seeded_kernel, kernel_of}
use Rattle.right_half_plane.proofs.Counts.{Arrives, reach-arrives}
use Rattle.right_half_plane.proofs.LeadFacts.{lead-zeros}
use Rattle.right_half_plane.proofs.SeedFacts.{Kind, Stages, seeding}
use Rattle.right_half_plane.proofs.Answers.{alone-is}

abbrev pub Delivers : ℕ → Result Counts Refusal → List Float → Type 0
Delivers n (Ok counts) cells = (counts.zeros ≤ n) × (length cells ≡ n * 2) × (take (counts.zeros * 2) cells ≡ replicate (counts.zeros * 2) (of_bits binary64 0))
Delivers n (Err refusal) cells = (refusal ≡ refusals.Start) ⊎ (refusal ≡ refusals.Climb)

rest-length : (g : Ground) (lead : Lead) (k : ℕ) → length (rest_of g lead k).cells ≡ k * 2
unfolding rest_of
rest-length g lead zero = refl
rest-length g lead (suc zero) = refl
rest-length g lead (suc (suc k)) = let e = fill-length g.two_over_z (g.order ⊖ one) (lead.zeros + 2) k lead.climb in omega arith

cells-length : (g : Ground) (lead : Lead) → lead.zeros ≤ g.count → length (lead_cells g lead) ≡ g.count * 2
unfolding lead_cells
cells-length g lead h =
    length-append (replicate (lead.zeros * 2) (of_bits binary64 0)) (rest_of g lead (g.count - lead.zeros)).cells
    ∙ both g.count lead.zeros _ _ h (length-replicate (lead.zeros * 2) (of_bits binary64 0)) (rest-length g lead (g.count - lead.zeros))
  where
    both : (n z a b : ℕ) → z ≤ n → a ≡ z * 2 → b ≡ (n - z) * 2 → a + b ≡ n * 2
    both n z a b h e f = omega arith

cells-front : (g : Ground) (lead : Lead) → take (lead.zeros * 2) (lead_cells g lead) ≡ replicate (lead.zeros * 2) (of_bits binary64 0)
unfolding lead_cells
cells-front g lead =
    let zeros = replicate (lead.zeros * 2) (of_bits binary64 0) in
    let rest = (rest_of g lead (g.count - lead.zeros)).cells in
    ap (λ (k : ℕ). take k (zeros ++ rest)) (sym (length-replicate (lead.zeros * 2) (of_bits binary64 0))) ∙ take-append_seam zeros rest

module _ (g : Ground) (s : Seeded) where
  lead-delivers : (lead : Lead) → lead.zeros ≤ g.count → Delivers g.count (lead_kernel g s lead).ending (lead_kernel g s lead).cells
  unfolding lead_kernel
  lead-delivers lead h = (h, cells-length g lead h, cells-front g lead)

  none : (c : Climb) → (on_scale_lead c).zeros ≤ g.count
  unfolding on_scale_lead
  none c = omega arith

  reached-delivers : (r : Result Reached Refusal) → Arrives g r → Delivers g.count (reached_kernel g s r).ending (reached_kernel g s r).cells
  unfolding reached_kernel refused_kernel
  reached-delivers (Ok (reached.OnScale c)) e = lead-delivers _ (none c)
  reached-delivers (Ok (reached.Marked c)) e = lead-delivers _ (lead-zeros g c)
  reached-delivers (Err refusal) e = inr e

  seeds-delivers : (v : Seeds) → Kind g v → Delivers g.count (seeds_kernel g s v).ending (seeds_kernel g s v).cells
  unfolding seeds_kernel finished_kernel pair_kernel
  seeds-delivers (seeds.Finished value) e = (few g.count, pair g.count (alone-is g e).1, refl)
    where
      few : (n : ℕ) → 0 ≤ n
      few n = omega arith

      pair : (n : ℕ) → n ≡ 1 → 2 ≡ n * 2
      pair n e = omega arith
  seeds-delivers (seeds.Pair first second) e = reached-delivers _ (reach-arrives g s.underflow (record { older = first; newer = second; state = s.state; rungs = 0 }) refl)

seeded-delivers : (g : Ground) (r : Result Seeded Refusal) → Stages g r → Delivers g.count (seeded_kernel g r).ending (seeded_kernel g r).cells
unfolding seeded_kernel refused_kernel
seeded-delivers g (Ok s) e = seeds-delivers g s s.seeds e.kind
seeded-delivers g (Err refusal) e = inl e

pub kernel-delivers : (scaled : Bool) (order : Float) (z : Complex) (modulus : Float) (n : ℕ) → let k = kernel_of scaled order z modulus n in Delivers n k.ending k.cells
unfolding kernel_of ground_of
kernel-delivers scaled order z modulus n =
    let g = ground_of order z modulus n in
    seeded-delivers g (seed_of g scaled) (seeding g scaled)
