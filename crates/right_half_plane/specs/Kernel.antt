-- K for n consecutive orders: what is returned, and what the 2 n cells hold. ZBKNU; `k_right_half_plane` of src/amos/right_half_plane.rs.
-- Definitions only.
use Rattle.std.specs.Prelude.{ℕ, zero, suc, ◌+◌, ◌-◌, ◌*◌, ◌≤◌, Bool, List, [], ◌∷◌, ◌++◌, replicate, Result, Ok, Err, Float}
use Rattle.laws.specs.Operators.{◌⊖◌}
use Rattle.machine.specs.Small.{nothing, one}
use Rattle.complex.specs.declared.number.Complex.{Complex}
use Rattle.refusal.specs.declared.refusal.Refusal.{Refusal}
use Rattle.recurrence.specs.Fill.{fill_from}
use Rattle.right_half_plane.specs.declared.ground.Ground.{Ground}
use Rattle.right_half_plane.specs.declared.seeds.Seeds.{Seeds}
use Rattle.right_half_plane.specs.declared.seeds.Seeds.TheVariants as seeds
use Rattle.right_half_plane.specs.declared.seeds.Seeded.{Seeded}
use Rattle.right_half_plane.specs.declared.reach.Reached.{Reached}
use Rattle.right_half_plane.specs.declared.reach.Reached.TheVariants as reached
use Rattle.right_half_plane.specs.declared.lead.Lead.{Lead}
use Rattle.right_half_plane.specs.declared.kernel.Counts.{Counts}
use Rattle.right_half_plane.specs.Ground.{ground_of}
use Rattle.right_half_plane.specs.Seeds.{seed_of}
use Rattle.right_half_plane.specs.Reach.{reach_of}
use Rattle.right_half_plane.specs.Lead.{on_scale_lead, first_lead}

-- the zeros fit the orders, and the rungs so far are few
pub record LeadFits (g : Ground) (lead : Lead) : Type 0 where
  pub zeros : lead.zeros ≤ g.count
  pub few : g.count ≤ 512
  pub rungs : lead.climb.rungs ≤ 2000

-- ---- k orders after the zeros: the first two entries, and the climb that fills from there (DO 260). The order at the index i of the buffer is that of v,
-- less 1, plus i
pub record Rest : Type 0 where
  pub rungs : ℕ
  pub cells : List Float

unfoldable pub rest_of : Ground → Lead → ℕ → Rest
rest_of g lead zero = record { rungs = lead.climb.rungs; cells = [] }
rest_of g lead (suc zero) = record { rungs = lead.climb.rungs; cells = lead.first.re ∷ lead.first.im ∷ [] }
rest_of g lead (suc (suc k)) =
    let f = fill_from g.two_over_z (g.order ⊖ one) (lead.zeros + 2) k lead.climb in
    record { rungs = f.climb.rungs; cells = lead.first.re ∷ lead.first.im ∷ lead.second.re ∷ lead.second.im ∷ f.cells }

-- entries before the count are +0
unfoldable pub lead_cells : Ground → Lead → List Float
lead_cells g lead = replicate (lead.zeros * 2) nothing ++ (rest_of g lead (g.count - lead.zeros)).cells

-- ---- how it ends, and the cells of an answer
pub record Kernel : Type 0 where
  pub ending : Result Counts Refusal
  pub cells : List Float

unfoldable pub lead_kernel : Ground → Seeded → Lead → Kernel
lead_kernel g s lead = record {
  ending =
      Ok
      (record {
        zeros = lead.zeros;
        longest_sum = s.terms;
        rungs = (rest_of g lead (g.count - lead.zeros)).rungs;
        backward = s.backward;
      });
  cells = lead_cells g lead;
}

unfoldable pub refused_kernel : Refusal → Kernel
refused_kernel refusal = record { ending = Err refusal; cells = [] }

unfoldable pub reached_kernel : Ground → Seeded → Result Reached Refusal → Kernel
reached_kernel g s (Ok (reached.OnScale c)) = lead_kernel g s (on_scale_lead c)
reached_kernel g s (Ok (reached.Marked c)) = lead_kernel g s (first_lead g c)
reached_kernel g s (Err refusal) = refused_kernel refusal

unfoldable pub pair_kernel : Ground → Seeded → Complex → Complex → Kernel
pair_kernel g s first second =
    reached_kernel g s (reach_of g s.underflow (record { older = first; newer = second; state = s.state; rungs = 0 }))

unfoldable pub finished_kernel : Seeded → Complex → Kernel
finished_kernel s value = record {
  ending = Ok (record { zeros = 0; longest_sum = s.terms; rungs = 0; backward = s.backward });
  cells = value.re ∷ value.im ∷ [];
}

unfoldable pub seeds_kernel : Ground → Seeded → Seeds → Kernel
seeds_kernel g s (seeds.Finished value) = finished_kernel s value
seeds_kernel g s (seeds.Pair first second) = pair_kernel g s first second

unfoldable pub seeded_kernel : Ground → Result Seeded Refusal → Kernel
seeded_kernel g (Ok s) = seeds_kernel g s s.seeds
seeded_kernel g (Err refusal) = refused_kernel refusal

-- from the order v, the argument z, and its modulus
unfoldable pub kernel_of : Bool → Float → Complex → Float → ℕ → Kernel
kernel_of scaled order z modulus count =
    let g = ground_of order z modulus count in
    seeded_kernel g (seed_of g scaled)

-- what a buffer holds afterwards: the cells of an answer; a refusal leaves it as it was
unfoldable pub after_if : Result Counts Refusal → List Float → List Float → List Float
after_if (Ok counts) cells held = cells
after_if (Err refusal) cells held = held

unfoldable pub afterwards : Kernel → List Float → List Float
afterwards k held = after_if k.ending k.cells held
