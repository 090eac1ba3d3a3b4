-- The zeros before the first entries, and the rungs climbed until then: what first orders on scale adds. Assumes nothing.
use mathlib.Core.Path.{◌≡◌, ap, ◌∙◌}
use mathlib.Core.Logic.{inl, inr}
use Prim.Native.Nat.{ℕ, zero, suc, ◌+◌, ◌-◌, ◌≤◌}
use native.Mathlib.Omega.{arith}
use lib.Ieee.{Float}
use Rattle.complex.specs.declared.number.Complex.{Complex}
use Rattle.laws.specs.Operators.{◌⊖◌}
use Rattle.machine.specs.Small.{one}
use Rattle.recurrence.specs.First.{first_orders}
use Rattle.recurrence.specs.declared.first.FirstOrders.{FirstOrders}
use Rattle.recurrence.specs.declared.state.Climb.{Climb}
use Rattle.recurrence.proofs.ClimbFacts.{rungs-climbed}
use Rattle.recurrence.proofs.FillFacts.{fill-climb}
use Rattle.recurrence.proofs.FirstFacts as first
use Rattle.right_half_plane.specs.declared.ground.Ground.{Ground}
use Rattle.right_half_plane.specs.declared.lead.Lead.{Lead}
use Rattle.right_half_plane.specs.Ground.{Sized}
use Rattle.right_half_plane.specs.Lead.{on_scale_lead, first_lead}
use Rattle.right_half_plane.specs.Kernel.{LeadFits, rest_of}

few-rungs : (n : ℕ) (r : FirstOrders) → first.Counted n r → n ≤ 512 → r.rungs ≤ 512
few-rungs n r (inl w) h = omega (arith, w.0, w.1)
few-rungs n r (inr w) h = omega (arith, w.0, w.1, w.2)

few-zeros : (n : ℕ) (r : FirstOrders) → first.Counted n r → r.zeros ≤ n
few-zeros n r (inl w) = omega (arith, w.0, w.1)
few-zeros n r (inr w) = omega (arith, w.0, w.1, w.2)

pub first-few : (z : Complex) (order : Float) (n : ℕ) (a b two_over_z : Complex) → n ≤ 512 → (first_orders z order n a b two_over_z).rungs ≤ 512
first-few z order n a b two_over_z h = few-rungs n (first_orders z order n a b two_over_z) (first.first_counted z order n a b two_over_z) h

pub lead-zeros : (g : Ground) (c : Climb) → (first_lead g c).zeros ≤ g.count
unfolding first_lead
lead-zeros g c = few-zeros g.count (first_orders g.z g.order g.count c.older c.newer g.two_over_z) (first.first_counted g.z g.order g.count c.older c.newer g.two_over_z)

pub on-scale-fits : (g : Ground) (c : Climb) → Sized g → c.rungs ≤ 1000 → LeadFits g (on_scale_lead c)
unfolding on_scale_lead
on-scale-fits g c s h = record { zeros = omega arith; few = s.few; rungs = omega arith }

pub first_fits : (g : Ground) (c : Climb) → Sized g → c.rungs ≤ 1000 → LeadFits g (first_lead g c)
unfolding first_lead
first_fits g c s h =
    let r = first_orders g.z g.order g.count c.older c.newer g.two_over_z in
    let k : r.rungs ≤ 512 = first-few g.z g.order g.count c.older c.newer g.two_over_z s.few in
    record {
      zeros = lead-zeros g c;
      few = s.few;
      rungs = omega arith;
    }

-- ---- with the fill behind them
rest-rungs : (g : Ground) (lead : Lead) (k : ℕ) → (rest_of g lead k).rungs ≡ lead.climb.rungs + (k - 2)
unfolding rest_of
rest-rungs g lead zero = none lead.climb.rungs
  where
    none : (a : ℕ) → a ≡ a + (0 - 2)
    none a = omega arith
rest-rungs g lead (suc zero) = none lead.climb.rungs
  where
    none : (a : ℕ) → a ≡ a + (1 - 2)
    none a = omega arith
rest-rungs g lead (suc (suc k)) =
    ap (λ (c : Climb). c.rungs) (fill-climb g.two_over_z (g.order ⊖ one) (lead.zeros + 2) k lead.climb)
    ∙ rungs-climbed g.two_over_z (g.order ⊖ one) (lead.zeros + 2) k lead.climb
    ∙ ap (λ (n : ℕ). lead.climb.rungs + n) (less k)
  where
    less : (k : ℕ) → k ≡ suc (suc k) - 2
    less k = omega arith

pub on-scale-rungs : (g : Ground) (c : Climb) → (rest_of g (on_scale_lead c) (g.count - (on_scale_lead c).zeros)).rungs ≡ c.rungs + (g.count - 2)
unfolding on_scale_lead
on-scale-rungs g c = rest-rungs g (on_scale_lead c) (g.count - (on_scale_lead c).zeros) ∙ ap (λ (k : ℕ). c.rungs + k) (all g.count)
  where
    all : (n : ℕ) → n - 0 - 2 ≡ n - 2
    all n = omega arith

pub first-rungs : (g : Ground) (c : Climb) → (rest_of g (first_lead g c) (g.count - (first_lead g c).zeros)).rungs ≡ c.rungs + (g.count - 2)
unfolding first_lead
first-rungs g c =
    let r = first_orders g.z g.order g.count c.older c.newer g.two_over_z in
    rest-rungs g (first_lead g c) (g.count - r.zeros)
    ∙ join c.rungs r.rungs g.count r.zeros (first.first-and-fill g.count r (first.first_counted g.z g.order g.count c.older c.newer g.two_over_z))
  where
    join : (a b n z : ℕ) → b + (n - (z + 2)) ≡ n - 2 → a + b + (n - z - 2) ≡ a + (n - 2)
    join a b n z e = omega arith
