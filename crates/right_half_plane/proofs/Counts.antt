-- The climb out of underflow resumes at the offset behind its rungs; to the first order wanted there are r rungs, or r - 1. Assumes nothing.
use mathlib.Core.Path.{◌≡◌, refl, sym, ◌∙◌, subst}
use mathlib.Core.Bool.{Bool, true, false, ◌&&◌, ◌||◌, cond}
use Prim.Native.Nat.{ℕ, ◌+◌, ◌-◌, ◌≤◌}
use native.Mathlib.Omega.{arith}
use Rattle.std.specs.Prelude.{Result, Ok, Err}
use lib.Dec.{eqb, ltb}
use borrow.Author.Tests.{eqb-true}
use lib.Ieee.{Float}
use Rattle.laws.specs.Operators.{◌⊖◌}
use Rattle.machine.specs.Small.{one}
use Rattle.complex.specs.declared.number.Complex.{Complex}
use Rattle.refusal.specs.declared.refusal.Refusal.{Refusal}
use Rattle.refusal.specs.declared.refusal.Refusal.TheVariants as refusals
use Rattle.recurrence.specs.Climb.{climb_from}
use Rattle.recurrence.specs.Trial.{failed_trial, value_of}
use Rattle.recurrence.specs.Search.{is_found, search_at, search_from}
use Rattle.recurrence.specs.declared.search.Search.{Search}
use Rattle.recurrence.specs.Rule.{OutOfUnderflow}
use Rattle.recurrence.specs.declared.state.OverflowState.TheVariants.{NearUnder}
use Rattle.recurrence.specs.declared.state.Climb.{Climb}
use Rattle.recurrence.proofs.ClimbFacts.{rungs-climbed}
use Rattle.recurrence.proofs.SearchFacts.{search-ends}
use Rattle.right_half_plane.specs.declared.ground.Ground.{Ground}
use Rattle.right_half_plane.specs.declared.recover.Resumed.{Resumed}
use Rattle.right_half_plane.specs.declared.reach.Reached.{Reached}
use Rattle.right_half_plane.specs.declared.reach.Reached.TheVariants as reached
use Rattle.right_half_plane.specs.Ground.{Sized}
use Rattle.right_half_plane.specs.Recover.{is_zero_pair, neighbours_of, settled_of, recover_of}
use Rattle.right_half_plane.specs.shapes.Led.{MarkedFew}
use Rattle.right_half_plane.specs.Reach.{steps_of, wanted_of, resting_of, climbed_of, resumed_of, begun_of, reach_of}

-- ---- the climb out of underflow: two neighbours and the offset behind the rungs climbed, or refusal 7
pub recovery-rungs : (fraction : Float) (two_over_z : Complex) (steps : ℕ) (s : Search) → s.rungs ≡ 0 → (search_from OutOfUnderflow fraction two_over_z steps s).rungs ≤ steps
recovery-rungs fraction two_over_z steps s z = few _ s.rungs steps z (search-ends OutOfUnderflow fraction two_over_z steps s).few
  where
    few : (r a n : ℕ) → a ≡ 0 → r ≤ a + n → r ≤ n
    few r a n e h = omega arith

abbrev pub Resumes : ℕ → Result Resumed Refusal → Type 0
Resumes steps (Ok n) = (n.climb.rungs ≤ steps) × (n.next_offset ≡ n.climb.rungs + 2)
Resumes steps (Err refusal) = refusal ≡ refusals.Climb

settled-resumes : (steps : ℕ) (s : Search) → s.rungs ≤ steps → Resumes steps (settled_of s)
unfolding settled_of neighbours_of
settled-resumes steps s h = go (is_found s) (is_zero_pair (value_of s.before) || is_zero_pair (value_of s.latest))
  where
    go : (a b : Bool) → Resumes steps (cond a (cond b (Err refusals.Climb) (Ok (record { climb = record { older = value_of s.before; newer = value_of s.latest; state = NearUnder; rungs = s.rungs }; next_offset = s.rungs + 2 }))) (Err refusals.Climb))
    go false b = refl
    go true true = refl
    go true false = (h, refl)

pub recover-resumes : (fraction : Float) (two_over_z z : Complex) (steps : ℕ) (first second : Complex) → Resumes steps (recover_of fraction two_over_z z steps first second)
unfolding recover_of
recover-resumes fraction two_over_z z steps first second = settled-resumes steps _ (recovery-rungs fraction two_over_z steps (search_at z first second failed_trial failed_trial) refl)

-- ---- the rungs to the first order wanted
pub steps-few : (g : Ground) → Sized g → steps_of g ≤ 1000
unfolding steps_of
steps-few g s = go (eqb g.count 1)
  where
    go : (b : Bool) → cond b (g.nearest - 1) g.nearest ≤ 1000
    go true = omega (arith, s.low)
    go false = s.low

wanted-rungs : (g : Ground) (c : Climb) → (wanted_of g c).rungs ≡ c.rungs
unfolding wanted_of
wanted-rungs g c = go (eqb g.count 1 && ltb 0 g.nearest)
  where
    go : (b : Bool) → (cond b (record { older = c.newer; newer = c.newer; state = c.state; rungs = c.rungs }) c).rungs ≡ c.rungs
    go true = refl
    go false = refl

abbrev pub Arrives : Ground → Result Reached Refusal → Type 0
Arrives g (Ok (reached.OnScale c)) = c.rungs ≡ steps_of g
Arrives g (Ok (reached.Marked c)) = c.rungs ≡ steps_of g
Arrives g (Err refusal) = refusal ≡ refusals.Climb

climbed-arrives : (g : Ground) (from : ℕ) (c : Climb) → from ≡ c.rungs + 2 → c.rungs ≤ steps_of g → Arrives g (Ok (climbed_of g from c))
unfolding climbed_of
climbed-arrives g from c e h =
    wanted-rungs g (climb_from g.two_over_z (g.fraction ⊖ one) from (steps_of g + 2 - from) c)
    ∙ rungs-climbed g.two_over_z (g.fraction ⊖ one) from (steps_of g + 2 - from) c
    ∙ whole c.rungs (steps_of g) from e h
  where
    whole : (a n from : ℕ) → from ≡ a + 2 → a ≤ n → a + (n + 2 - from) ≡ n
    whole a n from e h = omega arith

resumed-arrives : (g : Ground) (r : Result Resumed Refusal) → Resumes (steps_of g) r → Arrives g (resumed_of g r)
unfolding resumed_of
resumed-arrives g (Ok n) w = climbed-arrives g n.next_offset n.climb w.1 w.0
resumed-arrives g (Err refusal) w = w

-- where it begins: at the seeds, after no rung, or where the climb out of underflow leaves off
begun-resumes : (g : Ground) (underflow : Bool) (c : Climb) → c.rungs ≡ 0 → Resumes (steps_of g) (begun_of g underflow c)
unfolding begun_of
begun-resumes g true c z = recover-resumes g.fraction g.two_over_z g.z (steps_of g) c.older c.newer
begun-resumes g false c z = (short c.rungs (steps_of g) z, two c.rungs z)
  where
    short : (a n : ℕ) → a ≡ 0 → a ≤ n
    short a n e = omega arith

    two : (a : ℕ) → a ≡ 0 → 2 ≡ a + 2
    two a e = omega arith

pub begun-few : (g : Ground) (underflow : Bool) (c : Climb) (n : Resumed) → Sized g → c.rungs ≡ 0 → begun_of g underflow c ≡ Ok n → n.climb.rungs ≤ 1000
begun-few g underflow c n s z e =
    let w = subst (Resumes (steps_of g)) e (begun-resumes g underflow c z) in
    omega (arith, w.0, steps-few g s)

pub reach-arrives : (g : Ground) (underflow : Bool) (c : Climb) → c.rungs ≡ 0 → Arrives g (reach_of g underflow c)
unfolding reach_of resting_of
reach-arrives g underflow c z = go (eqb (steps_of g) 0) underflow refl
  where
    none : eqb (steps_of g) 0 ≡ true → (wanted_of g c).rungs ≡ steps_of g
    none e = let s : steps_of g ≡ 0 = eqb-true (steps_of g) 0 e in wanted-rungs g c ∙ z ∙ sym s

    go : (a b : Bool) → eqb (steps_of g) 0 ≡ a
        → Arrives g (cond a (Ok (cond b (reached.Marked (wanted_of g c)) (reached.OnScale (wanted_of g c)))) (resumed_of g (begun_of g underflow c)))
    go true true e = none e
    go true false e = none e
    go false b e = resumed-arrives g _ (begun-resumes g underflow c z)

arrived-few : (g : Ground) (c : Climb) → Sized g → c.rungs ≡ steps_of g → c.rungs ≤ 1000
arrived-few g c s e = subst (λ (n : ℕ). n ≤ 1000) (sym e) (steps-few g s)

pub on-scale-few : (g : Ground) (underflow : Bool) (c d : Climb) → reach_of g underflow c ≡ Ok (reached.OnScale d) → Sized g → c.rungs ≡ 0 → d.rungs ≤ 1000
on-scale-few g underflow c d e s z = arrived-few g d s (subst (Arrives g) e (reach-arrives g underflow c z))

pub marked-few : (g : Ground) (underflow : Bool) (c d : Climb) → reach_of g underflow c ≡ Ok (reached.Marked d) → Sized g → c.rungs ≡ 0 → d.rungs ≤ 1000
marked-few g underflow c d e s z = arrived-few g d s (subst (Arrives g) e (reach-arrives g underflow c z))

pub reached-few : (g : Ground) (underflow : Bool) (c : Climb) (r : Reached) → reach_of g underflow c ≡ Ok r → Sized g → c.rungs ≡ 0 → MarkedFew r
reached-few g underflow c (reached.OnScale d) e s z = tt
reached-few g underflow c (reached.Marked d) e s z = marked-few g underflow c d e s z
