-- The climb from the seeds to the first order wanted: ZBKNU from label 210 to label 240 (zbknu.f), with the climb out of underflow where it is marked;
-- `k_right_half_plane` of src/amos/right_half_plane.rs. Definitions only.
use Rattle.std.specs.Prelude.{ℕ, ◌+◌, ◌-◌, Bool, ◌&&◌, cond, Result, Ok, Err, eqb, ltb}
use Rattle.laws.specs.Operators.{◌⊖◌}
use Rattle.machine.specs.Small.{one}
use Rattle.recurrence.specs.Climb.{climb_from}
use Rattle.recurrence.specs.declared.state.Climb.{Climb}
use Rattle.refusal.specs.declared.refusal.Refusal.{Refusal}
use Rattle.right_half_plane.specs.declared.ground.Ground.{Ground}
use Rattle.right_half_plane.specs.declared.recover.Resumed.{Resumed}
use Rattle.right_half_plane.specs.declared.reach.Reached.{Reached}
use Rattle.right_half_plane.specs.declared.reach.Reached.TheVariants.{OnScale, Marked}
use Rattle.right_half_plane.specs.Recover.{recover_of}

-- r rungs, and r - 1 where one value alone is asked for, but none where r = 0
unfoldable pub steps_of : Ground → ℕ
steps_of g = cond (eqb g.count 1) (g.nearest - 1) g.nearest

-- one value alone is the newer of the two, unless it is the first seed
unfoldable pub wanted_of : Ground → Climb → Climb
wanted_of g c =
    cond (eqb g.count 1 && ltb 0 g.nearest) (record { older = c.newer; newer = c.newer; state = c.state; rungs = c.rungs }) c

-- with no rung to climb, underflow stays marked
unfoldable pub resting_of : Ground → Bool → Climb → Reached
resting_of g underflow c = cond underflow (Marked (wanted_of g c)) (OnScale (wanted_of g c))

-- the plain climb (DO 230), over the offsets from `from` to the steps and one more; the order at an offset is that of the fraction, less 1, plus
-- the offset
unfoldable pub climbed_of : Ground → ℕ → Climb → Reached
climbed_of g from c = OnScale (wanted_of g (climb_from g.two_over_z (g.fraction ⊖ one) from (steps_of g + 2 - from) c))

-- it resumes where the climb out of underflow left off
unfoldable pub resumed_of : Ground → Result Resumed Refusal → Result Reached Refusal
resumed_of g (Ok n) = Ok (climbed_of g n.next_offset n.climb)
resumed_of g (Err refusal) = Err refusal

-- out of underflow first, where it is marked
unfoldable pub begun_of : Ground → Bool → Climb → Result Resumed Refusal
begun_of g underflow c =
    cond underflow
    (recover_of g.fraction g.two_over_z g.z (steps_of g) c.older c.newer)
    (Ok (record { climb = c; next_offset = 2 }))

unfoldable pub reach_of : Ground → Bool → Climb → Result Reached Refusal
reach_of g underflow c = cond (eqb (steps_of g) 0) (Ok (resting_of g underflow c)) (resumed_of g (begun_of g underflow c))
