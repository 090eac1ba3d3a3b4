-- `recurrence::stretch::stretch` meets its contract: turn after turn, on the state of its start. Assumes nothing.
use mathlib.Core.Path.{◌≡◌, refl, sym, ap, ◌∙◌, subst}
use Prim.Native.Nat.{ℕ, ◌+◌, ◌-◌, ◌*◌, ◌/◌, ◌<◌, ◌≤◌}
use native.Mathlib.Omega.{arith}
use lib.Dec.{T}
use lib.Ieee.{Float, binary64, of_bits, lt}
use Rattle.recurrence.specs.State.{limit_of}
use Rattle.recurrence.proofs.LimitFacts.{limit-positive}
use Rattle.recurrence.proofs.StretchFacts.{partway_start, partway-again}
use Rattle.recurrence.proofs.FillFacts.{filled-start, held-again}
use Rattle.recurrence.proofs.OffScaleFacts.{scale-spreads}
use Rattle.recurrence.proofs.stretch.stretch.Goals as goal

-- after k turns

index : (from a b k : ℕ) → b ≡ a + k * 4 → from + 4 * k ≡ from + (b - a)
index from a b k e = omega arith

place : (at a b k : ℕ) → b ≡ a + k * 4 → at + 8 * k ≡ at + (b - a) * 2
place at a b k e = omega arith

inside : (from to k : ℕ) → k < (to - from) / 4 → from + 4 * k + 4 ≤ to
inside from to k h = omega arith

pub loop-turn-init : goal.loop-turn-init
loop-turn-init g c =
    let p = c.requires in (
      omega arith,
      refl,
      record { part = partway_start _ _ _ _ _; held = λ t. let u = p.3 t in filled-start _ _ (scale-spreads _) _ _ _ _ _ (omega arith) },
    )

pub four_rungs-requires : goal.four_rungs-requires
four_rungs-requires g c =
    let v = c.loop-turn.invariant in
    let p = c.requires in
    let h = inside _ _ _ c.loop-turn-test.true in
    let n = c.loop-turn.auto.out in (
      record { above = subst (λ (x : Float). T (lt (of_bits binary64 0) x)) (sym c.limit.ensures) (limit-positive _); ahead = c.factor_re.ensures },
      c.limit.ensures ∙ ap limit_of (sym v.1),
      omega arith,
      omega arith,
      omega arith,
      λ t. let u = p.3 t in omega arith,
    )

pub returns-in-Break : goal.returns-in-Break
returns-in-Break g c =
    let v = c.loop-turn.invariant in
    let h = inside _ _ _ c.loop-turn-test.true in
    record {
      part = partway-again _ _ _ (index _ _ _ _ v.0) h v.2.part c.in-Break.ensures.0.part;
      held = λ t. held-again _ _ _ _ (index _ _ _ _ v.0) (place _ _ _ _ v.0) h v.1 (v.2.held t) (c.in-Break.ensures.0.held t);
    }

pub loop-turn-preserved : goal.loop-turn-preserved
loop-turn-preserved g c =
    let v = c.loop-turn.invariant in
    let h = inside _ _ _ c.loop-turn-test.true in
    let s = c.in-Continue.ensures.1 in
    let n = s.four refl in (
      omega arith,
      s.state ∙ v.1,
      record {
        part = partway-again _ _ _ (index _ _ _ _ v.0) h v.2.part c.in-Continue.ensures.0.part;
        held = λ t. held-again _ _ _ _ (index _ _ _ _ v.0) (place _ _ _ _ v.0) h v.1 (v.2.held t) (c.in-Continue.ensures.0.held t);
      },
    )
