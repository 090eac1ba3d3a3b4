-- `morning::ahead::pairs_ahead` meets its contract: pair by pair. Assumes nothing.
use mathlib.Core.Path.{◌≡◌, sym, ◌∙◌}
use Prim.Native.Nat.{◌+◌, ◌-◌}
use native.Mathlib.Omega.{arith}
use Rattle.morning.proofs.AheadFacts.{counting-first, counting_more, counted-ahead}
use Rattle.morning.proofs.ahead.pairs_ahead.Goals as goal

pub loop-n-init : goal.loop-n-init
loop-n-init c = let s = c in counting-first s.args.chunk.now s.args.at s.requires

pub overflow_add-at : goal.overflow_add-at
overflow_add-at c = let l = c in record { fits = omega (arith, l.loop-n.invariant.room, l.well_formed) }

pub overflow_add-at-in-loop-n : goal.overflow_add-at-in-loop-n
overflow_add-at-in-loop-n c = let l = c in record { fits = omega (arith, l.loop-n.invariant.room, l.well_formed) }

pub bounds-chunk-at : goal.bounds-chunk-at
bounds-chunk-at c = c.loop-n-test.true

pub returns-then-chunk-at-eq-NEWLINE : goal.returns-then-chunk-at-eq-NEWLINE
returns-then-chunk-at-eq-NEWLINE c = let l = c in let a = l.args in counted-ahead a.chunk.now a.at l.loop-n.n l.loop-n.invariant c.loop-n-test.true c.if-chunk-at-eq-NEWLINE.true

pub overflow_sub-chunk : goal.overflow_sub-chunk
overflow_sub-chunk c = let l = c in omega (arith, l.loop-n.invariant.room)

pub overflow_sub-chunk-in-loop-n : goal.overflow_sub-chunk-in-loop-n
overflow_sub-chunk-in-loop-n c = let l = c in omega (arith, l.loop-n.invariant.room)

pub overflow_add-at-in-loop-n-2 : goal.overflow_add-at-in-loop-n-2
overflow_add-at-in-loop-n-2 c = let l = c in record { fits = omega (arith, l.loop-n.invariant.room, l.well_formed) }

pub overflow_add-at-in-loop-n-3 : goal.overflow_add-at-in-loop-n-3
overflow_add-at-in-loop-n-3 c = let l = c in record { fits = omega (arith, l.loop-n.invariant.room, l.well_formed) }

pub overflow_add-at-in-loop-n-4 : goal.overflow_add-at-in-loop-n-4
overflow_add-at-in-loop-n-4 c = let l = c in record { fits = omega (arith, l.loop-n.invariant.room, c.if-chunk-at-lt-PAIR_WIDTH.false, l.well_formed) }

pub slice_bounds-are_digits-count : goal.slice_bounds-are_digits-count
slice_bounds-are_digits-count c = omega arith

pub are_digits-requires : goal.are_digits-requires
are_digits-requires c = tt

pub overflow_add-n : goal.overflow_add-n
overflow_add-n c = let l = c in record { fits = omega (arith, l.loop-n.invariant.few) }

pub loop-n-smaller : goal.loop-n-smaller
loop-n-smaller c = let l = c in omega (arith, c.loop-n-test.true, c.if-chunk-at-lt-PAIR_WIDTH.false, l.loop-n.invariant.room)

pub loop-n-preserved : goal.loop-n-preserved
loop-n-preserved c =
    let l = c in
    let a = l.args in
    let wide : a.at + l.loop-n.n + 32 - (a.at + l.loop-n.n) ≡ 32 = omega arith in
    counting_more a.chunk.now a.at l.loop-n.n _ l.loop-n.invariant c.if-n-ge-LONGEST_LINE.false c.if-chunk-at-lt-PAIR_WIDTH.false wide (sym c.are_digits.ensures ∙ c.if-not-are_digits.false)
