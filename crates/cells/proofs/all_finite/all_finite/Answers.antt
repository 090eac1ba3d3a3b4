-- `cells::all_finite::all_finite` meets its contract: eight products, and what is left of the cells, decide at each chunk passed. Assumes nothing.
use mathlib.Core.Path.{◌≡◌, sym, ap, ◌∙◌}
use mathlib.Core.Bool.{Bool, true, ◌&&◌}
use mathlib.Core.List.{List}
use Prim.Native.Nat.{ℕ, ◌*◌, ◌/◌}
use native.Mathlib.Omega.{arith}
use lib.ListN.{length, drop}
use lib.Ieee.{Float}
use lib.Ieee.Scale.{finite}
use Rattle.std.specs.Simd.{first_chunks}
use Rattle.std.proofs.lemmas.List.{take_rest}
use Rattle.cells.specs.AllFinite.{all_finite}
use Rattle.cells.proofs.AllFiniteFacts.{chunk-next, all_end}
use Rattle.cells.proofs.NoughtFacts.{joined, joined-nought, joined-finite, noughts-on}
use Rattle.cells.proofs.all_finite.all_finite.Goals as goal

pub returns-then-cells-from : goal.returns-then-cells-from
returns-then-cells-from c = let a = c.args in sym (all_end a.cells.now a.from true (omega arith))

pub loop-x-preserved : goal.loop-x-preserved
loop-x-preserved c =
    let l = c.loop-x in
    let n = l.invariant.0 in
    let v = c.eights in
    let cells = drop c.args.from c.args.cells.now in
    let whole = take_rest c.args.cells.now c.args.from in
    let front : v.result.0.now ≡ first_chunks 8 (length cells / 8) cells = v.ensures.front ∙ ap (λ (t : List Float). first_chunks 8 (length t / 8) t) whole in
    let count : length v.result.0.now ≡ length cells / 8 = v.ensures.count ∙ ap (λ (t : List Float). length t / 8) whole in (
      noughts-on _ _ _ _ _ _ _ _ _ _ _ _ _ _ _ _ n,
      l.invariant.1 ∙ chunk-next cells v.result.0.now (length cells / 8) l.x-index l.a l.b l.c l.d l.e l.f l.g l.h front (omega (arith, count, c.loop-x-test.true)) (omega arith) n,
    )

pub stays_zero-requires : goal.stays_zero-requires
stays_zero-requires c = joined-nought _ _ _ _ _ _ _ _ c.loop-x.invariant.0

pub returns : goal.returns
returns c =
    let l = c.loop-x in
    let v = c.eights in
    let cells = drop c.args.from c.args.cells.now in
    let whole = take_rest c.args.cells.now c.args.from in
    let count : length v.result.0.now ≡ length cells / 8 = v.ensures.count ∙ ap (λ (t : List Float). length t / 8) whole in
    let back : v.result.1.now ≡ drop (length cells / 8 * 8) cells = v.ensures.back ∙ ap (λ (t : List Float). drop (length t / 8 * 8) t) whole in
    let all : l.x-index ≡ length cells / 8 = omega (arith, count, c.loop-x-test.false) in
    c.stays_zero.ensures
    ∙ ap (λ (r : List Float). finite (joined l.a l.b l.c l.d l.e l.f l.g l.h) && all_finite r) (back ∙ ap (λ (k : ℕ). drop (k * 8) cells) (sym all))
    ∙ ap (λ (b : Bool). b && all_finite (drop (l.x-index * 8) cells)) (joined-finite _ _ _ _ _ _ _ _ l.invariant.0)
    ∙ sym l.invariant.1
