-- `frame::writing::write_line` meets its contract: the record alone, or the cells behind it. Assumes nothing.
use mathlib.Core.Path.{◌≡◌, sym, ap, ◌∙◌}
use mathlib.Core.List.{List}
use Prim.Native.Nat.{ℕ, ◌+◌, ◌*◌, zero-le}
use native.Mathlib.Omega.{arith}
use lib.ListN.{length}
use Rattle.frame.specs.Over.{over}
use Rattle.frame.specs.Writing.{spelled_numbers, cells_of, written_of}
use Rattle.frame.proofs.WriteFacts.{over-next, numbers-length, written_refused, written-answered, written-length, written-least}
use Rattle.frame.proofs.writing.write_line.Goals as goal

pub write_numbers-requires : goal.write_numbers-requires
write_numbers-requires c = omega (arith, c.requires, written-least c.args.numbers c.args.cells.now)

pub write_cells-requires : goal.write_cells-requires
write_cells-requires c =
    let a = c.args in
    let e : length (written_of a.numbers a.cells.now) ≡ 18 + length a.cells.now * 16 = written-length a.numbers a.cells.now c.if-numbers-eq0.true in
    omega (arith, c.requires)

pub returns-then-numbers-eq0 : goal.returns-then-numbers-eq0
returns-then-numbers-eq0 c =
    let a = c.args in
    let z = c.if-numbers-eq0.true in (
      c.write_cells.ensures.0 ∙ sym (written-length a.numbers a.cells.now z),
      over-next 0 18 (spelled_numbers a.numbers) (cells_of a.cells.now) a.out.now _ _ zero-le (omega (arith, numbers-length a.numbers)) c.write_numbers.ensures c.write_cells.ensures.1
          ∙ ap (λ (l : List ℕ). over 0 l a.out.now) (sym (written-answered a.numbers a.cells.now z)),
    )

pub returns-else-numbers-eq0 : goal.returns-else-numbers-eq0
returns-else-numbers-eq0 c =
    let a = c.args in
    let e = written_refused a.numbers a.cells.now c.if-numbers-eq0.false in
    (sym (ap length e ∙ numbers-length a.numbers), c.write_numbers.ensures ∙ ap (λ (l : List ℕ). over 0 l a.out.now) (sym e))
