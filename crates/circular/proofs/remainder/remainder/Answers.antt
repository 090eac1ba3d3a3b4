-- `circular::remainder::remainder` meets its contract: above 65536 a value is infinite, or its digits and its exponent's field are the pattern's. Assumes nothing.
use mathlib.Core.Path.{sym, ◌∙◌, subst}
use Prim.Native.Nat.{◌/◌, ◌^◌, ◌≤◌}
use native.Mathlib.Nat.{le_trans}
use lib.Dec.{T}
use Rattle.circular.proofs.RemainderFacts.{field-above, infinite-rest, remainder-is}
use Rattle.circular.proofs.remainder.remainder.Goals as goal

pub returns-then-bits-ge9218868437227405312 : goal.returns-then-bits-ge9218868437227405312
returns-then-bits-ge9218868437227405312 c =
    c.not_a_number.ensures ∙ sym (infinite-rest c.args.a c.args.y c.pattern-bits.result (subst T (sym c.well_formed.0.1) tt) c.pattern-bits.ensures c.if-bits-ge9218868437227405312.true c.requires.0)

pub overflow_sub-shift : goal.overflow_sub-shift
overflow_sub-shift c =
    let b = c.pattern-bits.result in
    let X = field-above c.args.a b (subst T (sym c.well_formed.0.1) tt) c.pattern-bits.ensures c.if-bits-ge9218868437227405312.false c.requires.0 in
    rw c.pattern-by.ensures (le_trans c.requires.2 X)

pub returns : goal.returns
returns c =
    let b = c.pattern-bits.result in
    let d = c.pattern-by in
    let F = subst T (sym c.well_formed.0.1) tt in
    let X = field-above c.args.a b F c.pattern-bits.ensures c.if-bits-ge9218868437227405312.false c.requires.0 in
    let low : 53 ≤ d.result / 2 ^ 52 = rw d.ensures c.requires.1 in
    let high : d.result / 2 ^ 52 ≤ 1039 = rw d.ensures c.requires.2 in
    rw c.of_pattern-unit.ensures (remainder-is c.args.a c.args.y b d.result c.doubled_rest-r.result F (subst T (sym c.well_formed.1.0.1) tt) c.pattern-bits.ensures d.ensures c.if-bits-ge9218868437227405312.false X low high c.doubled_rest-r.ensures)
