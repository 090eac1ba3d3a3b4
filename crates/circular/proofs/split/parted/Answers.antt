-- `circular::split::parted` meets its contract: by the bits of x. Assumes nothing.
use mathlib.Core.Path.{sym, subst}
use lib.Dec.{T}
use Rattle.circular.proofs.Parts.{split-nan, split-large, split-at}
use Rattle.circular.proofs.split.parted.Goals as goal

pub returns-then-x : goal.returns-then-x
returns-then-x c = split-nan c.args.x c.if-x.true

pub returns-then-size-ge9218868437227405312 : goal.returns-then-size-ge9218868437227405312
returns-then-size-ge9218868437227405312 c =
    let p = c.pattern-bits in
    split-large c.args.x p.result (subst T (sym c.well_formed.0.1) tt) p.ensures c.if-size-ge9218868437227405312.true

pub returns : goal.returns
returns c =
    let p = c.pattern-bits in
    let a = c.of_pattern in
    split-at c.args.x p.result (subst T (sym c.well_formed.0.1) tt) p.ensures c.if-size-ge9218868437227405312.false a.result a.ensures
