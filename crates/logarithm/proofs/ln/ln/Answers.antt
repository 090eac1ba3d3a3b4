-- `logarithm::ln::ln` meets its contract: each way through it is a case of the definition, told by the pattern. Assumes nothing.
use mathlib.Core.Path.{sym, ap, ◌∙◌, subst}
use native.Mathlib.Omega.{arith}
use lib.Dec.{T}
use lib.Ieee.Compare.{differs_from_itself}
use Rattle.machine.proofs.NotANumber.{equals_itself}
use Rattle.logarithm.specs.Ln.{ln_of}
use Rattle.logarithm.proofs.Cases.{of_nan, minus-infinity, at_zero, at-minus-zero, at-infinity, narrow, wide, other}
use Rattle.logarithm.proofs.ln.ln.Goals as goal

pub returns-then-x : goal.returns-then-x
returns-then-x c = c.not_a_number.ensures ∙ sym (ap ln_of (differs_from_itself c.args.x (subst T (sym c.if-x.true) tt)) ∙ of_nan)

pub float_to_bits-bits : goal.float_to_bits-bits
float_to_bits-bits c = equals_itself c.args.x c.if-x.false

pub returns-then-bits-eq0 : goal.returns-then-bits-eq0
returns-then-bits-eq0 c =
    let start = c in
    minus-infinity ∙ sym (at_zero start.args.x (subst T (sym start.well_formed.0.1) tt) c.if-bits-eq0.true)

pub returns-then-bits-lt4503599627370496 : goal.returns-then-bits-lt4503599627370496
returns-then-bits-lt4503599627370496 c =
    let start = c in
    c.of_narrow.ensures ∙ sym (narrow start.args.x (subst T (sym start.well_formed.0.1) tt) (omega arith) c.if-bits-lt4503599627370496.true)

pub returns-then-bits-lt9218868437227405312 : goal.returns-then-bits-lt9218868437227405312
returns-then-bits-lt9218868437227405312 c =
    let start = c in
    c.of_wide.ensures ∙ sym (wide start.args.x (subst T (sym start.well_formed.0.1) tt) c.if-bits-lt4503599627370496.false c.if-bits-lt9218868437227405312.true)

pub returns-then-bits-eq9218868437227405312 : goal.returns-then-bits-eq9218868437227405312
returns-then-bits-eq9218868437227405312 c =
    let start = c in
    sym (at-infinity start.args.x (subst T (sym start.well_formed.0.1) tt) c.if-bits-eq9218868437227405312.true)

pub returns-then-bits : goal.returns-then-bits
returns-then-bits c =
    let start = c in
    minus-infinity ∙ sym (at-minus-zero start.args.x (subst T (sym start.well_formed.0.1) tt) c.if-bits.true)

pub returns : goal.returns
returns c =
    let start = c in
    c.not_a_number-2.ensures
    ∙ sym (other start.args.x (subst T (sym start.well_formed.0.1) tt) c.if-bits-lt9218868437227405312.false c.if-bits-eq9218868437227405312.false c.if-bits.false)
