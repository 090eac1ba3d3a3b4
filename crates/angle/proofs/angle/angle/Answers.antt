-- `angle::angle::angle` meets its contract: by the tests of a not-a-number and of the sign of y. Assumes nothing.
use mathlib.Core.Path.{sym, subst, ◌∙◌}
use lib.Dec.{T}
use Rattle.angle.specs.Angle.{angle_of}
use Rattle.machine.proofs.NotANumber.{equals_itself}
use Rattle.angle.proofs.Tests.{not-a-number, number}
use Rattle.angle.proofs.Sides.{above_at, negative-at}
use Rattle.angle.proofs.angle.angle.Goals as goal

pub returns-then-y : goal.returns-then-y
unfolding angle_of
returns-then-y c = simp (c.not_a_number.ensures, not-a-number _ c.if-y.true)

pub returns-then-x : goal.returns-then-x
unfolding angle_of
returns-then-x c = simp (c.not_a_number-then-x.ensures, number _ c.if-y.false, not-a-number _ c.if-x.true)

pub is_sign_negative-requires : goal.is_sign_negative-requires
is_sign_negative-requires c = equals_itself c.args.x c.if-x.false

pub upper-r-requires : goal.upper-r-requires
upper-r-requires c =
    let d = c in
    let y = d.args.y in
    let x = d.args.x in
    above_at y x c.magnitude.result c.magnitude-2.result (equals_itself y d.if-y.false) (equals_itself x d.if-x.false)
    c.magnitude.ensures c.magnitude-2.ensures

pub is_sign_negative-requires-2 : goal.is_sign_negative-requires-2
is_sign_negative-requires-2 c =
    let d = c in
    equals_itself d.args.y d.if-y.false

-- what the calls give, where neither part is a not-a-number

pub returns-then-is_sign_negative : goal.returns-then-is_sign_negative
unfolding angle_of
returns-then-is_sign_negative c =
    let d = c in
    let e = d in
    simp (
      d.upper-r.ensures,
      d.is_sign_negative.ensures,
      negative-at e.args.x (subst T (sym e.well_formed.1.0.1) tt) (equals_itself e.args.x e.if-x.false),
      d.magnitude-2.ensures,
      e.magnitude.ensures,
      number _ e.if-y.false,
      number _ e.if-x.false,
      sym (c.is_sign_negative-2.ensures ∙ negative-at e.args.y (subst T (sym e.well_formed.0.1) tt) (equals_itself e.args.y e.if-y.false)) ∙ c.if-is_sign_negative.true,
    )

pub returns : goal.returns
unfolding angle_of
returns c =
    let d = c in
    let e = d in
    simp (
      d.upper-r.ensures,
      d.is_sign_negative.ensures,
      negative-at d.args.x (subst T (sym d.well_formed.1.0.1) tt) (equals_itself d.args.x d.if-x.false),
      d.magnitude-2.ensures,
      e.magnitude.ensures,
      number _ e.if-y.false,
      number _ d.if-x.false,
      sym (c.is_sign_negative-2.ensures ∙ negative-at e.args.y (subst T (sym e.well_formed.0.1) tt) (equals_itself e.args.y e.if-y.false)) ∙ c.if-is_sign_negative.false,
    )
