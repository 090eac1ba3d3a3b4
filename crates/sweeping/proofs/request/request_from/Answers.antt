-- `sweeping::request::request_from` meets its contract: each field is the number at its place. Assumes nothing.
use mathlib.Core.Path.{sym, subst}
use native.Mathlib.Omega.{arith}
use mir.Syntax.{w32}
use mir.Val.{Fits}
use Rattle.frame.specs.Layout.{count_width, float_width}
use Rattle.frame.proofs.DigitFacts.{digits-part}
use Rattle.frame.proofs.FieldFacts.{short-fits}
use Rattle.sweeping.specs.Line.{last_re_at, last_im_at, steps_at, request_from}
use Rattle.sweeping.proofs.request.request_from.Goals as goal

pub number-requires : goal.number-requires
number-requires c = let s = c in (omega arith, digits-part float_width last_re_at s.args.rest.now s.requires.1)

pub number-requires-2 : goal.number-requires-2
number-requires-2 c = let s = c in (omega arith, digits-part float_width last_im_at s.args.rest.now s.requires.1)

pub number-requires-3 : goal.number-requires-3
number-requires-3 c = let s = c in (omega arith, digits-part count_width steps_at s.args.rest.now s.requires.1)

pub overflow_cast-result : goal.overflow_cast-result
overflow_cast-result c =
    let s = c in
    subst (Fits w32) (sym c.number-3.ensures) (record { fits = short-fits _ (omega arith) (digits-part count_width steps_at s.args.rest.now s.requires.1) })

pub returns : goal.returns
unfolding request_from
returns c =
    let d = c in
    let e = d in
    simp (
      c.number-3.ensures,
      c.of_pattern-5.ensures,
      d.number-2.ensures,
      d.of_pattern-4.ensures,
      d.number.ensures,
      e.of_pattern-3.ensures,
      e.of_pattern-2.ensures,
      e.of_pattern.ensures,
    )
