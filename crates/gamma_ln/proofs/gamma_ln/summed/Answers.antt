-- `gamma_ln::gamma_ln::summed` meets its contract: the two ways in one, whose shift is a whole number. Assumes nothing.
use mathlib.Core.Path.{◌≡◌, ◌∙◌}
use borrow.Author.Tests.{eq-eqb, ne_eqb}
use lib.Ieee.{lt}
use Rattle.machine.specs.Constants.{gamma_ln_minimum}
use Rattle.gamma_ln.specs.GammaLn.{series_argument_of}
use Rattle.gamma_ln.proofs.OneWay.{one_way, both_ways, shift_fits}
use Rattle.gamma_ln.proofs.gamma_ln.summed.Goals as goal

pub raised-place-requires : goal.raised-place-requires
raised-place-requires c = c.requires

pub float_to_int-wanted : goal.float_to_int-wanted
float_to_int-wanted c =
    let d = c in
    let s = d in
    rw d.raised-place.ensures.1 (shift_fits s.args.x s.requires)

pub returns-then-wanted-eq0 : goal.returns-then-wanted-eq0
unfolding series_argument_of
returns-then-wanted-eq0 c =
    let d = c in
    let r = d.raised-place in
    let x = d.args.x in
    let t = simp r.ensures.1 at c.if-wanted-eq0.true in
    let e : d.stirling-above.result ≡ one_way (lt x gamma_ln_minimum) x = simp (d.stirling-above.ensures, r.ensures.0, eq-eqb _ _ t) in
    e ∙ both_ways (lt x gamma_ln_minimum) x

pub returns : goal.returns
unfolding series_argument_of
returns c =
    let b = c in
    let d = b in
    let r = d.raised-place in
    let x = d.args.x in
    let t = simp r.ensures.1 at b.if-wanted-eq0.false in
    rw (← both_ways (lt x gamma_ln_minimum) x)
    (simp (c.ln.ensures, b.factors-below.ensures, d.stirling-above.ensures, r.ensures.0, r.ensures.1, ne_eqb _ _ t))
