-- `right_half_plane::seeds::within_two` meets its contract: where the parts tell, the modulus says the same. Assumes nothing.
use mathlib.Core.Path.{sym, ap, ◌∙◌, subst}
use lib.Dec.{T}
use lib.Ieee.{Float, lt, le}
use Rattle.machine.specs.Small.{two}
use Rattle.right_half_plane.proofs.WithinTwo.{inner, outer, both-inside, real-outside, imaginary-outside}
use Rattle.right_half_plane.proofs.seeds.within_two.Goals as goal
use Rattle.right_half_plane.proofs.seeds.within_two.Goals.{then-re-2-via-then-re-2, then-re-2-via-else-re-2+then-im-2}

pub returns-then-im : goal.returns-then-im
returns-then-im c =
    let f = c.well_formed.0.1.1 in
    let re = ap (λ (x : Float). le x inner) (sym c.magnitude-re.ensures) ∙ c.if-re.true in
    let im = ap (λ (x : Float). le x inner) (sym c.magnitude-im.ensures) ∙ c.if-im.true in
    sym (ap (λ (x : Float). le x two) c.requires ∙ both-inside c.args.z (subst T (sym f.0.1) tt) (subst T (sym f.1.0.1) tt) re im)

pub returns-then-re-2 : goal.returns-then-re-2
returns-then-re-2 c =
    let f = c.well_formed.0.1.1 in
    let re = subst T (sym f.0.1) tt in
    let im = subst T (sym f.1.0.1) tt in
    sym (ap (λ (x : Float). le x two) c.requires
    ∙ elim c.then-re-2.branch [
      | then-re-2-via-then-re-2 w ↦ real-outside c.args.z re im (ap (λ (x : Float). lt outer x) (sym c.magnitude-re.ensures) ∙ w.if-re-2.true)
      | then-re-2-via-else-re-2+then-im-2 w ↦ imaginary-outside c.args.z re im (ap (λ (x : Float). lt outer x) (sym c.magnitude-im.ensures) ∙ w.if-im-2.true)
    ])
