-- `temme::shares::shares` meets its contract: at the fraction 0 by the law of whole numbers. Assumes nothing.
use mathlib.Core.Path.{sym, ◌∙◌, subst}
use lib.Dec.{T}
use Rattle.temme.specs.shapes.Shares.{shares_of}
use Rattle.temme.proofs.WholeShares.{shares-at-zero}
use Rattle.temme.proofs.shares.shares.Goals as goal

pub returns-then-is_whole : goal.returns-then-is_whole
returns-then-is_whole c =
    let d = c in
    c.whole_shares.ensures
    ∙ sym (shares-at-zero d.args.terms d.requires d.args.fraction d.args.fraction_square (subst T (sym d.well_formed.0.1) tt) (subst T (sym d.well_formed.1.0.1) tt) (sym c.is_whole.ensures ∙ c.if-is_whole.true))

pub returns : goal.returns
unfolding shares_of
returns c = simp c.share.ensures
