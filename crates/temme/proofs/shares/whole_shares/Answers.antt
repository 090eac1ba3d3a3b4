-- `temme::shares::whole_shares` meets its contract. Assumes nothing.
use Rattle.temme.specs.shapes.Shares.{whole_shares_of}
use Rattle.temme.proofs.shares.whole_shares.Goals as goal

pub returns : goal.returns
unfolding whole_shares_of
returns c = simp (c.square_share.ensures, c.share-of_k.ensures)
