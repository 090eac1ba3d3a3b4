-- `sweeping::request::normalised_request` meets its contract: three zeros. Assumes nothing.
use Rattle.sweeping.specs.Points.{normalised_request}
use Rattle.sweeping.proofs.request.normalised_request.Goals as goal

pub returns : goal.returns
unfolding normalised_request
returns c = simp (c.normalised-3.ensures, c.normalised-2.ensures, c.normalised.ensures)
