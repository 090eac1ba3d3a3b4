-- `machine::magnitude::magnitude` meets its contract: the pattern without its highest bit. Assumes nothing.
use mathlib.Core.Path.{sym, ap, subst, ◌∙◌}
use lib.Dec.{T}
use lib.Ieee.Compare.{differs_from_itself}
use Rattle.machine.specs.Magnitude.{magnitude_of}
use Rattle.machine.proofs.NotANumber.{equals_itself}
use Rattle.machine.proofs.MagnitudeFacts.{magnitude-is, magnitude-no-nan}
use Rattle.machine.proofs.magnitude.magnitude.Goals as goal

pub returns-then-x : goal.returns-then-x
unfolding magnitude_of
returns-then-x c = let e = differs_from_itself c.args.x (subst T (sym c.if-x.true) tt) in e ∙ sym (ap magnitude_of e)

pub float_to_bits-result : goal.float_to_bits-result
float_to_bits-result c = equals_itself c.args.x c.if-x.false

pub float_from_bits-result : goal.float_from_bits-result
float_from_bits-result c = magnitude-no-nan c.args.x (subst T (sym c.well_formed.0.1) tt) (equals_itself c.args.x c.if-x.false)

pub returns : goal.returns
returns c = magnitude-is c.args.x (subst T (sym c.well_formed.0.1) tt)
