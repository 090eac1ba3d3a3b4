-- `frame::asking::read_fields` meets its contract: each field is the number at its place. Assumes nothing.
use Rattle.frame.specs.Asking.{fields_of}
use Rattle.frame.proofs.asking.read_fields.Goals as goal

pub returns : goal.returns
unfolding fields_of
returns c = simp (c.field-6.ensures, c.field-5.ensures, c.field-4.ensures, c.field-3.ensures, c.field-2.ensures, c.field.ensures)
