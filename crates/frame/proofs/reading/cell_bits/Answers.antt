-- `frame::reading::cell_bits` meets its contract: sixteen digits at the cell's place. Assumes nothing.
use Rattle.frame.specs.Reading.{cell_bits_of}
use Rattle.frame.proofs.reading.cell_bits.Goals as goal

pub returns : goal.returns
unfolding cell_bits_of
returns c = c.field.ensures
