-- log-gamma of 1 is +0, by the table. Assumes nothing.
use mathlib.Core.Path.{◌≡◌, refl}
use mathlib.Core.Bool.{true, false}
use lib.Ieee.{to_unsigned, of_bits, le, lt, eq, round}
use Rattle.laws.proofs.Zero.{zero_of}
use Rattle.machine.specs.Small.{nothing, one}
use Rattle.rounding.specs.Round.{nearest_whole, round_of}
use Rattle.gamma_ln_tables.specs.Tables.{whole_values}
use Rattle.gamma_ln.specs.GammaLn.{is_tabulated, tabulated_of, gamma_ln_of}

tabulated : is_tabulated one ≡ true
unfolding is_tabulated round_of nearest_whole of_bits le lt eq round
tabulated = refl

tabled : tabulated_of one ≡ zero_of false
unfolding tabulated_of to_unsigned whole_values of_bits
tabled = refl

above : le one nothing ≡ false
unfolding of_bits le lt eq
above = refl

pub log-gamma-at-one : (gamma_ln_of one).value ≡ zero_of false
unfolding gamma_ln_of
log-gamma-at-one = rw (above, tabulated, tabled)
