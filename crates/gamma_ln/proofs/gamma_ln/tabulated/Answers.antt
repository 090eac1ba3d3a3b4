-- `gamma_ln::gamma_ln::tabulated` meets its contract: the argument is an index of the table. Assumes nothing.
use Rattle.gamma_ln.specs.GammaLn.{tabulated_of}
use Rattle.gamma_ln.proofs.Arguments.{index-cast}
use Rattle.gamma_ln.proofs.gamma_ln.tabulated.Goals as goal

pub float_to_int-x : goal.float_to_int-x
float_to_int-x c =
    let s = c in
    (index-cast s.args.x c.type_inv.x s.requires.0 s.requires.1).0

pub whole_value-requires : goal.whole_value-requires
whole_value-requires c =
    let s = c in
    (index-cast s.args.x c.type_inv.x s.requires.0 s.requires.1).1

pub returns : goal.returns
unfolding tabulated_of
returns c = c.whole_value.ensures
