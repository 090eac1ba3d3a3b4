-- `frame::asking::write_asking` meets its contract: six fields, each behind the one before. Assumes nothing.
use Prim.Native.Nat.{◌≤◌}
use native.Mathlib.Omega.{arith}
use lib.ListN.{length}
use Rattle.frame.proofs.WriteFacts.{asking-written}
use Rattle.frame.proofs.asking.write_asking.Goals as goal

pub returns : goal.returns
returns c =
    let c6 = c in
    let c5 = c6 in
    let c4 = c5 in
    let c3 = c4 in
    let c2 = c3 in
    let c1 = c2 in
    let s = c1 in
    let h : s.args.at ≤ length s.args.out.now = omega (arith, s.requires) in
    asking-written s.args.f s.args.at s.args.out.now _ _ _ _ _ _ h
    c1.spell.ensures
    c2.spell-2.ensures
    c3.spell-3.ensures
    c4.spell-4.ensures
    c5.spell-5.ensures
    c6.spell-6.ensures
