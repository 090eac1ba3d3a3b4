-- `temme::shares::share` meets its contract, by computation at each of its 18 entries. Assumes nothing.
use mathlib.Core.Path.{refl}
use lib.Ieee.{of_bits, of_int, div}
use Rattle.temme.specs.shapes.Shares.{share_of}
use Rattle.temme.proofs.shares.share.Goals as goal

pub returns-in-1 : goal.returns-in-1
unfolding share_of of_bits of_int div
returns-in-1 c = rw c.in-1.is

pub returns-in-2 : goal.returns-in-2
unfolding share_of of_bits of_int div
returns-in-2 c = rw c.in-2.is

pub returns-in-3 : goal.returns-in-3
unfolding share_of of_bits of_int div
returns-in-3 c = rw c.in-3.is

pub returns-in-4 : goal.returns-in-4
unfolding share_of of_bits of_int div
returns-in-4 c = rw c.in-4.is

pub returns-in-5 : goal.returns-in-5
unfolding share_of of_bits of_int div
returns-in-5 c = rw c.in-5.is

pub returns-in-6 : goal.returns-in-6
unfolding share_of of_bits of_int div
returns-in-6 c = rw c.in-6.is

pub returns-in-7 : goal.returns-in-7
unfolding share_of of_bits of_int div
returns-in-7 c = rw c.in-7.is

pub returns-in-8 : goal.returns-in-8
unfolding share_of of_bits of_int div
returns-in-8 c = rw c.in-8.is

pub returns-in-9 : goal.returns-in-9
unfolding share_of of_bits of_int div
returns-in-9 c = rw c.in-9.is

pub returns-in-10 : goal.returns-in-10
unfolding share_of of_bits of_int div
returns-in-10 c = rw c.in-10.is

pub returns-in-11 : goal.returns-in-11
unfolding share_of of_bits of_int div
returns-in-11 c = rw c.in-11.is

pub returns-in-12 : goal.returns-in-12
unfolding share_of of_bits of_int div
returns-in-12 c = rw c.in-12.is

pub returns-in-13 : goal.returns-in-13
unfolding share_of of_bits of_int div
returns-in-13 c = rw c.in-13.is

pub returns-in-14 : goal.returns-in-14
unfolding share_of of_bits of_int div
returns-in-14 c = rw c.in-14.is

pub returns-in-15 : goal.returns-in-15
unfolding share_of of_bits of_int div
returns-in-15 c = rw c.in-15.is

pub returns-in-16 : goal.returns-in-16
unfolding share_of of_bits of_int div
returns-in-16 c = rw c.in-16.is

pub returns-in-17 : goal.returns-in-17
unfolding share_of of_bits of_int div
returns-in-17 c = rw c.in-17.is

pub returns-in-18 : goal.returns-in-18
unfolding share_of of_bits of_int div
returns-in-18 c = rw c.in-18.is

pub returns-in_default : goal.returns-in_default
unfolding share_of
returns-in_default c = refl
