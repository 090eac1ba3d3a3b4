-- `frame::digits::digit` meets its contract, by the test. Assumes nothing.
use borrow.Author.Tests.{lt-ltb, le-ltb}
use Rattle.frame.specs.Digits.{digit_of}
use Rattle.frame.proofs.digits.digit.Goals as goal

pub returns-then-d-lt10 : goal.returns-then-d-lt10
unfolding digit_of
returns-then-d-lt10 c = simp (lt-ltb _ _ c.if-d-lt10.true)

pub returns : goal.returns
unfolding digit_of
returns c = simp (le-ltb _ _ c.if-d-lt10.false)
