-- `morning::serve::Morning::take_some` meets its contract: a whole line, or bytes. Assumes nothing.
use mathlib.Core.Path.{◌≡◌, refl, sym, ◌∙◌}
use Prim.Native.Nat.{◌+◌, ◌-◌}
use native.Mathlib.Omega.{arith}
use borrow.Author.Tests.{eqb-true}
use lib.ListN.{length}
use Rattle.morning.proofs.PassedFacts.{passed-line, line_tallied}
use Rattle.morning.proofs.serve.Morning.take_some.Goals as goal

pub returns-in-Some : goal.returns-in-Some
returns-in-Some c =
    let a = c.args in
    let s = a.self.now in
    let n = c.in-Some.n in
    let h = c.in-Some.ensures in
    let wide : a.at + n - a.at ≡ n = omega arith in (
      omega arith,
      omega (arith, h.room),
      passed-line a.chunk.now s.line a.at n (a.at + n - a.at) s.page s.turn.refused _ _ h (eqb-true (length s.line) 0 (sym c.is_empty.ensures ∙ c.if-is_empty.true)) wide
          c.add_digits.ensures.1
          (line_tallied s.page _ _ _ _ _ refl c.add_digits.ensures.0 c.tally-self.ensures),
      refl,
    )
