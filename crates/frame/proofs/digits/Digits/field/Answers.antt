-- `frame::digits::Digits::field` meets its contract: the digits at the place are so many, and digits. Assumes nothing.
use mathlib.Core.Path.{◌≡◌, ap, ◌∙◌}
use Prim.Native.Nat.{ℕ, ◌+◌, ◌-◌}
use native.Mathlib.Omega.{arith}
use lib.ListN.{take, drop, length-take}
use Rattle.frame.specs.Digits.{number_of}
use Rattle.frame.proofs.DigitFacts.{digits-part}
use Rattle.frame.proofs.digits.Digits.field.Goals as goal

pub number-requires : goal.number-requires
number-requires c = let a = c.args in (simp length-take (omega arith), digits-part (a.at + a.width - a.at) a.at a.self.now.line.now a.self.now.digits)

pub returns : goal.returns
returns c =
    let a = c.args in
    c.number.ensures ∙ ap (λ (k : ℕ). number_of (take k (drop a.at a.self.now.line.now))) (wide a.at a.width)
  where
    wide : (at width : ℕ) → at + width - at ≡ width
    wide at width = omega arith
