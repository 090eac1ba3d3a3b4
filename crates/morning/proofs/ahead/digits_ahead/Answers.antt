-- `morning::ahead::digits_ahead` meets its contract: a record of digits, and pairs behind it. Assumes nothing.
use mathlib.Core.Path.{◌≡◌, sym, ◌∙◌, subst}
use mathlib.Core.Bool.{true}
use Prim.Native.Nat.{ℕ, ◌+◌, ◌-◌}
use native.Mathlib.Omega.{arith}
use lib.ListN.{take, drop}
use Rattle.frame.specs.Digits.{are_digits}
use Rattle.morning.proofs.ahead.digits_ahead.Goals as goal

pub pairs_ahead-requires : goal.pairs_ahead-requires
pairs_ahead-requires c =
    let s = c in
    let a = s.args in
    let wide : a.at + 18 - a.at ≡ 18 = omega arith in
    record {
      room = omega (arith, c.if-chunk-at-lt-RECORD_LENGTH.false, s.requires);
      digits = subst (λ (n : ℕ). are_digits (take n (drop a.at a.chunk.now)) ≡ true) wide (sym c.are_digits.ensures ∙ c.if-not-are_digits.false);
    }
