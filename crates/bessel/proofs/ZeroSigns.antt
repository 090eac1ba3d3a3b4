-- The sign of a zero order or of a zero real part has no part in any outcome. Assumes nothing.
use mathlib.Core.Path.{◌≡◌, refl, sym, ap, ◌∙◌}
use mathlib.Core.Bool.{Bool, true}
use Prim.Native.Nat.{ℕ}
use lib.Ieee.{Float, of_bits, eq}
use Rattle.machine.specs.Small.{nothing}
use Rattle.complex.specs.Functions.{modulus_of}
use Rattle.call.specs.Limits.{normalised_of}
use Rattle.bessel.specs.declared.arguments.Arguments.{Arguments}
use Rattle.bessel.specs.Arguments.{arguments_of}
use Rattle.bessel.specs.Checks.{k_checks, series_checks}
use Rattle.bessel.specs.Outcome.{call_outcome}
use Rattle.bessel.specs.Series.{visited_by, visit_steps, series_outcome}
use Rattle.bessel.specs.K.{k_steps, k_outcome}

made-zero : (x : Float) → eq x nothing ≡ true → normalised_of x ≡ nothing
unfolding normalised_of
made-zero x e = rw e

stays-zero : normalised_of nothing ≡ nothing
unfolding normalised_of of_bits eq
stays-zero = refl

same-zero : (x : Float) → eq x nothing ≡ true → normalised_of x ≡ normalised_of nothing
same-zero x e = made-zero x e ∙ sym stays-zero

order_same : (v re im : Float) → eq v nothing ≡ true → arguments_of v re im ≡ arguments_of nothing re im
unfolding arguments_of
order_same v re im e = ap (λ (w : Float). record { order = w; z = record { re = normalised_of re; im = im }; modulus = modulus_of (record { re = normalised_of re; im = im }) }) (same-zero v e)

part_same : (v re im : Float) → eq re nothing ≡ true → arguments_of v re im ≡ arguments_of v nothing im
unfolding arguments_of
part_same v re im e = ap (λ (x : Float). record { order = normalised_of v; z = record { re = x; im = im }; modulus = modulus_of (record { re = x; im = im }) }) (same-zero re e)

module _ (scaled turned : Bool) (v re im : Float) (length : ℕ) where
  pub k-order : eq v nothing ≡ true → k_outcome scaled v re im length ≡ k_outcome scaled nothing re im length
  unfolding k_outcome
  k-order e = ap (λ (a : Arguments). call_outcome (k_checks a length) length (k_steps scaled a length)) (order_same v re im e)

  pub k-part : eq re nothing ≡ true → k_outcome scaled v re im length ≡ k_outcome scaled v nothing im length
  unfolding k_outcome
  k-part e = ap (λ (a : Arguments). call_outcome (k_checks a length) length (k_steps scaled a length)) (part_same v re im e)

  pub series-order : eq v nothing ≡ true → series_outcome scaled turned v re im length ≡ series_outcome scaled turned nothing re im length
  unfolding series_outcome
  series-order e = ap (λ (a : Arguments). call_outcome (series_checks a length) length (visit_steps (visited_by scaled turned a length))) (order_same v re im e)

  pub series-part : eq re nothing ≡ true → series_outcome scaled turned v re im length ≡ series_outcome scaled turned v nothing im length
  unfolding series_outcome
  series-part e = ap (λ (a : Arguments). call_outcome (series_checks a length) length (visit_steps (visited_by scaled turned a length))) (part_same v re im e)
