-- `roots::sqrt::digits` meets its contract: the two arms give the scaled significand, which has 53 or 54 digits. Assumes nothing.
use mathlib.Core.Path.{◌≡◌, sym, ap, ◌∙◌}
use Prim.Native.Nat.{ℕ, ◌+◌, ◌*◌, ◌/◌, ◌%◌, ◌^◌, ◌≤◌, ◌<◌}
use native.Mathlib.Omega.{arith}
use Rattle.roots.specs.Seed.{folded}
use Rattle.roots.specs.Sqrt.{scaled, nearest_root}
use Rattle.roots.proofs.Significand.{low-scaled, high-scaled}
use Rattle.roots.proofs.sqrt.digits.Goals.{Joined-w-lt4503599627370496, then-w-lt4503599627370496, else-w-lt4503599627370496}
use Rattle.roots.proofs.sqrt.digits.Goals as goal

-- the shifts drop what stands above 53 digits
same : (u : ℕ) → (u + 2 ^ 52) * 2 ^ 11 % 2 ^ 64 / 2 ^ 11 ≡ folded u
same u = omega arith

-- what the code makes of the significand w of a pattern u, in either arm
Made : ℕ → ℕ → Type 0
Made u n = (n ≡ scaled (folded u)) × (2 ^ 52 ≤ n) × (n < 2 ^ 54)

low-made : (u n : ℕ) → let w = (u + 2 ^ 52) * 2 ^ 11 % 2 ^ 64 / 2 ^ 11 in w < 2 ^ 52 → n ≡ w + 2 ^ 52 → Made u n
unfolding Made
low-made u n h e = let w = (u + 2 ^ 52) * 2 ^ 11 % 2 ^ 64 / 2 ^ 11 in (e ∙ sym (low-scaled w h) ∙ ap scaled (same u), omega arith, omega arith)

high-made : (u n : ℕ) → let w = (u + 2 ^ 52) * 2 ^ 11 % 2 ^ 64 / 2 ^ 11 in 2 ^ 52 ≤ w → n ≡ w * 2 % 2 ^ 64 → Made u n
unfolding Made
high-made u n h e =
    let w = (u + 2 ^ 52) * 2 ^ 11 % 2 ^ 64 / 2 ^ 11 in
    let f : n ≡ w * 2 = omega arith in
    (f ∙ sym (high-scaled w h) ∙ ap scaled (same u), omega arith, omega arith)

number : (c : Joined-w-lt4503599627370496) → Made c.args.u c.if-w-lt4503599627370496.n
number c =
    let u = c.args.u in
    let n = c.if-w-lt4503599627370496.n in
    elim c.if-w-lt4503599627370496.branch [
      | then-w-lt4503599627370496 w ↦ low-made u n w.if-w-lt4503599627370496.true w.n-is
      | else-w-lt4503599627370496 w ↦ high-made u n w.if-w-lt4503599627370496.false w.n-is
    ]

pub nearest-requires : goal.nearest-requires
unfolding Made
nearest-requires c = let n = number c in (n.1, n.2)

pub returns : goal.returns
unfolding Made
returns c = c.nearest.ensures ∙ ap (λ (n : ℕ). nearest_root 53 (n * 2 ^ 52)) (number (goal.at.returns c).Joined-w-lt4503599627370496).0
