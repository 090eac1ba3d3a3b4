-- `gamma_ln::factors::factors` meets its contract: before each turn the state is that of `count` steps. Assumes nothing.
use mathlib.Core.Path.{◌≡◌, refl, sym, ap, ◌∙◌, subst}
use Prim.Native.Nat.{ℕ, ◌+◌}
use native.Mathlib.Numerals.{add-one}
use native.Mathlib.Omega.{arith}
use lib.Ieee.{Float}
use Rattle.laws.specs.Iterate.{iterate}
use Rattle.gamma_ln.specs.declared.factors.Multiplied.{Multiplied}
use Rattle.gamma_ln.specs.Factors.{with_factor, factors_of}
use Rattle.gamma_ln.proofs.factors.factors.Goals as goal

one_more : (z : Float) (n : ℕ) → with_factor z (factors_of z n) ≡ factors_of z (n + 1)
unfolding factors_of iterate
one_more z n = sym (ap (factors_of z) (add-one n))

pub loop-count-init : goal.loop-count-init
unfolding factors_of iterate
loop-count-init c = refl

pub loop-count-preserved : goal.loop-count-preserved
unfolding with_factor
loop-count-preserved c =
    let d = c in
    let z = d.args.z in
    rw d.from.ensures (ap (with_factor z) d.loop-count.invariant ∙ one_more z d.loop-count.count)

pub returns : goal.returns
returns c =
    let l = c.loop-count in
    let a = c.args in
    let e : l.count ≡ a.wanted = omega arith in
    subst (λ (n : ℕ). ◌≡◌ {A = Multiplied} (record { product = l.product; count = n }) (factors_of a.z n)) e l.invariant
