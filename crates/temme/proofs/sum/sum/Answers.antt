-- `temme::sum::sum` meets its contract: before each turn the run that is left, from the state as it is, ends as the whole run does. Assumes nothing.
use mathlib.Core.Path.{◌≡◌, refl, sym, ap, ◌∙◌}
use Prim.Native.Nat.{ℕ, ◌+◌, ◌<◌}
use native.Mathlib.Omega.{arith}
use Rattle.machine.specs.Constants.{tolerance}
use Rattle.temme.specs.declared.sum.Fixed.{Fixed}
use Rattle.temme.specs.declared.sum.Terms.{Terms}
use Rattle.temme.specs.Sum.{next_terms, is_summed, sum_of}
use Rattle.temme.proofs.Counted.{left, left-start, left-next, left-stop, left_end}
use Rattle.temme.proofs.sum.sum.Invariants.{count}
use Rattle.temme.proofs.sum.sum.Goals as goal

counts : (g : Fixed) (s : Terms) → (next_terms g s).terms ≡ s.terms + 1
unfolding next_terms
counts g s = refl

pub loop-init : goal.loop-init
unfolding sum_of
loop-init c = record { counted = c.requires; rest = left-start is_summed (next_terms _) count 999 c.args.start c.requires }

pub returns-then-s : goal.returns-then-s
unfolding is_summed tolerance
returns-then-s c = sym (c.loop.invariant.rest ∙ left-stop is_summed (next_terms _) count 999 c.loop.s c.if-s.true)

pub next-s-requires : goal.next-s-requires
next-s-requires c = omega (arith, c.loop.invariant.counted)

pub loop-preserved : goal.loop-preserved
unfolding is_summed tolerance
loop-preserved c =
    let s = c.loop.s in
    let t : c.next-s.result.terms ≡ s.terms + 1 = ap count c.next-s.ensures ∙ counts _ s in
    let h : s.terms < 999 = omega (arith, c.loop.invariant.counted) in
    record {
      counted = t ∙ ap (λ (n : ℕ). n + 1) c.loop.invariant.counted;
      rest = c.loop.invariant.rest ∙ left-next is_summed (next_terms _) count 999 s (counts _ s) h c.if-s.false ∙ ap (left is_summed (next_terms _) count 999) (sym c.next-s.ensures);
    }

pub returns : goal.returns
returns c = sym (c.loop.invariant.rest ∙ left_end is_summed (next_terms _) count 999 c.loop.s (omega (arith, c.loop.invariant.counted)))
