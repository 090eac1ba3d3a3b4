-- `sweep::answer::refuse` meets its contract: told under its number, or a write that failed. Assumes nothing.
use mathlib.Core.Path.{refl, sym, subst, ◌∙◌}
use mathlib.Core.List.{List}
use Prim.Native.Nat.{ℕ}
use mathlib.Core.Logic.{inl}
use native.Mathlib.Omega.{arith}
use Rattle.refusal.proofs.Distinct.{never-zero}
use Rattle.sweep.specs.Text.{Told}
use Rattle.sweep.proofs.TurnFacts.{grown-refused}
use Rattle.sweep.proofs.answer.refuse.Goals as goal

pub returns : goal.returns
returns c =
    let a = c.args in
    let some = never-zero a.refusal in
    inl (record {
      going = refl;
      grown =
          grown-refused a.line.now a.turn _ c.say-told.result (omega (arith, c.requires)) (omega (arith, c.if-told-lt1.false, c.say-told.ensures)) c.count-k.ensures c.count.ensures
          refl;
    })

pub say-told-requires : goal.say-told-requires
say-told-requires c =
    let k = c.count-k.result in
    let n = c.number-number in (
      subst (λ (l : List ℕ). Told k n.result l) (sym c.as_bytes.ensures)
          (subst (λ (m : ℕ). Told k m c.refusal_text-text.result) c.from.ensures c.refusal_text-text.ensures),
      c.count-k.ensures,
      n.ensures ∙ c.requires,
      omega (arith, never-zero c.args.refusal, n.ensures),
    )
