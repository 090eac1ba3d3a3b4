-- A chunk line after line, and the last line: what is held and what is counted. Assumes nothing.
use mathlib.Core.Path.{◌≡◌, refl, sym, ap, ◌∙◌, subst}
use mathlib.Core.Bool.{Bool, true, false}
use mathlib.Core.Logic.{inl, inr}
use mathlib.Core.List.{List, [], ◌∷◌, ◌++◌}
use Prim.Native.Nat.{ℕ, ◌-◌, ◌≤◌, ◌<◌}
use native.Mathlib.Omega.{arith}
use lib.Dec.{T}
use lib.ListN.{length}
use lib.Seq.{take_all}
use Rattle.splitting.specs.Lines.{last_of}
use Rattle.splitting.specs.Cut.{closed_if, left_if, left_by, ended_in, part_of, Taken}
use Rattle.splitting.proofs.CutFacts.{last_some, left-append, ended-append}
use Rattle.splitting.proofs.KeepFacts.{part-more}
use Rattle.splitting.specs.declared.state.State.TheVariants.{Going, Whole}
use Rattle.sweep.specs.declared.turn.Turn.{Turn}
use Rattle.sweep.specs.Turn.{most_held, Grown, ended_as, Answered, AfterLine, Rested, Settled, Passed, Ended}
use Rattle.sweep.proofs.TurnFacts.{grown-none, grown-as, grown-again}

-- ---- a line as far as it is held
module _ (held : List ℕ) (t : Turn) where
  pub settled-ended : (ended : Bool) (line : List ℕ) (r : Turn) → ended ≡ true → AfterLine held t r → line ≡ [] → Settled ended held t line r
  unfolding closed_if left_if
  settled-ended true line r e a n = elim a [ inl w ↦ inl (record { going = w.going; holds = n; grown = w.grown }) | inr w ↦ inr w ]
  settled-ended false line r e a n = absurd (subst T (sym e) tt)

  pub settled-held : (ended : Bool) → ended ≡ false → t.state ≡ Going → Settled ended held t held t
  unfolding closed_if left_if
  settled-held true e g = absurd (subst T e tt)
  settled-held false e g = inl (record { going = g; holds = refl; grown = grown-none t })

-- ---- a chunk: as far as it is taken, what it leaves is held, and the lines that it ends are counted
pub record Consumed (chunk h : List ℕ) (t : Turn) (line : List ℕ) (at : ℕ) (last : Turn) : Type 0 where
  pub high : at ≤ length chunk
  pub passed : Passed h (part_of chunk 0 at) t line last

pub consumed-none : (chunk h : List ℕ) (t : Turn) → t.state ≡ Going → Consumed chunk h t h 0 t
unfolding left_by ended_in
consumed-none chunk h t g = record { high = omega arith; passed = record { going = g; holds = refl; grown = grown-none t } }

module _ {chunk h : List ℕ} {t : Turn} {line : List ℕ} {at : ℕ} {last : Turn} (c : Consumed chunk h t line at last) where
  pub consumed-next :
      (ended : Bool) (next : ℕ) (held line' : List ℕ) (r : Turn) → at < next → next ≤ length chunk → Taken ended most_held line (part_of chunk at next) held →
      Rested ended held last line' r → Consumed chunk h t line' next r
  consumed-next ended next held line' r low high taken w =
      let so_far = part_of chunk 0 at in
      let both : so_far ++ part_of chunk at next ≡ part_of chunk 0 next = part-more chunk 0 at next (omega arith) (omega arith) in
      record {
        high = high;
        passed =
            record {
              going = w.going;
              holds =
                  w.holds
                  ∙ sym taken.1
                  ∙ ap (λ (l : List ℕ). left_by most_held l (part_of chunk at next)) c.passed.holds
                  ∙ left-append most_held h so_far (part_of chunk at next)
                  ∙ ap (left_by most_held h) both;
              grown =
                  subst (λ (ls : List (List ℕ)). Grown ls t r)
                  (ap (λ (l : List (List ℕ)). ended_in most_held h so_far ++ l)
                  (sym taken.0 ∙ ap (λ (l : List ℕ). ended_in most_held l (part_of chunk at next)) c.passed.holds)
                  ∙ ended-append most_held h so_far (part_of chunk at next)
                  ∙ ap (ended_in most_held h) both)
                  (grown-again (ended_in most_held h so_far) (closed_if ended held []) t last r c.passed.grown w.grown);
            };
      }

  pub consumed-all : length chunk ≤ at → Passed h chunk t line last
  consumed-all e = subst (λ (bytes : List ℕ). Passed h bytes t line last) (take_all (at - 0) chunk (omega arith)) c.passed

-- ---- the last line, as if its newline had come
module _ (held : List ℕ) (t r : Turn) where
  pub ends-without : length held ≡ 0 → r ≡ ended_as t Whole → Ended held t r
  unfolding last_of
  ends-without z e = go held z
    where
      go : (l : List ℕ) → length l ≡ 0 → Ended l t r
      go [] n = record { ended = ap (λ (x : Turn). x.state) e; grown = subst (Grown [] t) (sym e) (grown-as [] t t Whole (grown-none t)) }
      go (b ∷ l) n = absurd (omega arith)

  pub ends_with : (last : Turn) → 0 < length held → Answered held t last → r ≡ ended_as last Whole → Ended held t r
  ends_with last some a e =
      record {
        ended = ap (λ (x : Turn). x.state) e;
        grown =
            subst (λ (ls : List (List ℕ)). Grown ls t r) (sym (last_some held some))
            (subst (Grown (held ∷ []) t) (sym e) (grown-as (held ∷ []) t last Whole a.grown));
      }
