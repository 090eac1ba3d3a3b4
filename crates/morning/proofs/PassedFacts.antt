-- Bytes after others: what they leave is held, and the lines that they end are counted. Assumes nothing.
use mathlib.Core.Path.{◌≡◌, refl, sym, ap, ◌∙◌, subst}
use mathlib.Core.Bool.{Bool, true, false}
use mathlib.Core.List.{List, [], ◌∷◌, ◌++◌}
use Prim.Native.Nat.{ℕ, ◌+◌, ◌-◌, ◌≤◌, ◌<◌}
use native.Mathlib.Omega.{arith}
use lib.Dec.{T}
use lib.ListN.{length, take, drop}
use lib.Seq.{take_all}
use Rattle.splitting.specs.Lines.{last_of}
use Rattle.splitting.specs.Cut.{closed_if, left_if, left_by, ended_in, part_of, Taken}
use Rattle.splitting.specs.Count.{counted}
use Rattle.splitting.proofs.CutFacts.{last_some, left-append, ended-append}
use Rattle.splitting.proofs.KeepFacts.{part-more}
use Rattle.page.specs.Joining.{line_number, line_page}
use Rattle.morning.specs.Ahead.{LineAhead}
use Rattle.morning.specs.Tally.{one_unless, refused_by, Grown}
use Rattle.splitting.specs.declared.state.State.TheVariants.{Going}
use Rattle.morning.specs.declared.turn.Turn.{Turn}
use Rattle.morning.specs.Turn.{most_held, Settled, Passed, PassedTo}
use Rattle.morning.proofs.AheadFacts.{line-left, line-ended}
use Rattle.morning.proofs.TallyFacts.{grown-none, grown-one, grown-again}

-- ---- no bytes, and some after others
pub passed_none : (h page : List ℕ) (n : ℕ) → Passed h [] page n h page n
unfolding left_by ended_in
passed_none h page n = record { holds = refl; grown = grown-none page n }

pub passed-again :
    (h a b p : List ℕ) (x : ℕ) (line q : List ℕ) (y : ℕ) (line' r : List ℕ) (z : ℕ) →
    Passed h a p x line q y → Passed line b q y line' r z → Passed h (a ++ b) p x line' r z
passed-again h a b p x line q y line' r z f g =
    record {
      holds = g.holds ∙ ap (λ (l : List ℕ). left_by most_held l b) f.holds ∙ left-append most_held h a b;
      grown =
          subst (λ (ls : List (List ℕ)). Grown ls p x r z)
          (ap (λ (l : List ℕ). ended_in most_held h a ++ ended_in most_held l b) f.holds ∙ ended-append most_held h a b)
          (grown-again (ended_in most_held h a) (ended_in most_held line b) p x q y r z f.grown g.grown);
    }

-- ---- a line added and counted, from what is known of each call
pub line-added : (page page' line line' : List ℕ) → line' ≡ line → page' ≡ line_page page line' → page' ≡ line_page page line
line-added page page' line line' e f = f ∙ ap (line_page page) e

pub line_tallied :
    (page line line' : List ℕ) (n before after : ℕ) → line' ≡ line → n ≡ line_number page line' → after ≡ counted (before + one_unless n) →
    after ≡ counted (before + refused_by page line)
line_tallied page line line' n before after e f g = g ∙ ap (λ (m : ℕ). counted (before + one_unless m)) (f ∙ ap (line_number page) e)

-- ---- a line as far as it is held
module _ (held page : List ℕ) (before : ℕ) where
  pub settled-ended :
      (ended : Bool) (line page' : List ℕ) (after : ℕ) → ended ≡ true → page' ≡ line_page page held → after ≡ counted (before + refused_by page held) → line ≡ [] →
      Settled ended held page before line page' after
  unfolding closed_if left_if
  settled-ended true line page' after e p r n = record { holds = n; grown = grown-one held page before page' after p r }
  settled-ended false line page' after e p r n = absurd (subst T (sym e) tt)

  pub settled-held : (ended : Bool) → ended ≡ false → Settled ended held page before held page before
  unfolding closed_if left_if
  settled-held true e = absurd (subst T e tt)
  settled-held false e = record { holds = refl; grown = grown-none page before }

-- ---- bytes one by one, as far as a line's end
pub passed-bytes :
    (bytes h held : List ℕ) (ended : Bool) (page : List ℕ) (before : ℕ) (line page' : List ℕ) (after : ℕ) → Taken ended most_held h bytes held →
    Settled ended held page before line page' after → Passed h bytes page before line page' after
passed-bytes bytes h held ended page before line page' after t s =
    record {
      holds = s.holds ∙ sym t.1;
      grown = subst (λ (ls : List (List ℕ)). Grown ls page before page' after) (sym t.0) s.grown;
    }

-- ---- a whole line of digits
pub passed-line :
    (chunk line : List ℕ) (at n k : ℕ) (page : List ℕ) (before : ℕ) (page' : List ℕ) (after : ℕ) → LineAhead chunk at n → length line ≡ 0 → k ≡ n →
    page' ≡ line_page page (take k (drop at chunk)) → after ≡ counted (before + refused_by page (take k (drop at chunk))) →
    Passed line (part_of chunk at (at + n + 1)) page before line page' after
passed-line chunk line at n k page before page' after a z e p r =
    let none : line ≡ [] = empty line z in
    record {
      holds = none ∙ sym (ap (λ (h : List ℕ). left_by most_held h (part_of chunk at (at + n + 1))) none ∙ line-left chunk at n a);
      grown =
          subst (λ (ls : List (List ℕ)). Grown ls page before page' after)
          (ap (λ (m : ℕ). take m (drop at chunk) ∷ []) e ∙ sym (ap (λ (h : List ℕ). ended_in most_held h (part_of chunk at (at + n + 1))) none ∙ line-ended chunk at n a))
          (grown-one (take k (drop at chunk)) page before page' after p r);
    }
  where
    empty : (l : List ℕ) → length l ≡ 0 → l ≡ []
    empty [] e = refl
    empty (b ∷ l) e = absurd (omega arith)

-- ---- a chunk, as far as it is taken
pub record Consumed (chunk h p : List ℕ) (x : ℕ) (line q : List ℕ) (at : ℕ) (last : Turn) : Type 0 where
  pub high : at ≤ length chunk
  pub going : last.state ≡ Going
  pub passed : Passed h (part_of chunk 0 at) p x line q last.refused

pub consumed-more :
    {chunk h p : List ℕ} {x : ℕ} {line q : List ℕ} {at : ℕ} {last : Turn} (line' r : List ℕ) (next : ℕ) (t : Turn) → Consumed chunk h p x line q at last →
    at < next → next ≤ length chunk → Passed line (part_of chunk at next) q last.refused line' r t.refused → t.state ≡ last.state →
    Consumed chunk h p x line' r next t
consumed-more {chunk} {h} {p} {x} {line} {q} {at} {last} line' r next t c low high w s =
    record {
      high = high;
      going = s ∙ c.going;
      passed =
          subst (λ (b : List ℕ). Passed h b p x line' r t.refused) (part-more chunk 0 at next (omega arith) (omega arith))
          (passed-again h (part_of chunk 0 at) (part_of chunk at next) p x line q last.refused line' r t.refused c.passed w);
    }

pub consumed-all :
    {chunk h p : List ℕ} {x : ℕ} {line q : List ℕ} {at : ℕ} {last : Turn} → Consumed chunk h p x line q at last → length chunk ≤ at → PassedTo h chunk p x line q last
consumed-all {chunk} {h} {p} {x} {line} {q} {at} {last} c e =
    record {
      going = c.going;
      passed = subst (λ (b : List ℕ). Passed h b p x line q last.refused) (take_all (at - 0) chunk (omega arith)) c.passed;
    }

-- ---- the last line, as if its newline had come
pub no-last-line : (held page : List ℕ) (n : ℕ) → length held ≡ 0 → Grown (last_of held) page n page n
unfolding last_of
no-last-line [] page n e = grown-none page n
no-last-line (b ∷ held) page n e = absurd (omega arith)

pub last_line :
    (held page : List ℕ) (before : ℕ) (page' : List ℕ) (after : ℕ) → 0 < length held → page' ≡ line_page page held →
    after ≡ counted (before + refused_by page held) → Grown (last_of held) page before page' after
last_line held page before page' after some p r =
    subst (λ (ls : List (List ℕ)). Grown ls page before page' after) (sym (last_some held some)) (grown-one held page before page' after p r)
