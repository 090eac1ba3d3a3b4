-- One read after the others, and what the whole run comes to. Assumes nothing.
use mathlib.Core.Path.{◌≡◌, ap, ◌∙◌, subst}
use mathlib.Core.List.{List, [], ◌∷◌, ◌++◌}
use Prim.Native.Nat.{ℕ, ◌+◌, ◌≤◌, ◌<◌, min}
use native.Mathlib.Omega.{arith}
use lib.IntN.{pos, negsuc}
use lib.ListN.{length, take}
use lib.Seq.{take_all}
use Rattle.splitting.specs.Lines.{last_of, lines_of}
use Rattle.splitting.specs.Cut.{ended_in}
use Rattle.splitting.specs.Count.{counted}
use Rattle.splitting.proofs.CutFacts.{lines-parts}
use Rattle.splitting.proofs.StateFacts.{status-zero}
use Rattle.splitting.specs.declared.state.State.TheVariants.{Going, Whole, Unread}
use Rattle.page.specs.Layout.{most_lines}
use Rattle.page.specs.Parts.{page_of}
use Rattle.page.specs.Joining.{empty_page}
use Rattle.page.proofs.PageFacts.{night}
use Rattle.morning.specs.declared.turn.Turn.{Turn}
use Rattle.morning.specs.Tally.{Grown}
use Rattle.morning.specs.Turn.{most_held, PassedTo, AtEnd, TakenSome, TakenRead, Reached, Served}
use Rattle.morning.proofs.TallyFacts.{grown-again, grown-shortened, too_many}
use Rattle.morning.proofs.PassedFacts.{passed_none, passed-again}

-- ---- by what a read reported and brought
module _ (held page : List ℕ) (n : ℕ) (line page' : List ℕ) (r : Turn) where
  pub taken-failed : (k : ℕ) (buffer : List ℕ) → r.state ≡ Unread → TakenRead (negsuc k) buffer held page n line page' r
  unfolding TakenRead
  taken-failed k buffer w = w

  pub taken-end : (buffer : List ℕ) → AtEnd held page n page' r → TakenRead (pos 0) buffer held page n line page' r
  unfolding TakenRead TakenSome
  taken-end buffer w = let e : 0 ≡ min 0 (length buffer) = omega arith in subst (λ (m : ℕ). TakenSome (take m buffer) held page n line page' r) e w

  some_bytes : (bytes : List ℕ) → 0 < length bytes → PassedTo held bytes page n line page' r → TakenSome bytes held page n line page' r
  unfolding TakenSome
  some_bytes [] e w = absurd (omega arith)
  some_bytes (b ∷ bytes) e w = w

  pub taken-bytes :
      (bytes : List ℕ) (k : ℕ) (buffer : List ℕ) → 0 < length bytes → k ≤ length buffer → bytes ≡ take k buffer → PassedTo held bytes page n line page' r →
      TakenRead (pos k) buffer held page n line page' r
  unfolding TakenRead
  taken-bytes bytes k buffer some room same w =
      let e : k ≡ min k (length buffer) = omega arith in
      subst (λ (l : List ℕ). TakenSome l held page n line page' r) (same ∙ ap (λ (m : ℕ). take m buffer) e) (some_bytes bytes some w)

-- ---- what was read so far
pub reached-none : Reached [] empty_page 0
reached-none = record { input = []; passed = passed_none [] empty_page 0 }

-- ---- the end of all
pub unread : (page : List ℕ) (r : Turn) → r.state ≡ Unread → Served page r
unread page r e =
    record {
      input = [];
      paged = λ w. absurd (let z : ◌≡◌ {A = ℕ} 0 1 = cc in omega arith);
      refused = λ w. absurd (let z : ◌≡◌ {A = ℕ} 0 1 = cc in omega arith);
      over = λ w. let z : ◌≡◌ {A = ℕ} 0 1 = cc in omega arith;
      clean = λ k. absurd (let s = (status-zero r.state r.refused k).0 in let z : ◌≡◌ {A = ℕ} 0 1 = cc in omega arith);
    }

module _ (input page : List ℕ) (r : Turn) (w : r.state ≡ Whole) (g : Grown (lines_of input) empty_page 0 page r.refused) where
  few : r.refused ≡ 0 → length (lines_of input) ≤ most_lines
  few z = let e = too_many (lines_of input) in omega (arith, g.refused)

  pub whole : Served page r
  whole =
      record {
        input = input;
        paged = λ s. g.paged ∙ night (lines_of input);
        refused = λ s. g.refused ∙ ap (λ (n : ℕ). counted (0 + n)) (too_many (lines_of input));
        over = λ s. let z : ◌≡◌ {A = ℕ} 0 1 = cc in omega arith;
        clean =
            λ k.
            g.paged
            ∙ night (lines_of input)
            ∙ ap page_of (take_all most_lines (lines_of input) (few (status-zero r.state r.refused k).1));
      }

module _ (line page : List ℕ) (refused : ℕ) (before : Reached line page refused) (line' page' : List ℕ) (r : Turn) where
  abbrev so_far : List ℕ
  so_far = before.input

  -- the last line: a line that is longer than what is held of it counts as that does
  at-end : AtEnd line page refused page' r → Served page' r
  at-end e =
      whole so_far page' r e.ended
      (grown-shortened (lines_of so_far) empty_page 0 page' r.refused
      (subst (λ (ls : List (List ℕ)). Grown ls empty_page 0 page' r.refused)
      (ap (λ (h : List ℕ). ended_in most_held [] so_far ++ last_of h) before.passed.holds ∙ lines-parts most_held (omega arith) so_far)
      (grown-again (ended_in most_held [] so_far) (last_of line) empty_page 0 page refused page' r.refused before.passed.grown e.grown)))

  -- one read more, and it goes on
  more : (bytes : List ℕ) → PassedTo line bytes page refused line' page' r → Reached line' page' r.refused
  more bytes p =
      record {
        input = so_far ++ bytes;
        passed = passed-again [] so_far bytes empty_page 0 line page refused line' page' r.refused before.passed p.passed;
      }

  -- ---- one step more: it goes on, or it is over
  abbrev Steps : Type 0
  Steps = (r.state ≡ Going → Reached line' page' r.refused) × ((r.state ≡ Going → ⊥) → Served page' r)

  pub on-bytes : (bytes : List ℕ) → PassedTo line bytes page refused line' page' r → Steps
  on-bytes bytes w = (λ g. more bytes w, λ o. absurd (o w.going))

  pub on-end : AtEnd line page refused page' r → Steps
  on-end w = (λ g. absurd (let z : ◌≡◌ {A = ℕ} 0 1 = cc w.ended in omega arith), λ o. at-end w)
