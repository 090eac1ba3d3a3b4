-- Lines counted one after the other, lines that are shortened, and lines too many. Assumes nothing.
use mathlib.Core.Path.{◌≡◌, refl, sym, ap, ◌∙◌}
use mathlib.Core.Bool.{Bool, true, false, cond, ◌&&◌}
use mathlib.Core.List.{List, [], ◌∷◌, ◌++◌}
use Prim.Native.Nat.{ℕ, ◌+◌, ◌-◌, ◌%◌, ◌≤◌, ◌<◌}
use native.Mathlib.Omega.{arith}
use borrow.Author.Tests.{lt-leb, ne_eqb, ltb-true, ltb-false}
use lib.Dec.{ltb, leb, eqb}
use lib.ListN.{length, take, length-append, length-take}
use lib.Seq.{take_all}
use Rattle.splitting.specs.Cut.{shortened}
use Rattle.splitting.specs.Count.{counted}
use Rattle.splitting.proofs.CountFacts.{adds_none, adds_again}
use Rattle.std.specs.Prelude.{Option, None, Some}
use Rattle.frame.specs.declared.reading.Record.{Record}
use Rattle.frame.specs.Layout.{byte_width, number_at, record_length, longest_pairs, pair_width}
use Rattle.frame.specs.Digits.{are_digits, field_of}
use Rattle.frame.specs.Reading.{record_at, rest_inside, layout_kept, reading_of}
use Rattle.page.specs.Layout.{most_lines}
use Rattle.page.specs.Saying.{said_in, said_by}
use Rattle.page.specs.Parts.{page_of, one_page}
use Rattle.page.specs.Joining.{empty_page, join_number, join_page, line_number, line_page, lines_page}
use Rattle.page.proofs.SaidFacts.{line-number, line-page}
use Rattle.page.proofs.PageFacts.{page-empty, line-more, line-beyond}
use Rattle.morning.specs.Tally.{one_unless, refused_by, refused_in, Grown}
use Rattle.morning.specs.Turn.{most_held}

-- ---- no lines, one line, and some after others
pub grown-none : (page : List ℕ) (n : ℕ) → Grown [] page n page n
unfolding lines_page refused_in
grown-none page n = record { paged = refl; refused = adds_none n }

pub grown-one :
    (line page : List ℕ) (before : ℕ) (page' : List ℕ) (after : ℕ) → page' ≡ line_page page line → after ≡ counted (before + refused_by page line) →
    Grown (line ∷ []) page before page' after
unfolding lines_page refused_in
grown-one line page before page' after e f = record { paged = e; refused = omega arith }

page-append : (page : List ℕ) (a b : List (List ℕ)) → lines_page (lines_page page a) b ≡ lines_page page (a ++ b)
unfolding lines_page
page-append page [] b = refl
page-append page (l ∷ a) b = page-append (line_page page l) a b

refused-append : (page : List ℕ) (a b : List (List ℕ)) → refused_in page (a ++ b) ≡ refused_in page a + refused_in (lines_page page a) b
unfolding refused_in lines_page
refused-append page [] b = omega arith
refused-append page (l ∷ a) b = let e = refused-append (line_page page l) a b in omega arith

pub grown-again :
    (a b : List (List ℕ)) (p : List ℕ) (x : ℕ) (q : List ℕ) (y : ℕ) (r : List ℕ) (z : ℕ) → Grown a p x q y → Grown b q y r z → Grown (a ++ b) p x r z
grown-again a b p x q y r z g h =
    record {
      paged = h.paged ∙ ap (λ (l : List ℕ). lines_page l b) g.paged ∙ page-append p a b;
      refused =
          adds_again x (refused_in p a) y (refused_in q b) z g.refused h.refused
          ∙ ap (λ (l : List ℕ). counted (x + (refused_in p a + refused_in l b))) g.paged
          ∙ ap (λ (n : ℕ). counted (x + n)) (sym (refused-append p a b));
    }

-- ---- a line of more than 16,402 bytes says no more than its first 16,403 do
rest-beyond : (number rest : ℕ) → longest_pairs < rest → rest_inside number rest ≡ false
unfolding rest_inside
rest-beyond number rest h = go (eqb number 0)
  where
    none : (b c : Bool) → (b && (false && c)) ≡ false
    none true c = refl
    none false c = refl

    go : (b : Bool) → cond b (ltb 0 rest && (leb rest longest_pairs && eqb (rest % pair_width) 0)) (eqb rest 0) ≡ false
    go true = ap (λ (c : Bool). ltb 0 rest && (c && eqb (rest % pair_width) 0)) (lt-leb rest longest_pairs h) ∙ none (ltb 0 rest) (eqb (rest % pair_width) 0)
    go false = ne_eqb rest 0 (λ e. omega arith)

none_kept : (a b : Bool) (r : Option Record) → cond (a && (b && false)) r None ≡ None
none_kept true true r = refl
none_kept true false r = refl
none_kept false b r = refl

long-unread : (line : List ℕ) → most_held ≤ length line → reading_of line ≡ None
unfolding reading_of layout_kept
long-unread line h =
    ap (λ (c : Bool). cond (leb record_length (length line) && (are_digits line && c)) (Some (record_at line)) None)
    (rest-beyond (field_of number_at byte_width line) (length line - record_length) (omega arith))
    ∙ none_kept (leb record_length (length line)) (are_digits line) (Some (record_at line))

reading-kept : (line : List ℕ) → reading_of (take most_held line) ≡ reading_of line
reading-kept line = go (ltb (length line) most_held) refl
  where
    go : (b : Bool) → ltb (length line) most_held ≡ b → reading_of (take most_held line) ≡ reading_of line
    go true e = let h = ltb-true (length line) most_held e in ap reading_of (take_all most_held line (omega arith))
    go false e =
        let h = ltb-false (length line) most_held e in
        let l = length-take most_held line in
        long-unread (take most_held line) (omega arith) ∙ sym (long-unread line h)

module _ (page line : List ℕ) where
  number-kept : line_number page (take most_held line) ≡ line_number page line
  unfolding said_by
  number-kept =
      line-number page (take most_held line)
      ∙ ap (λ (s : Option Record). join_number page (one_page (said_in s))) (reading-kept line)
      ∙ sym (line-number page line)

  page-kept : line_page page (take most_held line) ≡ line_page page line
  unfolding said_by
  page-kept =
      line-page page (take most_held line)
      ∙ ap (λ (s : Option Record). join_page page (one_page (said_in s))) (reading-kept line)
      ∙ sym (line-page page line)

lines-kept : (page : List ℕ) (ls : List (List ℕ)) → lines_page page (shortened most_held ls) ≡ lines_page page ls
unfolding lines_page shortened
lines-kept page [] = refl
lines-kept page (l ∷ ls) = ap (λ (p : List ℕ). lines_page p (shortened most_held ls)) (page-kept page l) ∙ lines-kept (line_page page l) ls

refused-kept : (page : List ℕ) (ls : List (List ℕ)) → refused_in page (shortened most_held ls) ≡ refused_in page ls
unfolding refused_in shortened
refused-kept page [] = refl
refused-kept page (l ∷ ls) =
    ap (λ (n : ℕ). one_unless n + refused_in (line_page page (take most_held l)) (shortened most_held ls)) (number-kept page l)
    ∙ ap (λ (p : List ℕ). refused_by page l + refused_in p (shortened most_held ls)) (page-kept page l)
    ∙ ap (λ (n : ℕ). refused_by page l + n) (refused-kept (line_page page l) ls)

pub grown-shortened : (ls : List (List ℕ)) (p : List ℕ) (x : ℕ) (q : List ℕ) (y : ℕ) → Grown (shortened most_held ls) p x q y → Grown ls p x q y
grown-shortened ls p x q y g =
    record { paged = g.paged ∙ lines-kept p ls; refused = g.refused ∙ ap (λ (n : ℕ). counted (x + n)) (refused-kept p ls) }

-- ---- lines too many
beyond : (done ls : List (List ℕ)) → length done ≤ most_lines → refused_in (page_of done) ls ≡ length done + length ls - most_lines
unfolding refused_in
beyond done [] h = omega arith
beyond done (l ∷ ls) h = go (ltb (length done) most_lines) refl (λ k. beyond (done ++ (l ∷ [])) ls k) (beyond done ls h)
  where
    go :
        (b : Bool) → ltb (length done) most_lines ≡ b →
        (length (done ++ (l ∷ [])) ≤ most_lines → refused_in (page_of (done ++ (l ∷ []))) ls ≡ length (done ++ (l ∷ [])) + length ls - most_lines) →
        refused_in (page_of done) ls ≡ length done + length ls - most_lines →
        refused_by (page_of done) l + refused_in (line_page (page_of done) l) ls ≡ length done + length (l ∷ ls) - most_lines
    go true e on stay =
        let k = ltb-true (length done) most_lines e in
        let m = line-more done l k in
        let n = length-append done (l ∷ []) in
        let r = on (omega arith) in
        ap (λ (x : ℕ). one_unless x + refused_in (line_page (page_of done) l) ls) m.0
        ∙ ap (λ (p : List ℕ). 0 + refused_in p ls) m.1
        ∙ omega arith
    go false e on stay =
        let k = ltb-false (length done) most_lines e in
        let m = line-beyond done l k in
        ap (λ (x : ℕ). one_unless x + refused_in (line_page (page_of done) l) ls) m.0
        ∙ ap (λ (p : List ℕ). 1 + refused_in p ls) m.1
        ∙ omega arith

pub too_many : (ls : List (List ℕ)) → refused_in empty_page ls ≡ length ls - most_lines
too_many ls = ap (λ (p : List ℕ). refused_in p ls) page-empty ∙ beyond [] ls (omega arith) ∙ omega arith
