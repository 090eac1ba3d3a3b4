-- What is known of a line that is read, and the page of one line. Assumes nothing.
use Rattle.std.proofs.Common.{Option, None, Some}
use mathlib.Core.Path.{◌≡◌, refl, ap, ◌∙◌}
use mathlib.Core.Logic.{◌⊎◌, inl, inr}
use mathlib.Core.Bool.{Bool, true, false, cond, ◌&&◌, ◌||◌}
use mathlib.Core.List.{List, [], ◌∷◌}
use Prim.Native.Nat.{ℕ, ◌+◌, ◌≤◌, ◌<◌}
use native.Mathlib.Omega.{arith}
use borrow.Author.Tests.{le-leb, lt-leb, leb-true, eqb-true, ltb-true}
use lib.Dec.{ltb, leb, eqb}
use Rattle.refusal.specs.Number.{is_listed, number_of}
use Rattle.refusal.specs.declared.refusal.Refusal.TheVariants.{Full}
use Rattle.frame.specs.declared.reading.Record.{Record}
use Rattle.frame.proofs.DigitFacts.{both}
use Rattle.call.specs.Checks.{Admitted, Refused, number_given}
use Rattle.splitting.specs.Count.{total_of}
use Rattle.page.specs.Layout.{numbers, lines_at, cells, most_lines}
use Rattle.page.specs.Saying.{is_known, said_in, said_by, Known}
use Rattle.page.specs.Parts.{part_at, end_at, cell_of, one_page, page_of}
use Rattle.page.specs.Joining.{lines_in, is_room, join_number, join_page, joined_cells, line_number, line_page}
use Rattle.page.proofs.CellFacts.{up_to-get, up_to-same}

-- ---- a number that there is has a cell
either : (a b : Bool) → (a || b) ≡ true → (a ≡ true) ⊎ (b ≡ true)
either true b e = inl refl
either false b e = inr e

pub listed-few : (n : ℕ) → is_listed n ≡ true → (0 < n) × (n < numbers)
unfolding is_listed
listed-few n e =
    elim (either (ltb 0 n && leb n 13) (eqb n 15) e) [
      | inl k ↦ let t = both (ltb 0 n) (leb n 13) k in let low = ltb-true 0 n t.0 in let high = leb-true n 13 t.1 in (omega arith, omega arith)
      | inr k ↦ let q = eqb-true n 15 k in (omega arith, omega arith)
    ]

number-few : (n : ℕ) → (eqb n 0 || is_listed n) ≡ true → n < numbers
number-few n e = elim (either (eqb n 0) (is_listed n) e) [ inl k ↦ (let q = eqb-true n 0 k in omega arith) | inr k ↦ (listed-few n k).1 ]

record-known : (r : Record) → is_known r ≡ true → Known (Some r)
unfolding is_known Known
record-known r e =
    let t = both (leb r.longest_sum 19) (eqb r.number 0 || is_listed r.number) e in
    let l = leb-true r.longest_sum 19 t.0 in
    (number-few r.number t.1, omega arith)

pub said-known : (s : Option Record) → Known (said_in s)
unfolding said_in Known
said-known (Some r) = go (is_known r) refl
  where
    go : (b : Bool) → is_known r ≡ b → Known (cond b (Some r) None)
    go true e = record-known r e
    go false e = tt
said-known None = tt

-- ---- the page of one line
total-one : (f : List ℕ → ℕ) (line : List ℕ) → total_of f (line ∷ []) ≡ f line
unfolding total_of
total-one f line = omega arith

pub page-one : (line : List ℕ) → page_of (line ∷ []) ≡ one_page (said_by line)
unfolding page_of one_page cell_of
page-one line = up_to-same cells (λ i. total_of (λ l. part_at i (said_by l)) (line ∷ [])) (λ i. part_at i (said_by line)) (λ i h. total-one (λ l. part_at i (said_by l)) line)

pub line-part : (s : Option Record) → part_at lines_at s ≡ 1
unfolding part_at end_at
line-part s = refl

pub one_line : (s : Option Record) → lines_in (one_page s) ≡ 1
unfolding one_page
one_line s = up_to-get cells (λ i. part_at i s) lines_at (omega arith) ∙ line-part s

-- ---- the number of what is handed back
pub admitted-number : number_given Admitted ≡ 0
unfolding number_given
admitted-number = refl

pub refused-number : number_given (Refused Full) ≡ number_of Full
unfolding number_given
refused-number = refl

-- ---- where there is room and where there is none
module _ (a b : List ℕ) where
  pub room-number : is_room a b ≡ true → join_number a b ≡ 0
  unfolding join_number
  room-number e = simp e

  pub room-page : is_room a b ≡ true → join_page a b ≡ joined_cells a b
  unfolding join_page
  room-page e = simp e

  pub full-number : is_room a b ≡ false → join_number a b ≡ number_of Full
  unfolding join_number
  full-number e = simp e

  pub full-page : is_room a b ≡ false → join_page a b ≡ a
  unfolding join_page
  full-page e = simp e

module _ (page : List ℕ) (s : Option Record) where
  pub room-for-one : lines_in page < most_lines → is_room page (one_page s) ≡ true
  unfolding is_room
  room-for-one h = let e = one_line s in le-leb (lines_in page + lines_in (one_page s)) most_lines (omega arith)

  pub no-room-for-one : most_lines ≤ lines_in page → is_room page (one_page s) ≡ false
  unfolding is_room
  no-room-for-one h = let e = one_line s in lt-leb (lines_in page + lines_in (one_page s)) most_lines (omega arith)

-- ---- a line added, by what it says
pub line-number : (page line : List ℕ) → line_number page line ≡ join_number page (one_page (said_by line))
unfolding line_number
line-number page line = ap (join_number page) (page-one line)

pub line-page : (page line : List ℕ) → line_page page line ≡ join_page page (one_page (said_by line))
unfolding line_page
line-page page line = ap (join_page page) (page-one line)
