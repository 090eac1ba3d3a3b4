-- Joining pages, whatever their cells hold: its number exactly, and that where it is not refused its order and its grouping do not matter.
-- Assumes nothing.
use mathlib.Core.Path.{◌≡◌, refl, sym, ap, ◌∙◌}
use mathlib.Core.Logic.{◌⊎◌, inl, inr}
use mathlib.Core.Bool.{Bool, true, false}
use mathlib.Core.List.{List}
use Prim.Native.Nat.{ℕ, ◌+◌, ◌≤◌, ◌<◌, min}
use native.Mathlib.Omega.{arith}
use borrow.Author.Tests.{le-leb, lt-leb, leb-true, leb-false}
use lib.ListN.{length, get_or}
use Rattle.page.specs.Layout.{lines_at, cells, most_lines, most_cell}
use Rattle.page.specs.Joining.{added_to, joined_cells, lines_in, is_room, join_number, join_page}
use Rattle.page.proofs.CellFacts.{up_to-length, up_to-get, up_to-same, added-fits, added-min, added-over, added-comm}
use Rattle.page.proofs.SaidFacts.{room-number, room-page, full-number, full-page}

-- ---- a cell of two pages joined
module _ (a b : List ℕ) where
  pub joined_length : length (joined_cells a b) ≡ cells
  unfolding joined_cells
  joined_length = up_to-length cells (λ i. added_to (get_or a i 0) (get_or b i 0))

  pub joined-get : (i : ℕ) → i < cells → get_or (joined_cells a b) i 0 ≡ added_to (get_or a i 0) (get_or b i 0)
  unfolding joined_cells
  joined-get i h = up_to-get cells (λ k. added_to (get_or a k 0) (get_or b k 0)) i h

  -- ---- the number
  pub room : lines_in a + lines_in b ≤ most_lines → is_room a b ≡ true
  unfolding is_room
  room h = le-leb (lines_in a + lines_in b) most_lines h

  pub no_room : most_lines < lines_in a + lines_in b → is_room a b ≡ false
  unfolding is_room
  no_room h = lt-leb (lines_in a + lines_in b) most_lines h

  room-is : is_room a b ≡ true → lines_in a + lines_in b ≤ most_lines
  unfolding is_room
  room-is e = leb-true (lines_in a + lines_in b) most_lines e

  no-room-is : is_room a b ≡ false → most_lines < lines_in a + lines_in b
  unfolding is_room
  no-room-is e = leb-false (lines_in a + lines_in b) most_lines e

  -- 0 with every cell added, or 15 with the page as it was: by the lines alone
  pub outcome :
      ((lines_in a + lines_in b ≤ most_lines) × (join_number a b ≡ 0) × (join_page a b ≡ joined_cells a b))
      ⊎ ((most_lines < lines_in a + lines_in b) × (join_number a b ≡ 15) × (join_page a b ≡ a))
  outcome = go (is_room a b) refl
    where
      go :
          (t : Bool) → is_room a b ≡ t →
          ((lines_in a + lines_in b ≤ most_lines) × (join_number a b ≡ 0) × (join_page a b ≡ joined_cells a b))
          ⊎ ((most_lines < lines_in a + lines_in b) × (join_number a b ≡ 15) × (join_page a b ≡ a))
      go true e = inl (room-is e, room-number a b e, room-page a b e)
      go false e = inr (no-room-is e, full-number a b e, full-page a b e)

  pub joined-lines : lines_in a + lines_in b ≤ most_lines → lines_in (joined_cells a b) ≡ lines_in a + lines_in b
  joined-lines h = joined-get lines_at (omega arith) ∙ added-fits (lines_in a) (lines_in b) (omega arith)

-- ---- order
-- every cell is one that 64 bits hold
abbrev pub Fits : List ℕ → Type 0
Fits page = (i : ℕ) → get_or page i 0 ≤ most_cell

pub joined-cell : (a b : List ℕ) (i : ℕ) → i < cells → Fits a → Fits b → get_or (joined_cells a b) i 0 ≡ min (get_or a i 0 + get_or b i 0) most_cell
joined-cell a b i h f g = joined-get a b i h ∙ added-min (get_or a i 0) (get_or b i 0) (f i)

pub join-comm : (a b : List ℕ) → Fits a → Fits b → lines_in a + lines_in b ≤ most_lines → (join_number b a ≡ 0) × (join_page a b ≡ join_page b a)
unfolding joined_cells
join-comm a b f g h =
    let there = room a b h in
    let back = room b a (omega arith) in (
      room-number b a back,
      room-page a b there
          ∙ up_to-same cells (λ i. added_to (get_or a i 0) (get_or b i 0)) (λ i. added_to (get_or b i 0) (get_or a i 0)) (λ i k. added-comm (get_or a i 0) (get_or b i 0) (f i) (g i))
          ∙ sym (room-page b a back),
    )

-- ---- grouping
module _ (a b c : List ℕ) (h : lines_in a + lines_in b + lines_in c ≤ most_lines) where
  left : join_page a b ≡ joined_cells a b
  left = room-page a b (room a b (omega arith))

  right : join_page b c ≡ joined_cells b c
  right = room-page b c (room b c (omega arith))

  left-room : is_room (join_page a b) c ≡ true
  left-room = ap (λ (p : List ℕ). is_room p c) left ∙ room (joined_cells a b) c (let e = joined-lines a b (omega arith) in omega arith)

  right-room : is_room a (join_page b c) ≡ true
  right-room = ap (is_room a) right ∙ room a (joined_cells b c) (let e = joined-lines b c (omega arith) in omega arith)

  cells_over : joined_cells (joined_cells a b) c ≡ joined_cells a (joined_cells b c)
  unfolding joined_cells
  cells_over =
      up_to-same cells (λ i. added_to (get_or (joined_cells a b) i 0) (get_or c i 0)) (λ i. added_to (get_or a i 0) (get_or (joined_cells b c) i 0))
      (λ i k.
      ap (λ (n : ℕ). added_to n (get_or c i 0)) (joined-get a b i k)
      ∙ added-over (get_or a i 0) (get_or b i 0) (get_or c i 0)
      ∙ sym (ap (added_to (get_or a i 0)) (joined-get b c i k)))

  pub join-over : (join_number (join_page a b) c ≡ 0) × (join_number a (join_page b c) ≡ 0) × (join_page (join_page a b) c ≡ join_page a (join_page b c))
  join-over = (
    room-number (join_page a b) c left-room,
    room-number a (join_page b c) right-room,
    room-page (join_page a b) c left-room
        ∙ ap (λ (p : List ℕ). joined_cells p c) left
        ∙ cells_over
        ∙ ap (joined_cells a) (sym right)
        ∙ sym (room-page a (join_page b c) right-room),
  )
