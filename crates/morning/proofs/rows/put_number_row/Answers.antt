-- `morning::rows::put_number_row` meets its contract: where the list has the number. Assumes nothing.
use mathlib.Core.Path.{◌≡◌, sym, ap, ◌∙◌}
use mathlib.Core.List.{List, [], ◌++◌, append-nil}
use Prim.Native.Nat.{ℕ}
use native.Mathlib.Omega.{arith}
use lib.ListN.{get_or}
use Rattle.morning.specs.Rows.{refused_word, pair_of, number_row}
use Rattle.morning.proofs.rows.put_number_row.Goals as goal

pub returns-then-is_listed : goal.returns-then-is_listed
unfolding number_row
returns-then-is_listed c =
    let a = c.args in
    let p = c.put_pair.ensures in
    let row : pair_of refused_word a.k (get_or a.page.now a.k 0) ≡ number_row a.k a.page.now = sym (simp (sym c.is_listed.ensures ∙ c.if-is_listed.true)) in
    (p.0, p.1 ∙ ap (λ (l : List ℕ). a.text.now ++ l) row)

pub returns-else-is_listed : goal.returns-else-is_listed
unfolding number_row
returns-else-is_listed c =
    let a = c.args in
    let none : [] ≡ number_row a.k a.page.now = sym (simp (sym c.is_listed.ensures ∙ c.if-is_listed.false)) in
    (omega arith, sym (append-nil a.text.now) ∙ ap (λ (l : List ℕ). a.text.now ++ l) none)
