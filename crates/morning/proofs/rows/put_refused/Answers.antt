-- `morning::rows::put_refused` meets its contract: row after row. Assumes nothing.
use mathlib.Core.Path.{sym, ap, ◌∙◌}
use mathlib.Core.List.{List, ◌++◌, append-nil}
use Prim.Native.Nat.{ℕ}
use native.Mathlib.Numerals.{add-one}
use native.Mathlib.Omega.{arith}
use Rattle.morning.specs.Rows.{number_row, refused_rows}
use Rattle.morning.proofs.RowFacts.{two}
use Rattle.morning.proofs.rows.put_refused.Goals as goal

pub loop-k-init : goal.loop-k-init
unfolding refused_rows
loop-k-init c = record { long = omega arith; rows = sym (append-nil c.args.text.now) }

pub loop-k-preserved : goal.loop-k-preserved
unfolding refused_rows
loop-k-preserved c =
    let t = c.args.text.now in
    let page = c.args.page.now in
    let v = c.loop-k.invariant in
    record {
      long = omega (arith, v.long, c.put_number_row.ensures.0);
      rows =
          two t (refused_rows c.loop-k.k page) (number_row c.loop-k.k page) _ _ v.rows c.put_number_row.ensures.1
          ∙ ap (λ (n : List ℕ). t ++ n) (sym (ap (λ (n : ℕ). refused_rows n page) (add-one c.loop-k.k)));
    }
