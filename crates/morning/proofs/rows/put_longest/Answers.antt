-- `morning::rows::put_longest` meets its contract: row after row. Assumes nothing.
use mathlib.Core.Path.{sym, ap, ◌∙◌}
use mathlib.Core.List.{List, ◌++◌, append-nil}
use Prim.Native.Nat.{ℕ, ◌+◌}
use native.Mathlib.Numerals.{add-one}
use native.Mathlib.Omega.{arith}
use lib.ListN.{get_or}
use Rattle.page.specs.Layout.{longest_at}
use Rattle.morning.specs.Rows.{longest_word, pair_of, longest_rows}
use Rattle.morning.proofs.RowFacts.{two}
use Rattle.morning.proofs.rows.put_longest.Goals as goal

pub loop-l-init : goal.loop-l-init
unfolding longest_rows
loop-l-init c = record { long = omega arith; rows = sym (append-nil c.args.text.now) }

pub loop-l-preserved : goal.loop-l-preserved
unfolding longest_rows
loop-l-preserved c =
    let t = c.args.text.now in
    let page = c.args.page.now in
    let v = c.loop-l.invariant in
    record {
      long = omega (arith, v.long, c.put_pair.ensures.0);
      rows =
          two t (longest_rows c.loop-l.l page) (pair_of longest_word c.loop-l.l (get_or page (longest_at + c.loop-l.l) 0)) _ _ v.rows c.put_pair.ensures.1
          ∙ ap (λ (n : List ℕ). t ++ n) (sym (ap (λ (n : ℕ). longest_rows n page) (add-one c.loop-l.l)));
    }
