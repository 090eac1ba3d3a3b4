-- `morning::rows::put_pair` meets its contract: a word, a number, and the rest of the row. Assumes nothing.
use mathlib.Core.List.{[], ◌∷◌}
use native.Mathlib.Omega.{arith}
use Rattle.wording.specs.Decimal.{decimal_of}
use Rattle.wording.proofs.DecimalFacts.{numbered_is}
use Rattle.morning.specs.Rows.{row_of, pair_of}
use Rattle.morning.proofs.RowFacts.{three, behind_length}
use Rattle.morning.proofs.rows.put_pair.Goals as goal

pub returns : goal.returns
unfolding pair_of
returns c =
    let a = c.args in
    let f = behind_length a.text.now a.word.now c.put.new.self c.put.ensures in (
      omega (arith, f, c.put_number.ensures.room, c.put_row.ensures.0, c.requires),
      three a.text.now a.word.now (decimal_of a.k) (row_of (32 ∷ []) a.n) _ _ _ c.put.ensures (numbered_is a.k _ _ (omega (arith, c.ranges.k.fits)) c.put_number.ensures.number)
          c.put_row.ensures.1,
    )
