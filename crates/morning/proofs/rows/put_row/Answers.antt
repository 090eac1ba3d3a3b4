-- `morning::rows::put_row` meets its contract: three pieces, one behind the other. Assumes nothing.
use mathlib.Core.List.{[], ◌∷◌}
use native.Mathlib.Omega.{arith}
use Rattle.splitting.specs.Lines.{newline}
use Rattle.wording.specs.Decimal.{decimal_of}
use Rattle.wording.proofs.DecimalFacts.{numbered_is}
use Rattle.morning.specs.Rows.{row_of}
use Rattle.morning.proofs.RowFacts.{three, behind_length}
use Rattle.morning.proofs.rows.put_row.Goals as goal

pub returns : goal.returns
unfolding row_of
returns c =
    let a = c.args in
    let f = behind_length a.text.now a.word.now c.put.new.self c.put.ensures in
    let l = behind_length c.put_number.new.self (10 ∷ []) c.put-2.new.self c.put-2.ensures in (
      omega (arith, f, l, c.put_number.ensures.room, c.requires),
      three a.text.now a.word.now (decimal_of a.n) (newline ∷ []) _ _ _ c.put.ensures (numbered_is a.n _ _ (omega (arith, c.ranges.n.fits)) c.put_number.ensures.number) c.put-2.ensures,
    )
