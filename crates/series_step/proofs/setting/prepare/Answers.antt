-- `series_step::setting::prepare` meets its contract: each field is its definition. Assumes nothing.
use Rattle.series_step.specs.Setting.{half_square, setting_of}
use Rattle.series_step.proofs.setting.prepare.Goals as goal

pub returns : goal.returns
unfolding half_square setting_of
returns c =
    let d = c in
    simp (c.ln.ensures, c.two_over_with.ensures, d.turn.ensures, d.square_of.ensures, d.mul-half.ensures)
