-- `Squares::next` meets its contract. Assumes nothing.
use Rattle.series_sum.specs.Sum.{next_estimate, next_sum}
use Rattle.series_sum.proofs.sum.Squares.next.Goals as goal

pub returns : goal.returns
unfolding next_estimate next_sum
returns c =
    let d = c in
    simp (d.add.ensures, d.mul-term.ensures, d.mul.ensures)
