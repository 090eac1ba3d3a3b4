-- `temme::seeds::start` meets its contract: where nothing is divided the two terms are facts by computation. Assumes nothing.
use Rattle.temme.specs.Seeds.{start_of}
use Rattle.temme.proofs.StartAtZero.{neg-at-zero, pos-at-zero}
use Rattle.temme.proofs.seeds.start.Goals as goal

pub returns-then-exp-2 : goal.returns-then-exp-2
unfolding start_of
returns-then-exp-2 c =
    let exp = c.args.exp in
    let F = c.struct_known-then-g-2-1.given.0 in
    let G = c.struct_known-then-exp-1.given.1.0 in
    let one = c.if-exp.true in
    let zero = c.if-exp-2.true in
    simp (
      c.begun.ensures,
      neg-at-zero exp c.args.g.plus F G c.struct_known-1.given.1.0 one zero c.if-g.true,
      pos-at-zero exp c.args.g.minus F G c.struct_known-then-g-1.given.1.1.0 one zero c.if-g-2.true,
      c.times_real-temme_coeff.ensures,
      c.plus.ensures,
      c.times_real-2.ensures,
      c.times_real.ensures,
    )

pub returns : goal.returns
unfolding start_of
returns c =
    simp (
      c.begun-2.ensures,
      c.over_real-pos_order_term.ensures,
      c.real_over.ensures,
      c.over_real-neg_order_term.ensures,
      c.times_real-3.ensures,
      c.times_real-temme_coeff.ensures,
      c.plus.ensures,
      c.times_real-2.ensures,
      c.times_real.ensures,
    )
