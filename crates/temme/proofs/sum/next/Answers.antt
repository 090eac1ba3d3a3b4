-- `temme::sum::next` meets its contract. Assumes nothing.
use native.Mathlib.Omega.{arith}
use Rattle.temme.specs.shapes.Shares.{share_of, shares_of}
use Rattle.temme.specs.Sum.{next_magnitude, next_terms}
use Rattle.temme.proofs.sum.next.Goals as goal

pub shares-share-requires : goal.shares-share-requires
shares-share-requires c = omega arith

pub returns : goal.returns
unfolding next_terms next_magnitude shares_of share_of
returns c =
    let e = c in
    let d = e in
    simp (
      c.plus-4.ensures,
      c.product-2.ensures,
      c.plus-3.ensures,
      c.product.ensures,
      e.minus-bracket.ensures,
      e.times_real-3.ensures,
      d.product-taylor_factor.ensures,
      d.times_real-2.ensures,
      d.times_real-pos_order_term.ensures,
      d.times_real-neg_order_term.ensures,
      d.times_real-temme_coeff.ensures,
      d.plus-2.ensures,
      d.plus.ensures,
      d.times_real.ensures,
      d.shares-share.ensures,
    )
