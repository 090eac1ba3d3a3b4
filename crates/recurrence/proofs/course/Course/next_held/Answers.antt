-- `recurrence::course::Course::next_held` meets its contract: part by part, and the two tests. Assumes nothing.
use mathlib.Core.Path.{sym, ap, ◌∙◌}
use lib.IntN.{pos}
use lib.Ieee.{Float, binary64, of_int}
use Rattle.laws.specs.Operators.{◌⊕◌, ◌⊗◌}
use Rattle.complex.specs.Arithmetic.{times_real}
use Rattle.recurrence.specs.Rung.{factor_of, next_of}
use Rattle.recurrence.specs.shapes.Held.{held_of}
use Rattle.recurrence.proofs.StretchFacts.{not-held-re, not-held-im, held-parts}
use Rattle.recurrence.proofs.course.Course.next_held.Goals as goal

pub returns-then-outside : goal.returns-then-outside
unfolding factor_of times_real
returns-then-outside c =
    let a = c.args in
    not-held-re a.self.most (record { re = a.p; im = a.self.ladder.two_over_z.im ⊗ (a.self.ladder.base_order ⊕ of_int binary64 (pos a.i)) }) a.older a.newer (sym c.outside.ensures ∙ c.if-outside.true)
    ∙ ap (λ (x : Float). held_of a.self.most (next_of (record { re = x; im = a.self.ladder.two_over_z.im ⊗ (a.self.ladder.base_order ⊕ of_int binary64 (pos a.i)) }) a.older a.newer)) c.requires.ahead

pub returns-then-outside-2 : goal.returns-then-outside-2
unfolding factor_of times_real
returns-then-outside-2 c =
    let a = c.args in
    not-held-im a.self.most (record { re = a.p; im = a.self.ladder.two_over_z.im ⊗ (a.self.ladder.base_order ⊕ of_int binary64 (pos a.i)) }) a.older a.newer (sym c.outside.ensures ∙ c.if-outside.false) (sym c.outside-2.ensures ∙ c.if-outside-2.true)
    ∙ ap (λ (x : Float). held_of a.self.most (next_of (record { re = x; im = a.self.ladder.two_over_z.im ⊗ (a.self.ladder.base_order ⊕ of_int binary64 (pos a.i)) }) a.older a.newer)) c.requires.ahead

pub returns : goal.returns
unfolding factor_of times_real
returns c =
    let a = c.args in
    held-parts a.self.most (record { re = a.p; im = a.self.ladder.two_over_z.im ⊗ (a.self.ladder.base_order ⊕ of_int binary64 (pos a.i)) }) a.older a.newer (sym c.outside.ensures ∙ c.if-outside.false) (sym c.outside-2.ensures ∙ c.if-outside-2.false)
    ∙ ap (λ (x : Float). held_of a.self.most (next_of (record { re = x; im = a.self.ladder.two_over_z.im ⊗ (a.self.ladder.base_order ⊕ of_int binary64 (pos a.i)) }) a.older a.newer)) c.requires.ahead
