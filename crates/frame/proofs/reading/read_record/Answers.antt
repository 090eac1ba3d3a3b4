-- `frame::reading::read_record` meets its contract: each field is the number at its place. Assumes nothing.
use mathlib.Core.Path.{ap, ◌∙◌, subst}
use Prim.Native.Nat.{ℕ, ◌<◌}
use Rattle.frame.specs.Reading.{signed_word, record_at}
use Rattle.frame.proofs.WordFacts.{word_held}
use Rattle.frame.proofs.reading.read_record.Goals as goal

pub signed_word-requires : goal.signed_word-requires
signed_word-requires c = c.short-2.ensures.1

pub returns : goal.returns
unfolding record_at
returns c =
    let word = c.short-2.ensures in
    let zeros = word_held _ (subst (λ (k : ℕ). k < 65536) word.0 word.1) c.signed_word.result (c.signed_word.ensures ∙ ap signed_word word.0) in
    simp (c.short-5.ensures.0, c.short-4.ensures.0, c.short-3.ensures.0, zeros, c.short.ensures.0)
