-- `lichenoar::lines::frame_ahead` meets its contract, test by test. Assumes nothing.
use mathlib.Core.Path.{sym, ◌∙◌}
use Prim.Native.Nat.{◌+◌, ◌-◌}
use native.Mathlib.Omega.{arith}
use Rattle.lichenoar.proofs.FrameFacts.{not-long, not-ended, by-reading}
use Rattle.lichenoar.proofs.lines.frame_ahead.Goals as goal

pub returns-then-chunk-at-lt-LINE_LENGTH : goal.returns-then-chunk-at-lt-LINE_LENGTH
returns-then-chunk-at-lt-LINE_LENGTH c = sym (not-long _ _ c.if-chunk-at-lt-LINE_LENGTH.true)

pub returns-then-chunk-at-ne-NEWLINE : goal.returns-then-chunk-at-ne-NEWLINE
returns-then-chunk-at-ne-NEWLINE c = sym (not-ended _ _ c.if-chunk-at-ne-NEWLINE.true)

pub returns : goal.returns
returns c =
    let i = c in
    let j = i in
    let s = j in
    c.read_asking.ensures ∙ by-reading s.args.chunk.now s.args.at (s.args.at + 56 - s.args.at) (omega arith) j.if-chunk-at-lt-LINE_LENGTH.false s.requires i.if-chunk-at-ne-NEWLINE.false
