-- `lichenoar::lines::Buffers::take_byte` meets its contract: the line closed, or the byte kept. Assumes nothing.
use mathlib.Core.Path.{◌≡◌, sym, ap, ◌∙◌}
use mathlib.Core.List.{List, []}
use Prim.Native.Nat.{ℕ}
use Rattle.answering.specs.Feed.{step_of, closed_of}
use Rattle.answering.proofs.FeedFacts.{feed, step-newline, step_other}
use Rattle.lichenoar.proofs.lines.Buffers.take_byte.Goals as goal

-- the line closed, from what is known of each call
closed : (line h line' out out' : List ℕ) (b : ℕ) → b ≡ 10 → h ≡ line → out' ≡ closed_of h out → line' ≡ [] → feed line' out' ≡ step_of (feed line out) b
closed line h line' out out' b n e g k =
    ap (λ (l : List ℕ). feed l out') k ∙ ap (feed []) (g ∙ ap (λ (l : List ℕ). closed_of l out) e) ∙ sym (step-newline (feed line out) b n)

pub returns-then-b-eq-NEWLINE : goal.returns-then-b-eq-NEWLINE
returns-then-b-eq-NEWLINE c =
    let s = c.args.self.now in
    closed s.line _ _ s.out _ c.args.b c.if-b-eq-NEWLINE.true c.held.ensures.bytes c.close_line.ensures c.clear.ensures

pub returns-else-b-eq-NEWLINE : goal.returns-else-b-eq-NEWLINE
returns-else-b-eq-NEWLINE c =
    let s = c.args.self.now in
    ap (λ (l : List ℕ). feed l s.out) c.keep.ensures ∙ sym (step_other (feed s.line s.out) c.args.b c.if-b-eq-NEWLINE.false)
