-- The text of a refusal from its five pieces, and a line's frames in the lent buffer. Assumes nothing.
use mathlib.Core.Path.{◌≡◌, ap, ◌∙◌}
use mathlib.Core.List.{List, [], ◌∷◌, ◌++◌}
use Prim.Native.Nat.{ℕ, ◌+◌, ◌≤◌}
use native.Mathlib.Omega.{arith}
use lib.ListN.{length, take, drop}
use lib.Seq.{take_at}
use Rattle.wording.specs.Decimal.{Numbered}
use Rattle.splitting.specs.Lines.{newline}
use Rattle.frame.specs.Over.{over, offered}
use Rattle.frame.proofs.OverFacts.{offered-room}
use Rattle.sweeping.specs.Line.{line_swept, line_bytes}
use Rattle.sweeping.proofs.LineFacts.{needed-is, bytes_most}
use Rattle.sweep.specs.Text.{request_word, refusal_word, Told}
use Rattle.sweep.specs.Turn.{most_room}

-- ---- the five pieces
pub told :
    (k number : ℕ) (a b c d e : List ℕ) → a ≡ request_word → Numbered k a b → c ≡ b ++ refusal_word → Numbered number c d → e ≡ d ++ (newline ∷ []) →
    Told k number e
told k number a b c d e first second third fourth fifth =
    record {
      which = second.number;
      why = fourth.number;
      counted = second.decimal;
      numbered = fourth.decimal;
      spelled =
          fifth
          ∙ ap (λ (l : List ℕ). l ++ (newline ∷ []))
          (fourth.spelled
          ∙ ap (λ (l : List ℕ). l ++ fourth.number)
          (third ∙ ap (λ (l : List ℕ). l ++ refusal_word) (second.spelled ∙ ap (λ (l : List ℕ). l ++ second.number) first)));
    }

-- ---- the buffer has room for any line's frames, so that they are written
module _ (line d d' : List ℕ) (n : ℕ) (needed : n ≡ (line_swept line).needed) (room : most_room ≤ length d) where
  pub frames-room : n ≤ length d
  frames-room = omega (arith, needed-is line, bytes_most line)

  pub frames-are : d' ≡ offered (line_bytes line) d → take n d' ≡ line_bytes line
  unfolding over
  frames-are e =
      ap (take n) (e ∙ offered-room (line_bytes line) d (omega (arith, bytes_most line)))
      ∙ take_at (line_bytes line) (drop (0 + length (line_bytes line)) d) n (omega (arith, needed-is line))
