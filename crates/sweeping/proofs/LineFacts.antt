-- A request line: what it comes to, in numbers; and that its first 93 bytes say all. Assumes nothing.
use mathlib.Core.Path.{◌≡◌, refl, sym, ap, ◌∙◌}
use mathlib.Core.Bool.{Bool, true, false}
use mathlib.Core.List.{List, []}
use Prim.Native.Nat.{ℕ, min, ◌≤◌, ◌<◌}
use native.Mathlib.Omega.{arith}
use borrow.Author.Tests.{ne_eqb, leb-true, leb-false}
use lib.Dec.{leb}
use lib.ListN.{length, take, length-take}
use lib.Seq.{take_all}
use Rattle.std.proofs.Common.{Option, None, Some}
use Rattle.sweeping.specs.declared.request.Request.{Request}
use Rattle.sweeping.specs.Line.{request_length, requested_of, swept_by, frames_in, line_swept, line_bytes}
use Rattle.sweeping.proofs.SweepFacts as sweeps

-- ---- by what was read
needed-by : (q : Option Request) → (swept_by q).needed ≡ length (frames_in q)
unfolding swept_by frames_in
needed-by (Some r) = sweeps.sweep-needed r
needed-by None = refl

most-by : (q : Option Request) → length (frames_in q) ≤ 233472
unfolding frames_in
most-by (Some r) = sweeps.sweep-most r
most-by None = omega arith

none-by : (q : Option Request) → 0 < (swept_by q).number → frames_in q ≡ []
unfolding swept_by frames_in
none-by (Some r) h = sweeps.refused_none r h
none-by None h = refl

-- ---- of a line
pub needed-is : (line : List ℕ) → (line_swept line).needed ≡ length (line_bytes line)
unfolding line_swept line_bytes
needed-is line = needed-by (requested_of line)

pub bytes_most : (line : List ℕ) → length (line_bytes line) ≤ 233472
unfolding line_bytes
bytes_most line = most-by (requested_of line)

pub refused_none : (line : List ℕ) → 0 < (line_swept line).number → line_bytes line ≡ []
unfolding line_swept line_bytes
refused_none line h = none-by (requested_of line) h

-- ---- a line that is longer is none of a request, whatever follows
other_length : (line : List ℕ) → (length line ≡ request_length → ⊥) → requested_of line ≡ None
unfolding requested_of
other_length line h = simp (ne_eqb (length line) request_length h)

kept_if : (line : List ℕ) (b : Bool) → leb (length line) 93 ≡ b → requested_of (take 93 line) ≡ requested_of line
kept_if line true e = ap requested_of (take_all 93 line (leb-true (length line) 93 e))
kept_if line false e =
    let h : 93 < length line = leb-false (length line) 93 e in
    let n : length (take 93 line) ≡ 93 = length-take 93 line ∙ less (length line) h in
    other_length (take 93 line) (λ x. omega arith) ∙ sym (other_length line (λ x. omega arith))
  where
    less : (m : ℕ) → 93 < m → min 93 m ≡ 93
    less m h = omega arith

pub request-kept : (line : List ℕ) → requested_of (take 93 line) ≡ requested_of line
request-kept line = kept_if line (leb (length line) 93) refl

pub swept_kept : (line : List ℕ) → line_swept (take 93 line) ≡ line_swept line
unfolding line_swept
swept_kept line = ap swept_by (request-kept line)

pub bytes-kept : (line : List ℕ) → line_bytes (take 93 line) ≡ line_bytes line
unfolding line_bytes
bytes-kept line = ap frames_in (request-kept line)
