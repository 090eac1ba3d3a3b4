-- A frame and its newline taken at once: what the bytes one by one come to. Assumes nothing.
use mathlib.Core.Path.{◌≡◌, refl, sym, ap, ◌∙◌, subst}
use mathlib.Core.Bool.{Bool, true, false, cond, ◌&&◌}
use mathlib.Core.List.{List, [], ◌∷◌, ◌++◌, append_assoc, append-nil}
use Prim.Native.Nat.{ℕ, ◌+◌, ◌-◌, ◌≤◌, ◌<◌}
use native.Mathlib.Omega.{arith}
use borrow.Author.Tests.{le-leb, lt-leb, eq-eqb, ne_eqb, leb-true, eqb-true}
use lib.Dec.{T, eqb, leb}
use lib.Ieee.Fits.{and_l, and_r}
use lib.ListN.{length, take, drop, get_or, length-append, length-drop}
use lib.Seq.{take_all, take-suc, get_or-drop, length-take-le}
use Rattle.frame.specs.declared.asking.Fields.{Fields}
use Rattle.std.specs.Prelude.{None, Some}
use Rattle.frame.specs.Digits.{is_digit, are_digits}
use Rattle.frame.specs.Asking.{framed_of, asked_of}
use Rattle.laws.proofs.First.{passed}
use Rattle.frame.proofs.DigitFacts.{both, digit-no-newline}
use Rattle.frame.proofs.AskingFacts.{framed_is}
use Rattle.answering.specs.Line.{parsed_line}
use Rattle.answering.proofs.LineFacts.{framed-line}
use Rattle.splitting.specs.Lines.{newline}
use Rattle.answering.specs.Feed.{most_held, Feed, with_line, closed_of, step_of, fed_of}
use Rattle.lichenoar.specs.Feed.{frame_ahead}
use Rattle.answering.proofs.FeedFacts.{feed, step-newline, step_other, fed-snoc}

-- ---- digits are held one by one
pub digits-held : (D h w : List ℕ) → T (are_digits D) → length h + length D ≤ most_held → fed_of (feed h w) D ≡ feed (h ++ D) w
unfolding fed_of are_digits
digits-held [] h w t n = ap (λ (l : List ℕ). feed l w) (sym (append-nil h))
digits-held (c ∷ D) h w t n =
    let more : length (h ++ (c ∷ [])) ≡ length h + 1 = length-append h (c ∷ []) in
    ap (λ (s : Feed). fed_of s D) (step_other (feed h w) c (digit-no-newline c (passed (is_digit c) (and_l (is_digit c) (are_digits D) t))) ∙ ap (λ (l : List ℕ). feed l w) (take_all most_held (h ++ (c ∷ [])) (omega (arith, more, n))))
    ∙ digits-held D (h ++ (c ∷ [])) w (and_r (is_digit c) (are_digits D) t) (omega (arith, more, n))
    ∙ ap (λ (l : List ℕ). feed l w) (append_assoc h (c ∷ []) D)

-- ---- what is known where a frame comes next
pub record Ahead (chunk : List ℕ) (at : ℕ) : Type 0 where
  pub room : at + 57 ≤ length chunk
  pub ended : get_or chunk (at + 56) 0 ≡ newline
  pub digits : T (are_digits (take 56 (drop at chunk)))

-- what holds where a frame comes next, and what it asks
ahead-if :
    (chunk : List ℕ) (at : ℕ) (f : Fields) (b : Bool) → (leb (at + 57) (length chunk) && eqb (get_or chunk (at + 56) 0) newline) ≡ b →
    cond b (framed_of (take 56 (drop at chunk))) None ≡ Some f → Ahead chunk at × (framed_of (take 56 (drop at chunk)) ≡ Some f)
ahead-if chunk at f true k e =
    let t = both (leb (at + 57) (length chunk)) (eqb (get_or chunk (at + 56) 0) newline) k in
    let d = (framed_is (take 56 (drop at chunk)) f e).1 in
    (record { room = leb-true (at + 57) (length chunk) t.0; ended = eqb-true (get_or chunk (at + 56) 0) newline t.1; digits = subst T (sym d) tt }, e)
ahead-if chunk at f false k e = absurd (let z : ◌≡◌ {A = ℕ} 0 1 = cc in omega arith)

pub ahead : (chunk : List ℕ) (at : ℕ) (f : Fields) → frame_ahead chunk at ≡ Some f → Ahead chunk at × (framed_of (take 56 (drop at chunk)) ≡ Some f)
unfolding frame_ahead
ahead chunk at f e = ahead-if chunk at f (leb (at + 57) (length chunk) && eqb (get_or chunk (at + 56) 0) newline) refl e

module _ (chunk : List ℕ) (at : ℕ) (a : Ahead chunk at) where
  left : 57 ≤ length (drop at chunk)
  left = omega (arith, length-drop at chunk, a.room)

  pub frame-length : length (take 56 (drop at chunk)) ≡ 56
  frame-length = length-take-le 56 (drop at chunk) (omega (arith, left))

  line-bytes : take 57 (drop at chunk) ≡ take 56 (drop at chunk) ++ (newline ∷ [])
  line-bytes = take-suc (drop at chunk) 56 0 (omega (arith, left)) ∙ ap (λ (b : ℕ). take 56 (drop at chunk) ++ (b ∷ [])) (get_or-drop at chunk 56 0 ∙ a.ended)

  pub frame-fed : (w : List ℕ) → fed_of (feed [] w) (take 57 (drop at chunk)) ≡ feed [] (closed_of (take 56 (drop at chunk)) w)
  frame-fed w =
      let D = take 56 (drop at chunk) in
      ap (fed_of (feed [] w)) line-bytes
      ∙ fed-snoc (feed [] w) D newline
      ∙ ap (λ (s : Feed). step_of s newline) (digits-held D [] w a.digits (omega (arith, frame-length)))
      ∙ step-newline (feed D w) newline refl

-- ---- the tests in their order
pub not-long : (chunk : List ℕ) (at : ℕ) → length chunk - at < 57 → frame_ahead chunk at ≡ None
unfolding frame_ahead
not-long chunk at h = simp (lt-leb (at + 57) (length chunk) (omega arith))

pub not-ended : (chunk : List ℕ) (at : ℕ) → (get_or chunk (at + 56) 0 ≡ newline → ⊥) → frame_ahead chunk at ≡ None
unfolding frame_ahead
not-ended chunk at h =
    ap (λ (b : Bool). cond (leb (at + 57) (length chunk) && b) (framed_of (take 56 (drop at chunk))) None) (ne_eqb (get_or chunk (at + 56) 0) newline h)
    ∙ ap (λ (b : Bool). cond b (framed_of (take 56 (drop at chunk))) None) (none (leb (at + 57) (length chunk)))
  where
    none : (b : Bool) → (b && false) ≡ false
    none true = refl
    none false = refl

pub by-reading : (chunk : List ℕ) (at n : ℕ) → n ≡ 56 → 57 ≤ length chunk - at → at < length chunk → get_or chunk (at + 56) 0 ≡ newline → framed_of (take n (drop at chunk)) ≡ frame_ahead chunk at
unfolding frame_ahead
by-reading chunk at n m h l g =
    ap (λ (k : ℕ). framed_of (take k (drop at chunk))) m
    ∙ sym (simp (le-leb (at + 57) (length chunk) (omega arith), eq-eqb (get_or chunk (at + 56) 0) newline g))

-- ---- a frame closed where it stands, and a byte
pub frame-taken :
    (chunk line out w : List ℕ) (at n : ℕ) (f : Fields) → Ahead chunk at → framed_of (take 56 (drop at chunk)) ≡ Some f → length line ≡ 0 → n ≡ 57 →
    w ≡ with_line (parsed_line (asked_of f)) out → feed line w ≡ fed_of (feed line out) (take n (drop at chunk))
unfolding closed_of
frame-taken chunk line out w at n f h p z q e =
    let D = take 56 (drop at chunk) in
    let none : line ≡ [] = empty line z in
    ap (λ (l : List ℕ). feed l w) none
    ∙ ap (feed []) (e ∙ ap (λ (l : List ℕ). with_line l out) (sym (framed-line D f p)))
    ∙ sym (frame-fed chunk at h out)
    ∙ sym (ap (λ (l : List ℕ). fed_of (feed l out) (take 57 (drop at chunk))) none)
    ∙ sym (ap (λ (k : ℕ). fed_of (feed line out) (take k (drop at chunk))) q)
  where
    empty : (l : List ℕ) → length l ≡ 0 → l ≡ []
    empty [] e = refl
    empty (b ∷ l) e = absurd (omega arith)

pub byte-taken : (chunk : List ℕ) (s : Feed) (at n : ℕ) → at < length chunk → n ≡ 1 → step_of s (get_or chunk at 0) ≡ fed_of s (take n (drop at chunk))
unfolding fed_of
byte-taken chunk s at n h e =
    let none : at + 0 ≡ at = omega arith in
    sym
    (ap (λ (k : ℕ). fed_of s (take k (drop at chunk))) e
    ∙ ap (fed_of s) (take-suc (drop at chunk) 0 0 (omega (arith, length-drop at chunk)))
    ∙ ap (step_of s) (get_or-drop at chunk 0 0 ∙ ap (λ (k : ℕ). get_or chunk k 0) none))
