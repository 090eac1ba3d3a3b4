-- An input byte by byte: cut anywhere, and written out anywhere, it comes to the same. Assumes nothing.
use mathlib.Core.Path.{◌≡◌, refl, sym, ap, ◌∙◌}
use mathlib.Core.Bool.{Bool, true, false}
use mathlib.Core.List.{List, [], ◌∷◌, ◌++◌, append_assoc, append-nil}
use Prim.Native.Nat.{ℕ}
use borrow.Author.Tests.{eq-eqb, ne_eqb}
use lib.Dec.{eqb}
use lib.ListN.{take}
use Rattle.answering.specs.Line.{answer_line_of}
use Rattle.splitting.specs.Lines.{newline}
use Rattle.answering.specs.Feed.{most_held, Feed, closed_of, step_if, step_of, fed_of, owed_of, kept_of}

abbrev pub feed : List ℕ → List ℕ → Feed
feed held written = record { held = held; written = written }

-- ---- one byte
pub step-newline : (s : Feed) (b : ℕ) → b ≡ newline → step_of s b ≡ feed [] (closed_of s.held s.written)
unfolding step_of step_if
step-newline s b e = simp (eq-eqb b newline e)

pub step_other : (s : Feed) (b : ℕ) → (b ≡ newline → ⊥) → step_of s b ≡ feed (take most_held (s.held ++ (b ∷ []))) s.written
unfolding step_of step_if
step_other s b e = simp (ne_eqb b newline e)

-- ---- cut anywhere
pub fed-append : (s : Feed) (a b : List ℕ) → fed_of (fed_of s a) b ≡ fed_of s (a ++ b)
unfolding fed_of
fed-append s [] b = refl
fed-append s (c ∷ a) b = fed-append (step_of s c) a b

pub fed-snoc : (s : Feed) (a : List ℕ) (b : ℕ) → fed_of s (a ++ (b ∷ [])) ≡ step_of (fed_of s a) b
unfolding fed_of
fed-snoc s a b = sym (fed-append s a (b ∷ []))

-- ---- written out anywhere: what was written before stays in front, and what is held does not depend on it
step-flushed : (h w v : List ℕ) (b : ℕ) (t : Bool) → step_if t (feed h (w ++ v)) b ≡ feed (step_if t (feed h v) b).held (w ++ (step_if t (feed h v) b).written)
unfolding step_if closed_of
step-flushed h w v b true = ap (feed []) (append_assoc w v (answer_line_of h ++ (newline ∷ [])))
step-flushed h w v b false = refl

pub flushed : (h w v bs : List ℕ) → fed_of (feed h (w ++ v)) bs ≡ feed (fed_of (feed h v) bs).held (w ++ (fed_of (feed h v) bs).written)
unfolding fed_of step_of
flushed h w v [] = refl
flushed h w v (b ∷ bs) =
    let t = eqb b newline in
    let s = step_if t (feed h v) b in
    ap (λ (x : Feed). fed_of x bs) (step-flushed h w v b t) ∙ flushed s.held w s.written bs

pub held-alone : (h w bs : List ℕ) → (fed_of (feed h w) bs).held ≡ (fed_of (feed h []) bs).held
held-alone h w bs = ap (λ (l : List ℕ). (fed_of (feed h l) bs).held) (sym (append-nil w)) ∙ ap (λ (x : Feed). x.held) (flushed h w [] bs)

-- ---- two parts: what is held, and what is owed
pub kept_append : (h a b : List ℕ) → kept_of (kept_of h a) b ≡ kept_of h (a ++ b)
unfolding kept_of
kept_append h a b = let s = fed_of (feed h []) a in sym (held-alone s.held s.written b) ∙ ap (λ (x : Feed). x.held) (fed-append (feed h []) a b)

pub owed-append : (h a b : List ℕ) → owed_of h a ++ owed_of (kept_of h a) b ≡ owed_of h (a ++ b)
unfolding owed_of kept_of
owed-append h a b =
    let s = fed_of (feed h []) a in
    sym (ap (λ (x : Feed). x.written) (flushed s.held s.written [] b))
    ∙ ap (λ (w : List ℕ). (fed_of (feed s.held w) b).written) (append-nil s.written)
    ∙ ap (λ (x : Feed). x.written) (fed-append (feed h []) a b)
