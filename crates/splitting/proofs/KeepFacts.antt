-- A byte kept behind others in a lent buffer; the bytes of a chunk taken so far, and what is held of them. Assumes nothing.
use mathlib.Core.Path.{◌≡◌, sym, ap, ◌∙◌, subst}
use mathlib.Core.Bool.{true, false}
use mathlib.Core.List.{List, [], ◌∷◌, ◌++◌}
use Prim.Native.Nat.{ℕ, suc, ◌+◌, ◌-◌, ◌≤◌, ◌<◌}
use native.Mathlib.Numerals.{add-one}
use native.Mathlib.Omega.{arith}
use lib.ListN.{length, take, drop, set, get_or, length-append, length-drop}
use lib.Seq.{take_all, take-append-le, take-suc, take-suc-set, take-add, length-take-le, get_or-drop, drop-drop}
use Rattle.splitting.specs.Lines.{newline}
use Rattle.splitting.specs.Cut.{part_of, left_by, ended_in, closed_if, left_if, Taken}
use Rattle.splitting.proofs.CutFacts.{left-newline, left_other, ended-newline, ended-other, left-append, ended-append}

-- ---- a byte kept, or dropped where there is no room
module _ (line : List ℕ) (held b : ℕ) where
  pub keeps : held < length line → take (held + 1) (set line held b) ≡ take (length line) (take held line ++ (b ∷ []))
  keeps h =
      let x : take (held + 1) (set line held b) ≡ take held line ++ (b ∷ []) = ap (λ (k : ℕ). take k (set line held b)) (add-one held) ∙ take-suc-set line held b h in
      let n : length (take held line ++ (b ∷ [])) ≡ held + 1 = length-append (take held line) (b ∷ []) ∙ ap (λ (k : ℕ). k + 1) (length-take-le held line (omega arith)) in
      x ∙ sym (take_all (length line) (take held line ++ (b ∷ [])) (omega arith))

  pub drops : length line ≤ held → held ≤ length line → take held line ≡ take (length line) (take held line ++ (b ∷ []))
  drops g h =
      let n : length (take held line) ≡ held = length-take-le held line h in
      sym (take-append-le (length line) (take held line) (b ∷ []) (omega arith) ∙ take_all (length line) (take held line) (omega arith))

-- ---- the bytes taken so far
pub part_none : (chunk : List ℕ) (from : ℕ) → part_of chunk from from ≡ []
part_none chunk from = let e : from - from ≡ 0 = omega arith in ap (λ (m : ℕ). take m (drop from chunk)) e

pub part-more : (chunk : List ℕ) (from at next : ℕ) → from ≤ at → at ≤ next → part_of chunk from at ++ part_of chunk at next ≡ part_of chunk from next
part-more chunk from at next h k =
    let j = at - from in
    let same : from + j ≡ at = omega arith in
    let all : j + (next - at) ≡ next - from = omega arith in
    ap (λ (r : List ℕ). take j (drop from chunk) ++ take (next - at) r) (sym (drop-drop j from chunk ∙ ap (λ (m : ℕ). drop m chunk) same))
    ∙ sym (take-add j (next - at) (drop from chunk))
    ∙ ap (λ (m : ℕ). take m (drop from chunk)) all

pub part-one : (chunk : List ℕ) (at : ℕ) → at < length chunk → part_of chunk at (at + 1) ≡ get_or chunk at 0 ∷ []
part-one chunk at h =
    let e : at + 1 - at ≡ suc 0 = omega arith in
    let none : at + 0 ≡ at = omega arith in
    ap (λ (k : ℕ). take k (drop at chunk)) e
    ∙ take-suc (drop at chunk) 0 0 (omega (arith, length-drop at chunk))
    ∙ ap (λ (b : ℕ). b ∷ []) (get_or-drop at chunk 0 0 ∙ ap (λ (k : ℕ). get_or chunk k 0) none)

pub part-next : (chunk : List ℕ) (from at : ℕ) → from ≤ at → at < length chunk → part_of chunk from (at + 1) ≡ part_of chunk from at ++ (get_or chunk at 0 ∷ [])
part-next chunk from at h k =
    sym (part-more chunk from at (at + 1) h (omega arith)) ∙ ap (λ (x : List ℕ). part_of chunk from at ++ x) (part-one chunk at k)

-- ---- as long as no line has ended
pub record Taking (chunk : List ℕ) (from most : ℕ) (h line : List ℕ) (at : ℕ) : Type 0 where
  pub none : ended_in most h (part_of chunk from at) ≡ []
  pub holds : left_by most h (part_of chunk from at) ≡ line

pub taking_none : (chunk : List ℕ) (from most : ℕ) (h : List ℕ) → Taking chunk from most h h from
unfolding ended_in left_by
taking_none chunk from most h =
    let e = part_none chunk from in
    record { none = ap (ended_in most h) e; holds = ap (left_by most h) e }

-- one byte more
module _ (chunk : List ℕ) (from most : ℕ) (h line : List ℕ) (at : ℕ) (t : Taking chunk from most h line at) (low : from ≤ at) (more : at < length chunk) where
  abbrev b : ℕ
  b = get_or chunk at 0

  next-ended : ended_in most h (part_of chunk from (at + 1)) ≡ ended_in most line (b ∷ [])
  next-ended =
      ap (ended_in most h) (part-next chunk from at low more)
      ∙ sym (ended-append most h (part_of chunk from at) (b ∷ []))
      ∙ ap (λ (l : List (List ℕ)). l ++ ended_in most (left_by most h (part_of chunk from at)) (b ∷ [])) t.none
      ∙ ap (λ (l : List ℕ). ended_in most l (b ∷ [])) t.holds

  next-left : left_by most h (part_of chunk from (at + 1)) ≡ left_by most line (b ∷ [])
  next-left =
      ap (left_by most h) (part-next chunk from at low more)
      ∙ sym (left-append most h (part_of chunk from at) (b ∷ []))
      ∙ ap (λ (l : List ℕ). left_by most l (b ∷ [])) t.holds

  pub line-ended : b ≡ newline → Taken true most h (part_of chunk from (at + 1)) line
  unfolding closed_if left_if
  line-ended e = (next-ended ∙ ended-newline most line b e, next-left ∙ left-newline most line b e)

  pub byte-kept : (line' : List ℕ) → (b ≡ newline → ⊥) → line' ≡ take most (line ++ (b ∷ [])) → Taking chunk from most h line' (at + 1)
  byte-kept line' e g = record { none = next-ended ∙ ended-other most line b e; holds = next-left ∙ left_other most line b e ∙ sym g }

-- the chunk's end
pub taking-all : {chunk : List ℕ} {from most : ℕ} {h line : List ℕ} {at : ℕ} (n : ℕ) → Taking chunk from most h line at → n ≡ at → Taken false most h (part_of chunk from n) line
unfolding closed_if left_if
taking-all {chunk} {from} {most} {h} {line} {at} n t e =
    subst (λ (k : ℕ). Taken false most h (part_of chunk from k) line) (sym e) (t.none, t.holds)
