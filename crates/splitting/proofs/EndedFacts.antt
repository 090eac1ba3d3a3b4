-- Lines that are written, each with its newline, are the lines of what was written. Assumes nothing.
use mathlib.Core.Path.{◌≡◌, refl, sym, ap, ◌∙◌}
use mathlib.Core.Bool.{Bool, true, false, not, cond, and-eq-true_iff}
use mathlib.Core.List.{List, [], ◌∷◌, ◌++◌, append_assoc, append-nil}
use Prim.Native.Nat.{ℕ}
use native.Mathlib.Omega.{arith}
use lib.Dec.{eqb}
use Rattle.splitting.specs.Lines.{newline, last_of, lines_from, lines_of, ended_lines, is_plain, are_plain}

-- one byte more, given what holds of the bytes behind it
byte-read : (line l rest : List ℕ) (b : ℕ) (t : Bool) → not t ≡ true → lines_from (line ++ (b ∷ [])) (l ++ (newline ∷ rest)) ≡ ((line ++ (b ∷ [])) ++ l) ∷ lines_from [] rest →
    cond t (line ∷ lines_from [] (l ++ (newline ∷ rest))) (lines_from (line ++ (b ∷ [])) (l ++ (newline ∷ rest))) ≡ (line ++ (b ∷ l)) ∷ lines_from [] rest
byte-read line l rest b true e h = absurd (let z : ◌≡◌ {A = ℕ} 0 1 = cc in omega arith)
byte-read line l rest b false e h = h ∙ ap (λ (x : List ℕ). x ∷ lines_from [] rest) (append_assoc line (b ∷ []) l)

-- `line` is what was read of the first already
line_read : (line l rest : List ℕ) → is_plain l ≡ true → lines_from line (l ++ (newline ∷ rest)) ≡ (line ++ l) ∷ lines_from [] rest
unfolding is_plain lines_from
line_read line [] rest e = ap (λ (x : List ℕ). x ∷ lines_from [] rest) (sym (append-nil line))
line_read line (b ∷ l) rest e =
    let p = (and-eq-true_iff (not (eqb b newline)) (is_plain l)).0 e in
    byte-read line l rest b (eqb b newline) p.0 (line_read (line ++ (b ∷ [])) l rest p.1)

pub lines-ended : (lines : List (List ℕ)) → are_plain lines ≡ true → lines_of (ended_lines lines) ≡ lines
unfolding lines_of ended_lines are_plain lines_from last_of
lines-ended [] e = refl
lines-ended (l ∷ ls) e =
    let p = (and-eq-true_iff (is_plain l) (are_plain ls)).0 e in
    line_read [] l (ended_lines ls) p.0 ∙ ap (λ (x : List (List ℕ)). l ∷ x) (lines-ended ls p.1)

-- ---- behind each other
pub ended-lines-append : (a b : List (List ℕ)) → ended_lines (a ++ b) ≡ ended_lines a ++ ended_lines b
unfolding ended_lines
ended-lines-append [] b = refl
ended-lines-append (l ∷ a) b =
    ap (λ (x : List ℕ). l ++ (newline ∷ x)) (ended-lines-append a b) ∙ sym (append_assoc l (newline ∷ ended_lines a) (ended_lines b))

pub plain-append : (a b : List (List ℕ)) → are_plain a ≡ true → are_plain b ≡ true → are_plain (a ++ b) ≡ true
unfolding are_plain
plain-append [] b e f = f
plain-append (l ∷ a) b e f =
    let p = (and-eq-true_iff (is_plain l) (are_plain a)).0 e in
    (and-eq-true_iff (is_plain l) (are_plain (a ++ b))).1 (p.0, plain-append a b p.1 f)
