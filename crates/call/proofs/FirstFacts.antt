-- The one theorem about a list of checks: the number given is that of the first check that applies, and none applies exactly when the call is admitted. Assumes nothing.
use mathlib.Core.Path.{◌≡◌, refl, sym, ap, ◌∙◌, subst}
use mathlib.Core.Bool.{Bool, true, false, not, cond, ◌&&◌, ◌||◌}
use mathlib.Core.List.{List, [], ◌∷◌, ◌++◌}
use Prim.Native.Nat.{ℕ, zero, suc, ◌<◌}
use native.Mathlib.Nat.{zero-lt-suc}
use native.Mathlib.Omega.{arith}
use lib.Dec.{T, eqb, eqb→eq}
use borrow.Author.Tests.{eq-eqb}
use Rattle.refusal.specs.Number.{number_of}
use Rattle.refusal.specs.declared.refusal.Refusal.{Refusal}
use Rattle.refusal.proofs.Distinct.{never-zero}
use Rattle.std.specs.Prelude.{Ok, Err}
use Rattle.call.specs.Checks.{Check, Verdict, Admitted, Refused, refused_if, verdict_from, verdict_of, then_verdict, number_given, none_applies, is_first, numbers_of}

-- P exactly when the test passes
abbrev pub Exactly : Type 0 → Bool → Type 0
Exactly P b = (P → T b) × (T b → P)

pub exactly : (n j : ℕ) (b : Bool) → eqb n j ≡ b → Exactly (n ≡ j) b
exactly n j b e = (λ h. subst T (sym (eq-eqb n j h) ∙ e) tt, λ t. eqb→eq n j (subst T (sym e) t))

-- ---- lists behind each other
pub stays : (r : Refusal) (cs : List Check) → verdict_from (Refused r) cs ≡ Refused r
unfolding verdict_from refused_if
stays r [] = refl
stays r (c ∷ cs) = stays r cs

pub verdict-append : (v : Verdict) (xs ys : List Check) → verdict_from v (xs ++ ys) ≡ verdict_from (verdict_from v xs) ys
unfolding verdict_from
verdict-append v [] ys = refl
verdict-append v (c ∷ cs) ys = verdict-append (refused_if v c.applies c.refusal) cs ys

-- the verdict of a list joined to another: the first's refusal, and the second's verdict where the first admits
pub verdict-joined : (xs ys : List Check) → verdict_of (xs ++ ys) ≡ then_verdict (verdict_of xs) (verdict_of ys)
unfolding verdict_of
verdict-joined xs ys = verdict-append Admitted xs ys ∙ by (verdict_from Admitted xs)
  where
    by : (v : Verdict) → verdict_from v ys ≡ then_verdict v (verdict_from Admitted ys)
    by (Ok admitted) = refl
    by (Err r) = stays r ys

and_assoc : (a b c : Bool) → ((a && b) && c) ≡ (a && (b && c))
and_assoc true b c = refl
and_assoc false b c = refl

pub none-append : (xs ys : List Check) → none_applies (xs ++ ys) ≡ (none_applies xs && none_applies ys)
unfolding none_applies
none-append [] ys = refl
none-append (c ∷ cs) ys = ap (λ (b : Bool). not c.applies && b) (none-append cs ys) ∙ sym (and_assoc (not c.applies) (none_applies cs) (none_applies ys))

left-true : (a b : Bool) → (a && b) ≡ true → a ≡ true
left-true true b e = refl
left-true false b e = e

right-true : (a b : Bool) → (a && b) ≡ true → b ≡ true
right-true true b e = e
right-true false b e = absurd (let z : ◌≡◌ {A = ℕ} 0 1 = cc in omega arith)

pub none_left : (xs ys : List Check) → none_applies (xs ++ ys) ≡ true → none_applies xs ≡ true
none_left xs ys e = left-true (none_applies xs) (none_applies ys) (sym (none-append xs ys) ∙ e)

pub none_right : (xs ys : List Check) → none_applies (xs ++ ys) ≡ true → none_applies ys ≡ true
none_right xs ys e = right-true (none_applies xs) (none_applies ys) (sym (none-append xs ys) ∙ e)

-- ---- by the number
same-either : (b x : Bool) → cond b x x ≡ x
same-either true x = refl
same-either false x = refl

itself : (b x : Bool) → cond b (true || x) (false && x) ≡ b
itself true x = refl
itself false x = refl

number_step : (b : Bool) (r : Refusal) (cs : List Check) (n : ℕ) → eqb (number_given (verdict_from Admitted cs)) n ≡ is_first n cs →
    eqb (number_given (verdict_from (cond b (Refused r) Admitted) cs)) n ≡ cond (eqb (number_of r) n) (b || is_first n cs) (not b && is_first n cs)
unfolding number_given
number_step true r cs n e = ap (λ (v : Verdict). eqb (number_given v) n) (stays r cs) ∙ sym (itself (eqb (number_of r) n) (is_first n cs))
number_step false r cs n e = e ∙ sym (same-either (eqb (number_of r) n) (is_first n cs))

not-zero : (n : ℕ) → 0 < n → eqb 0 n ≡ false
not-zero n h = by (eqb 0 n) refl
  where
    by : (b : Bool) → eqb 0 n ≡ b → eqb 0 n ≡ false
    by true e = absurd (let z = eqb→eq 0 n (subst T (sym e) tt) in omega arith)
    by false e = e

pub number-test : (cs : List Check) (n : ℕ) → 0 < n → eqb (number_given (verdict_of cs)) n ≡ is_first n cs
unfolding verdict_of verdict_from refused_if number_given is_first
number-test [] n h = not-zero n h
number-test (c ∷ cs) n h = number_step c.applies c.refusal cs n (number-test cs n h)

-- ---- by none
none-step : (b : Bool) (r : Refusal) (cs : List Check) → eqb (number_given (verdict_from Admitted cs)) 0 ≡ none_applies cs →
    eqb (number_given (verdict_from (cond b (Refused r) Admitted) cs)) 0 ≡ (not b && none_applies cs)
unfolding number_given
none-step true r cs e = ap (λ (v : Verdict). eqb (number_given v) 0) (stays r cs) ∙ above (number_of r) (never-zero r)
  where
    above : (n : ℕ) → 0 < n → eqb n 0 ≡ false
    above n h = by (eqb n 0) refl
      where
        by : (b : Bool) → eqb n 0 ≡ b → eqb n 0 ≡ false
        by true e = absurd (let z = eqb→eq n 0 (subst T (sym e) tt) in omega arith)
        by false e = e
none-step false r cs e = e

pub none-test : (cs : List Check) → eqb (number_given (verdict_of cs)) 0 ≡ none_applies cs
unfolding verdict_of verdict_from refused_if number_given none_applies
none-test [] = refl
none-test (c ∷ cs) = none-step c.applies c.refusal cs (none-test cs)

admits : (v : Verdict) → number_given v ≡ 0 → v ≡ Admitted
unfolding number_given
admits (Ok admitted) e = refl
admits (Err r) e = absurd (let p = never-zero r in omega arith)

pub admitted-none : (cs : List Check) → verdict_of cs ≡ Admitted → none_applies cs ≡ true
unfolding number_given
admitted-none cs e = sym (none-test cs) ∙ ap (λ (v : Verdict). eqb (number_given v) 0) e

pub none-admitted : (cs : List Check) → none_applies cs ≡ true → verdict_of cs ≡ Admitted
none-admitted cs e = admits (verdict_of cs) (eqb→eq (number_given (verdict_of cs)) 0 (subst T (sym (none-test cs ∙ e)) tt))

-- ---- by the place: the checks before it do not apply
pub record FirstIs (r : Refusal) (cs : List Check) : Type 0 where
  pub before : List Check
  pub here : Check
  pub after : List Check
  pub split : cs ≡ before ++ (here ∷ after)
  pub passed : none_applies before ≡ true
  pub applies : here.applies ≡ true
  pub refusal : here.refusal ≡ r

place-step : (c : Check) (cs : List Check) (r : Refusal) (b : Bool) → c.applies ≡ b → verdict_from (cond b (Refused c.refusal) Admitted) cs ≡ Refused r → (verdict_from Admitted cs ≡ Refused r → FirstIs r cs) → FirstIs r (c ∷ cs)
unfolding none_applies
place-step c cs r true a e h = record { before = []; here = c; after = cs; split = refl; passed = refl; applies = a; refusal = same (sym (stays c.refusal cs) ∙ e) }
  where
    same : Refused c.refusal ≡ Refused r → c.refusal ≡ r
    same e = cc
place-step c cs r false a e h =
    let f = h e in
    record { before = c ∷ f.before; here = f.here; after = f.after; split = ap (λ (l : List Check). c ∷ l) f.split; passed = rw a f.passed; applies = f.applies; refusal = f.refusal }

refused-place : (cs : List Check) (r : Refusal) → verdict_from Admitted cs ≡ Refused r → FirstIs r cs
unfolding verdict_from refused_if
refused-place [] r e = absurd (let z : ◌≡◌ {A = ℕ} 0 1 = cc in omega arith)
refused-place (c ∷ cs) r e = place-step c cs r c.applies refl e (refused-place cs r)

place-refused : (cs : List Check) (r : Refusal) → FirstIs r cs → verdict_of cs ≡ Refused r
unfolding verdict_of verdict_from refused_if
place-refused cs r f =
    ap verdict_of f.split
    ∙ verdict-append Admitted f.before (f.here ∷ f.after)
    ∙ ap (λ (v : Verdict). verdict_from v (f.here ∷ f.after)) (none-admitted f.before f.passed)
    ∙ rw f.applies (stays f.here.refusal f.after ∙ ap Refused f.refusal)

-- ---- the numbers that a list can give
abbrev pub is_one_of : ℕ → List ℕ → Bool
is_one_of n [] = false
is_one_of n (m ∷ ms) = eqb m n || is_one_of n ms

listed-step : (a b x y : Bool) → (x ≡ true → y ≡ true) → cond a (b || x) (not b && x) ≡ true → (a || y) ≡ true
listed-step true b x y h e = refl
listed-step false true x y h e = absurd (let z : ◌≡◌ {A = ℕ} 0 1 = cc in omega arith)
listed-step false false x y h e = h e

pub first-listed : (cs : List Check) (n : ℕ) → is_first n cs ≡ true → is_one_of n (numbers_of cs) ≡ true
unfolding is_first numbers_of
first-listed [] n e = e
first-listed (c ∷ cs) n e = listed-step (eqb (number_of c.refusal) n) c.applies (is_first n cs) (is_one_of n (numbers_of cs)) (first-listed cs n) e

-- ---- a number that stands once in a list: its check is the first exactly when it applies and none before it does
unlisted : (cs : List Check) (n : ℕ) → is_one_of n (numbers_of cs) ≡ false → is_first n cs ≡ false
unlisted cs n e = by (is_first n cs) refl
  where
    by : (b : Bool) → is_first n cs ≡ b → is_first n cs ≡ false
    by true f = f ∙ sym (first-listed cs n f) ∙ e
    by false f = f

neither : (a b : Bool) → (a || b) ≡ false → (a ≡ false) × (b ≡ false)
neither true b e = absurd (let z : ◌≡◌ {A = ℕ} 0 1 = cc in omega arith)
neither false b e = (refl, e)

at_here : (d b x : Bool) → d ≡ true → x ≡ false → cond d (b || x) (not b && x) ≡ b
at_here true true x p e = refl
at_here true false x p e = e
at_here false b x p e = absurd (let z : ◌≡◌ {A = ℕ} 0 1 = cc in omega arith)

at-later : (d a x y b : Bool) → d ≡ false → x ≡ (y && b) → cond d (a || x) (not a && x) ≡ ((not a && y) && b)
at-later true a x y b p e = absurd (let z : ◌≡◌ {A = ℕ} 0 1 = cc in omega arith)
at-later false a x y b p e = ap (λ (t : Bool). not a && t) e ∙ sym (and_assoc (not a) y b)

first-at : (before : List Check) (here : Check) (after : List Check) → let n = number_of here.refusal in
    is_one_of n (numbers_of before) ≡ false → is_one_of n (numbers_of after) ≡ false → is_first n (before ++ (here ∷ after)) ≡ (none_applies before && here.applies)
unfolding is_first none_applies numbers_of
first-at [] here after p q =
    let n = number_of here.refusal in
    at_here (eqb n n) here.applies (is_first n after) (eq-eqb n n refl) (unlisted after n q)
first-at (c ∷ cs) here after p q =
    let n = number_of here.refusal in
    let e = neither (eqb (number_of c.refusal) n) (is_one_of n (numbers_of cs)) p in
    at-later (eqb (number_of c.refusal) n) c.applies (is_first n (cs ++ (here ∷ after))) (none_applies cs) here.applies e.0 (first-at cs here after e.1 q)

-- ---- of the number m that a call with these checks gets
pub record Given (cs : List Check) (m : ℕ) : Type 0 where
  pub number : (n : ℕ) → 0 < n → Exactly (m ≡ n) (is_first n cs)
  pub none : Exactly (m ≡ 0) (none_applies cs)
  pub only : (n : ℕ) → 0 < n → m ≡ n → T (is_one_of n (numbers_of cs))

pub given : (cs : List Check) → Given cs (number_given (verdict_of cs))
given cs =
    let m = number_given (verdict_of cs) in
    let number : (n : ℕ) → 0 < n → Exactly (m ≡ n) (is_first n cs) = λ n h. exactly m n (is_first n cs) (number-test cs n h) in
    record {
      number = number;
      none = exactly m 0 (none_applies cs) (none-test cs);
      only = λ n h e. subst T (sym (first-listed cs n (true_of (is_first n cs) ((number n h).0 e)))) tt;
    }
  where
    true_of : (b : Bool) → T b → b ≡ true
    true_of true t = refl
    true_of false t = absurd t

-- 0, or one of its list's
pub none-or-listed : (cs : List Check) (m : ℕ) (numbers : List ℕ) → Given cs m → numbers_of cs ≡ numbers → T (is_one_of m (0 ∷ numbers))
none-or-listed cs zero numbers g e = tt
none-or-listed cs (suc n) numbers g e = later (eqb 0 (suc n)) (is_one_of (suc n) numbers) (subst (λ (l : List ℕ). T (is_one_of (suc n) l)) e (g.only (suc n) (zero-lt-suc n) refl))
  where
    later : (z b : Bool) → T b → T (z || b)
    later true b t = tt
    later false b t = t

-- where a number stands once in the list, it is given exactly when its own check applies and none before it does
pub given-at : (before : List Check) (here : Check) (after : List Check) (m : ℕ) → let n = number_of here.refusal in
    Given (before ++ (here ∷ after)) m → is_one_of n (numbers_of before) ≡ false → is_one_of n (numbers_of after) ≡ false → Exactly (m ≡ n) (none_applies before && here.applies)
given-at before here after m g p q =
    let n = number_of here.refusal in
    subst (Exactly (m ≡ n)) (first-at before here after p q) (g.number n (never-zero here.refusal))

-- the theorem: refused by r exactly when r is that of the first check that applies, admitted exactly when none applies
pub record FirstDecides (cs : List Check) : Type 0 where
  pub refused : (r : Refusal) → (verdict_of cs ≡ Refused r → FirstIs r cs) × (FirstIs r cs → verdict_of cs ≡ Refused r)
  pub admitted : (verdict_of cs ≡ Admitted → none_applies cs ≡ true) × (none_applies cs ≡ true → verdict_of cs ≡ Admitted)
  pub numbers : Given cs (number_given (verdict_of cs))

pub first-decides : (cs : List Check) → FirstDecides cs
unfolding verdict_of
first-decides cs = record { refused = λ r. (refused-place cs r, place-refused cs r); admitted = (admitted-none cs, none-admitted cs); numbers = given cs }
