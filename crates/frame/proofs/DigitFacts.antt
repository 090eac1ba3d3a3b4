-- Digits read one by one: whether they are digits, and the number that they make, which fits. Digits written read back give the number, and
-- digits read and written again are the same digits. Assumes nothing.
use mathlib.Core.Path.{◌≡◌, refl, sym, ap, ◌∙◌, subst}
use mathlib.Core.Logic.{⊎_elim}
use mathlib.Core.Bool.{Bool, true, false, not, ◌&&◌, ◌||◌}
use mathlib.Core.List.{List, [], ◌∷◌, ◌++◌}
use Prim.Native.Nat.{ℕ, zero, suc, ◌+◌, ◌*◌, ◌/◌, ◌%◌, ◌^◌, ◌≤◌, ◌<◌}
use native.Mathlib.Nat.{lt_of_lt_of_le, le_of_suc-le-suc, not-suc-le-zero, mul_assoc}
use native.Mathlib.Numerals.{add-one}
use native.Mathlib.Omega.{arith}
use lib.ListN.{length, take, drop, get_or, drop_of_length-le}
use lib.Dec.{T, eqb, ltb, leb, eqb→eq, ltb→lt, leb→le}
use lib.Ieee.Fits.{and_l, and_r}
use lib.Pow.{pow-add, pow_mono, mod-pow-add}
use lib.Seq.{drop-cons, take-suc, take_all, length-take-le}
use mir.Facts.{or_yes}
use Rattle.laws.proofs.Bound.{every-at}
use Rattle.laws.proofs.First.{passed}
use Rattle.frame.specs.Digits.{worth_of, is_digit, are_digits, number_from, digit_of, spelled_of}

-- ---- one byte: computed at every byte
module _ where
  right : ℕ → Bool
  right c = not (is_digit c) || (eqb (c % 16 + c / 64 * 9) (worth_of c) && ltb (worth_of c) 16)

  all_right : (c : ℕ) → c < 256 → T (right c)
  unfolding right is_digit worth_of
  all_right c h = every-at right 256 tt c h

  pub digit-worth : (c : ℕ) → c < 256 → is_digit c ≡ true → (c % 16 + c / 64 * 9 ≡ worth_of c) × (worth_of c < 16)
  unfolding right
  digit-worth c h e =
      let t : T (eqb (c % 16 + c / 64 * 9) (worth_of c) && ltb (worth_of c) 16) = subst (λ (b : Bool). T (not b || (eqb (c % 16 + c / 64 * 9) (worth_of c) && ltb (worth_of c) 16))) e (all_right c h) in
      let p = eqb (c % 16 + c / 64 * 9) (worth_of c) in
      let q = ltb (worth_of c) 16 in
      (eqb→eq (c % 16 + c / 64 * 9) (worth_of c) (and_l p q t), ltb→lt (worth_of c) 16 (and_r p q t))

-- ---- one byte more
module _ (l : List ℕ) (i : ℕ) where
  pub digits-next : (all : Bool) → i < length l → (all && are_digits (drop i l)) ≡ ((all && is_digit (get_or l i 0)) && are_digits (drop (i + 1) l))
  unfolding are_digits
  digits-next true h = rw (add-one, drop-cons l i 0)
  digits-next false h = refl

  pub digits-end : (all : Bool) → length l ≤ i → (all && are_digits (drop i l)) ≡ all
  unfolding are_digits
  digits-end true h = ap are_digits (drop_of_length-le l h)
  digits-end false h = refl

  pub number-next : (n : ℕ) → i < length l → number_from n (drop i l) ≡ number_from (n * 16 + worth_of (get_or l i 0)) (drop (i + 1) l)
  unfolding number_from
  number-next n h = rw (add-one, drop-cons l i 0)

  pub number-end : (n : ℕ) → length l ≤ i → number_from n (drop i l) ≡ n
  unfolding number_from
  number-end n h = ap (number_from n) (drop_of_length-le l h)

-- ---- digits all: each of them, and every part
pub both : (a b : Bool) → (a && b) ≡ true → (a ≡ true) × (b ≡ true)
both true true e = (refl, refl)
both true false e = (refl, e)
both false b e = (e, absurd (subst T (sym e) tt))

pub digits-at : (l : List ℕ) (i : ℕ) → are_digits l ≡ true → i < length l → is_digit (get_or l i 0) ≡ true
unfolding are_digits
digits-at [] i e h = absurd (not-suc-le-zero h)
digits-at (c ∷ l) zero e h = (both (is_digit c) (are_digits l) e).0
digits-at (c ∷ l) (suc i) e h = digits-at l i (both (is_digit c) (are_digits l) e).1 (le_of_suc-le-suc h)

digits-drop : (n : ℕ) (l : List ℕ) → are_digits l ≡ true → are_digits (drop n l) ≡ true
unfolding are_digits
digits-drop zero l e = e
digits-drop (suc n) [] e = refl
digits-drop (suc n) (c ∷ l) e = digits-drop n l (both (is_digit c) (are_digits l) e).1

digits-take : (n : ℕ) (l : List ℕ) → are_digits l ≡ true → are_digits (take n l) ≡ true
unfolding are_digits
digits-take zero l e = refl
digits-take (suc n) [] e = refl
digits-take (suc n) (c ∷ l) e = let p = both (is_digit c) (are_digits l) e in ap (λ (b : Bool). b && are_digits (take n l)) p.0 ∙ digits-take n l p.1

pub digits-part : (n m : ℕ) (l : List ℕ) → are_digits l ≡ true → are_digits (take n (drop m l)) ≡ true
digits-part n m l e = digits-take n (drop m l) (digits-drop m l e)

-- the byte that ends a line is no digit
ten-no-digit : is_digit 10 ≡ false
unfolding is_digit
ten-no-digit = refl

pub digit-no-newline : (c : ℕ) → is_digit c ≡ true → c ≡ 10 → ⊥
digit-no-newline c t e = subst T (sym t ∙ ap is_digit e ∙ ten-no-digit) tt

pub digits_append : (a b : List ℕ) → are_digits a ≡ true → are_digits b ≡ true → are_digits (a ++ b) ≡ true
unfolding are_digits
digits_append [] b e f = f
digits_append (c ∷ a) b e f = let p = both (is_digit c) (are_digits a) e in ap (λ (x : Bool). x && are_digits (a ++ b)) p.0 ∙ digits_append a b p.1 f

-- ---- i digits are below 16 to the power i
pub digits-below : (i n d : ℕ) → n < 2 ^ (4 * i) → d < 16 → n * 16 + d < 2 ^ (4 * (i + 1))
digits-below i n d h k = subst (λ (m : ℕ). n * 16 + d < m) (sym (ap (λ (e : ℕ). 2 ^ e) (four i) ∙ pow-add 2 (4 * i) 4)) (omega arith)
  where
    four : (i : ℕ) → 4 * (i + 1) ≡ 4 * i + 4
    four i = omega arith

pub digits-fit : (i n d : ℕ) → i < 16 → n < 2 ^ (4 * i) → d < 16 → n * 16 + d < 2 ^ 64
digits-fit i n d h k e = lt_of_lt_of_le (digits-below i n d k e) (pow_mono {i = 4 * (i + 1)} {j = 64} (omega arith))

-- ---- digits written and read back: the number, as far as the digits hold it
module _ where
  back : ℕ → Bool
  back d = eqb (worth_of (digit_of d)) d

  worth-digit : (d : ℕ) → d < 16 → worth_of (digit_of d) ≡ d
  unfolding back worth_of digit_of
  worth-digit d h = eqb→eq (worth_of (digit_of d)) d (every-at back 16 tt d h)

module _ where
  written : ℕ → Bool
  written d = is_digit (digit_of d)

  digit-is : (d : ℕ) → d < 16 → is_digit (digit_of d) ≡ true
  unfolding written is_digit digit_of
  digit-is d h = passed (is_digit (digit_of d)) (every-at written 16 tt d h)

one-digit : (d : ℕ) → d < 16 → are_digits (digit_of d ∷ []) ≡ true
unfolding are_digits
one-digit d h = ap (λ (b : Bool). b && true) (digit-is d h)

pub spelled-digits : (k n : ℕ) → are_digits (spelled_of k n) ≡ true
unfolding spelled_of are_digits
spelled-digits zero n = refl
spelled-digits (suc k) n = digits_append (spelled_of k (n / 16)) (digit_of (n % 16) ∷ []) (spelled-digits k (n / 16)) (one-digit (n % 16) (omega arith))

number_append : (m : ℕ) (cs ds : List ℕ) → number_from m (cs ++ ds) ≡ number_from (number_from m cs) ds
unfolding number_from
number_append m [] ds = refl
number_append m (c ∷ cs) ds = number_append (m * 16 + worth_of c) cs ds

number-last : (m d : ℕ) → d < 16 → number_from m (digit_of d ∷ []) ≡ m * 16 + d
unfolding number_from
number-last m d h = ap (λ (k : ℕ). m * 16 + k) (worth-digit d h)

pub number_spelled : (k m n : ℕ) → number_from m (spelled_of k n) ≡ m * 2 ^ (4 * k) + n % 2 ^ (4 * k)
unfolding number_from spelled_of
number_spelled zero m n = omega arith
number_spelled (suc k) m n =
    let p = 2 ^ (4 * k) in
    let q = n / 16 % p in
    let four : 4 * suc k ≡ 4 * k + 4 = omega arith in
    let power : 2 ^ (4 * suc k) ≡ p * 16 = ap (λ (e : ℕ). 2 ^ e) four ∙ pow-add 2 (4 * k) 4 in
    let rest : n % 2 ^ (4 * suc k) ≡ q * 16 + n % 16 = ap (λ (e : ℕ). n % 2 ^ e) four ∙ mod-pow-add n (4 * k) 4 in
    number_append m (spelled_of k (n / 16)) (digit_of (n % 16) ∷ [])
    ∙ number-last (number_from m (spelled_of k (n / 16))) (n % 16) (omega arith)
    ∙ ap (λ (x : ℕ). x * 16 + n % 16) (number_spelled k m (n / 16))
    ∙ joined m p q (n % 16)
    ∙ ap (λ (x : ℕ). m * x + (q * 16 + n % 16)) (sym power)
    ∙ ap (λ (x : ℕ). m * 2 ^ (4 * suc k) + x) (sym rest)
  where
    joined : (m p q r : ℕ) → (m * p + q) * 16 + r ≡ m * (p * 16) + (q * 16 + r)
    joined m p q r = simp (sym (mul_assoc m p 16)) (omega arith)

-- ---- digits read and written again: the same digits
module _ where
  again : ℕ → Bool
  again c = not (is_digit c) || (ltb (worth_of c) 16 && eqb (digit_of (worth_of c)) c)

  digit_low : (c : ℕ) → is_digit c ≡ true → c < 71
  unfolding is_digit
  digit_low c e =
      let figure = leb 48 c && leb c 57 in
      let letter = leb 65 c && leb c 70 in
      let t : T (figure || letter) = subst T (sym e) tt in
      ⊎_elim (λ f. omega (arith, leb→le c 57 (and_r (leb 48 c) (leb c 57) f))) (λ f. omega (arith, leb→le c 70 (and_r (leb 65 c) (leb c 70) f))) (or_yes figure letter t)

  all-again : (c : ℕ) → c < 71 → T (again c)
  unfolding again is_digit worth_of digit_of
  all-again c h = every-at again 71 tt c h

  digit-again : (c : ℕ) → is_digit c ≡ true → (worth_of c < 16) × (digit_of (worth_of c) ≡ c)
  unfolding again
  digit-again c e =
      let low = ltb (worth_of c) 16 in
      let same = eqb (digit_of (worth_of c)) c in
      let t : T (low && same) = subst (λ (b : Bool). T (not b || (low && same))) e (all-again c (digit_low c e)) in
      (ltb→lt (worth_of c) 16 (and_l low same t), eqb→eq (digit_of (worth_of c)) c (and_r low same t))

number-one : (m c : ℕ) → number_from m (c ∷ []) ≡ m * 16 + worth_of c
unfolding number_from
number-one m c = refl

-- all but the last of so many digits, and the last
record Ended (k : ℕ) (l : List ℕ) : Type 0 where
  split : l ≡ take k l ++ (get_or l k 0 ∷ [])
  long : length (take k l) ≡ k
  digits : are_digits (take k l) ≡ true
  last : is_digit (get_or l k 0) ≡ true
  number : number_from 0 l ≡ number_from 0 (take k l) * 16 + worth_of (get_or l k 0)

ended : (k : ℕ) (l : List ℕ) → length l ≡ suc k → are_digits l ≡ true → Ended k l
ended k l h e =
    let split : l ≡ take k l ++ (get_or l k 0 ∷ []) = sym (take_all (suc k) l (omega arith)) ∙ take-suc l k 0 (omega arith) in
    record {
      split = split;
      long = length-take-le k l (omega arith);
      digits = digits-take k l e;
      last = digits-at l k e (omega arith);
      number = ap (number_from 0) split ∙ number_append 0 (take k l) (get_or l k 0 ∷ []) ∙ number-one (number_from 0 (take k l)) (get_or l k 0);
    }

pub number_fits : (k : ℕ) (l : List ℕ) → length l ≡ k → are_digits l ≡ true → number_from 0 l < 2 ^ (4 * k)
unfolding number_from
number_fits zero [] h e = omega arith
number_fits zero (c ∷ l) h e = omega arith
number_fits (suc k) l h e =
    let s = ended k l h e in
    subst (λ (n : ℕ). n < 2 ^ (4 * suc k)) (sym s.number)
    (subst (λ (m : ℕ). number_from 0 (take k l) * 16 + worth_of (get_or l k 0) < 2 ^ (4 * m)) (add-one k)
    (digits-below k _ _ (number_fits k (take k l) s.long s.digits) (digit-again (get_or l k 0) s.last).0))

pub spelled-number : (k : ℕ) (l : List ℕ) → length l ≡ k → are_digits l ≡ true → spelled_of k (number_from 0 l) ≡ l
unfolding spelled_of
spelled-number zero [] h e = refl
spelled-number zero (c ∷ l) h e = absurd (omega arith)
spelled-number (suc k) l h e =
    let s = ended k l h e in
    let p = take k l in
    let c = get_or l k 0 in
    let a = digit-again c s.last in
    ap (spelled_of (suc k)) s.number
    ∙ ap (λ (n : ℕ). spelled_of k n ++ (digit_of ((number_from 0 p * 16 + worth_of c) % 16) ∷ [])) (front (number_from 0 p) (worth_of c) a.0)
    ∙ ap (λ (n : ℕ). spelled_of k (number_from 0 p) ++ (digit_of n ∷ [])) (behind (number_from 0 p) (worth_of c) a.0)
    ∙ ap (λ (q : List ℕ). q ++ (digit_of (worth_of c) ∷ [])) (spelled-number k p s.long s.digits)
    ∙ ap (λ (d : ℕ). p ++ (d ∷ [])) a.1
    ∙ sym s.split
  where
    front : (n d : ℕ) → d < 16 → (n * 16 + d) / 16 ≡ n
    front n d h = omega arith

    behind : (n d : ℕ) → d < 16 → (n * 16 + d) % 16 ≡ d
    behind n d h = omega arith
