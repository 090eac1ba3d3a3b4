-- A part of a buffer that was lent and came back: `put_mid a k xs ys` is xs with ys in the place of the k elements from a on. Here: what it is for a part at the start, for a part to the end,
-- and for one such part after the other, as `fill(&mut out[0..a]); climb(&mut out[a..])` leaves them. Assumes nothing.
use mathlib.Core.Path.{◌≡◌, sym, ap, ◌∙◌}
use mathlib.Core.List.{List, [], ◌++◌, append-nil}
use Prim.Native.Nat.{ℕ, ◌+◌, ◌-◌, min, ◌≤◌}
use native.Mathlib.Nat.{le_of_eq, sub-zero}
use native.Mathlib.Omega.{arith}
use lib.ListN.{length, take, drop, length-append, length-take, length-drop, drop_of_length-le}
use lib.Seq.{take_at, drop_at, length-take-le}
use borrow.Rule.Slice.PartMut.{mid_of, post_of, put_mid}

module _ {A : Type 0} where
  -- how long a lent part is
  pub front_length : (a : ℕ) (xs : List A) → a ≤ length xs → length (mid_of 0 (a - 0) xs) ≡ a
  front_length a xs h = length-take (a - 0) xs ∙ small a (length xs) h
    where
      small : (a n : ℕ) → a ≤ n → min (a - 0) n ≡ a
      small a n h = omega arith

  pub rest-length : (a : ℕ) (xs : List A) → length (mid_of a (length xs - a) xs) ≡ length xs - a
  rest-length a xs = length-take-le (length xs - a) (drop a xs) (le_of_eq (sym (length-drop a xs)))

  -- a part at the start
  pub put_front : (a : ℕ) (xs ys : List A) → put_mid 0 (a - 0) xs ys ≡ ys ++ drop a xs
  put_front a xs ys = ap (λ (k : ℕ). ys ++ drop k xs) (sub-zero a)

  -- a part to the end
  none_left : (a : ℕ) (xs : List A) → post_of a (length xs - a) xs ≡ []
  none_left a xs = drop_of_length-le (drop a xs) (le_of_eq (length-drop a xs))

  pub put_rest : (a : ℕ) (xs ys : List A) → put_mid a (length xs - a) xs ys ≡ take a xs ++ ys
  put_rest a xs ys = ap (λ (l : List A). take a xs ++ (ys ++ l)) (none_left a xs) ∙ ap (λ (l : List A). take a xs ++ l) (append-nil ys)

  -- a part after what is known
  pub put-after : (a k : ℕ) (ys xs zs : List A) → length ys ≡ a → put_mid a k (ys ++ xs) zs ≡ ys ++ (zs ++ drop k xs)
  put-after a k ys xs zs h =
      ap (λ (l : List A). l ++ (zs ++ drop k (drop a (ys ++ xs)))) (take_at ys xs a h) ∙ ap (λ (l : List A). ys ++ (zs ++ drop k l)) (drop_at ys xs a h)

  -- the first a elements, and then all the others: the goal as it stands after the two calls
  pub put_both : (a : ℕ) (xs ys zs : List A) → length ys ≡ a → put_mid a (length (ys ++ post_of 0 (a - 0) xs) - a) (ys ++ post_of 0 (a - 0) xs) zs ≡ ys ++ zs
  put_both a xs ys zs h = put_rest a (ys ++ post_of 0 (a - 0) xs) zs ∙ ap (λ (l : List A). l ++ zs) (take_at ys (post_of 0 (a - 0) xs) a h)

  -- how long the second part is
  pub both-length : (a : ℕ) (xs ys : List A) → a ≤ length xs → length ys ≡ a → length (mid_of a (length (ys ++ post_of 0 (a - 0) xs) - a) (ys ++ post_of 0 (a - 0) xs)) ≡ length xs - a
  both-length a xs ys h e =
      rest-length a (ys ++ post_of 0 (a - 0) xs) ∙ ap (λ (n : ℕ). n - a) (length-append ys (post_of 0 (a - 0) xs)) ∙ less (length ys) (length (post_of 0 (a - 0) xs)) a (length xs) e (length-drop (a - 0) xs)
    where
      less : (y p a n : ℕ) → y ≡ a → p ≡ n - (a - 0) → y + p - a ≡ n - a
      less y p a n e g = omega arith
