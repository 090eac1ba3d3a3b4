-- Texts one behind the other. Assumes nothing.
use mathlib.Core.Path.{◌≡◌, ap, ◌∙◌}
use mathlib.Core.List.{List, ◌++◌, append_assoc}
use Prim.Native.Nat.{ℕ, ◌+◌}
use lib.ListN.{length, length-append}

pub two : (a p q x y : List ℕ) → x ≡ a ++ p → y ≡ x ++ q → y ≡ a ++ (p ++ q)
two a p q x y e f = f ∙ ap (λ (l : List ℕ). l ++ q) e ∙ append_assoc a p q

pub three : (a p q r x y z : List ℕ) → x ≡ a ++ p → y ≡ x ++ q → z ≡ y ++ r → z ≡ a ++ (p ++ (q ++ r))
three a p q r x y z e f g = two a p (q ++ r) x z e (two x q r y z f g)

pub four : (a p q r s w x y z : List ℕ) → w ≡ a ++ p → x ≡ w ++ q → y ≡ x ++ r → z ≡ y ++ s → z ≡ a ++ (p ++ (q ++ (r ++ s)))
four a p q r s w x y z d e f g = two a p (q ++ (r ++ s)) w z d (three w q r s x y z e f g)

pub behind_length : (a p x : List ℕ) → x ≡ a ++ p → length x ≡ length a + length p
behind_length a p x e = ap length e ∙ length-append a p
