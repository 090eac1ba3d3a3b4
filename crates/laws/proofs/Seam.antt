-- A buffer that is filled from one end. `Seam d p n out`: of the buffer d the first n places have been overwritten by p, and this is out now; `Down d q n out`: the places from n on, by q.
-- Laws for the start, for one store and for two, for what is read meanwhile, and for the full buffer. Assumes nothing.
use mathlib.Core.Path.{◌≡◌, refl, sym, ap, ◌∙◌, subst}
use mathlib.Core.List.{List, [], ◌∷◌, ◌++◌, append_assoc, append-nil}
use Prim.Native.Nat.{ℕ, suc, ◌+◌, ◌-◌, ◌≤◌, ◌<◌, zero-le}
use native.Mathlib.Nat.{le_of_lt, add-zero, add-suc, suc-add}
use native.Mathlib.Numerals.{add-one}
use native.Mathlib.Omega.{arith}
use lib.ListN.{length, take, drop, get_or, set, length-append, length-set, drop_of_length-le, get_or-append}
use lib.Seq.{drop-cons, set_at, take_at, drop_at, get_or-append-add, get_or-drop, get_or-take, length-take-le, take-length, take-suc}

pub record Seam {A : Type 0} (d p : List A) (n : ℕ) (out : List A) : Type 0 where
  pub count : length p ≡ n
  pub room : n ≤ length d
  pub same : length out ≡ length d
  pub is : out ≡ p ++ drop n d

module _ {A : Type 0} where
  pub seam-start : (d : List A) → Seam d [] 0 d
  seam-start d = record { count = refl; room = zero-le; same = refl; is = refl }

  -- one store, and the count one more
  pub seam-store : {d p out : List A} {n : ℕ} (a : A) → n < length d → Seam d p n out → Seam d (p ++ (a ∷ [])) (n + 1) (set out n a)
  seam-store {d} {p} {out} {n} a h s = record {
    count = length-append p (a ∷ []) ∙ ap (λ (k : ℕ). k + 1) s.count;
    room = omega arith;
    same = length-set out n a ∙ s.same;
    is =
        ap (λ (l : List A). set l n a) (s.is ∙ ap (λ (l : List A). p ++ l) (drop-cons d n a h))
        ∙ set_at p (get_or d n a) (drop (suc n) d) a n s.count
        ∙ sym (append_assoc p (a ∷ []) (drop (n + 1) d) ∙ ap (λ (k : ℕ). p ++ (a ∷ drop k d)) (add-one n));
  }

  -- the same where the new count and the place are written otherwise
  pub seam-store-at : {d p out : List A} {n : ℕ} (a : A) (i m : ℕ) → i ≡ n → m ≡ n + 1 → n < length d → Seam d p n out → Seam d (p ++ (a ∷ [])) m (set out i a)
  seam-store-at {d} {p} {out} {n} a i m e g h s =
      subst (λ (k : ℕ). Seam d (p ++ (a ∷ [])) k (set out i a)) (sym g) (subst (λ (k : ℕ). Seam d (p ++ (a ∷ [])) (n + 1) (set out k a)) (sym e) (seam-store a h s))

  -- a pair of stores, at n and at n + 1: `i` and `j` are how the code writes the places, and `m` the new count
  pub seam-pair : {d p out : List A} {n : ℕ} (a b : A) (i j m : ℕ) → i ≡ n → j ≡ n + 1 → m ≡ n + 2 → n + 1 < length d → Seam d p n out → Seam d (p ++ (a ∷ b ∷ [])) m (set (set out i a) j b)
  seam-pair {d} {p} {out} {n} a b i j m e g k h s =
      subst (λ (l : List A). Seam d l m (set (set out i a) j b)) (append_assoc p (a ∷ []) (b ∷ []))
      (seam-store-at b j m g (k ∙ more n) h (seam-store-at a i (n + 1) e refl (omega arith) s))
    where
      more : (n : ℕ) → n + 2 ≡ n + 1 + 1
      more n = omega arith

  -- what is written is known by another name
  pub seam-as : {d p q out : List A} {n : ℕ} → p ≡ q → Seam d p n out → Seam d q n out
  seam-as {d} {p} {q} {out} {n} e s = subst (λ (l : List A). Seam d l n out) e s

  -- the full buffer
  pub seam-full : {d p out : List A} {n : ℕ} → length d ≤ n → Seam d p n out → out ≡ p
  seam-full {d} {p} {out} {n} h s = s.is ∙ ap (λ (l : List A). p ++ l) (drop_of_length-le d h) ∙ append-nil p

  -- reading meanwhile: in front of the seam what was written, behind it what was there
  pub seam-take : {d p out : List A} {n : ℕ} → Seam d p n out → take n out ≡ p
  seam-take {d} {p} {out} {n} s = ap (λ (l : List A). take n l) s.is ∙ take_at p (drop n d) n s.count

  pub seam-drop : {d p out : List A} {n : ℕ} → Seam d p n out → drop n out ≡ drop n d
  seam-drop {d} {p} {out} {n} s = ap (λ (l : List A). drop n l) s.is ∙ drop_at p (drop n d) n s.count

  pub seam-front : {d p out : List A} {n : ℕ} (i : ℕ) (z : A) → i < n → Seam d p n out → get_or out i z ≡ get_or p i z
  seam-front {d} {p} {out} {n} i z h s = ap (λ (l : List A). get_or l i z) s.is ∙ get_or-append p (drop n d) z i (subst (λ (k : ℕ). i < k) (sym s.count) h)

  pub seam-behind : {d p out : List A} {n : ℕ} (i : ℕ) (z : A) → n ≤ i → Seam d p n out → get_or out i z ≡ get_or d i z
  seam-behind {d} {p} {out} {n} i z h s =
      ap (λ (l : List A). get_or l i z) s.is
      ∙ ap (λ (k : ℕ). get_or (p ++ drop n d) k z) (sym (ap (λ (k : ℕ). k + (i - n)) s.count ∙ whole n i h))
      ∙ get_or-append-add p (drop n d) (i - n) z
      ∙ get_or-drop n d (i - n) z
      ∙ ap (λ (k : ℕ). get_or d k z) (whole n i h)
    where
      whole : (n i : ℕ) → n ≤ i → n + (i - n) ≡ i
      whole n i h = omega arith

-- ---- from the last place down: the places from n on have been overwritten by q
pub record Down {A : Type 0} (d q : List A) (n : ℕ) (out : List A) : Type 0 where
  pub count : n + length q ≡ length d
  pub same : length out ≡ length d
  pub is : out ≡ take n d ++ q

module _ {A : Type 0} where
  pub down-start : (d : List A) → Down d [] (length d) d
  down-start d = record { count = add-zero (length d); same = refl; is = sym (append-nil (take (length d) d) ∙ take-length d) }

  -- one store, at the count that is reached: n below, from suc n
  pub down-store : {d q out : List A} {n : ℕ} (a : A) (i m : ℕ) → i ≡ n → m ≡ n + 1 → Down d q m out → Down d (a ∷ q) n (set out i a)
  down-store {d} {q} {out} {n} a i m e g s =
      let c : suc n + length q ≡ length d = ap (λ (k : ℕ). k + length q) (sym (g ∙ add-one n)) ∙ s.count in
      let h : n < length d = omega arith in
      record {
        count = add-suc n (length q) ∙ sym (suc-add n (length q)) ∙ c;
        same = length-set out i a ∙ s.same;
        is =
            ap (λ (k : ℕ). set out k a) e
            ∙ ap (λ (l : List A). set l n a) (s.is ∙ ap (λ (k : ℕ). take k d ++ q) (g ∙ add-one n) ∙ ap (λ (l : List A). l ++ q) (take-suc d n a h) ∙ append_assoc (take n d) (get_or d n a ∷ []) q)
            ∙ set_at (take n d) (get_or d n a) q a n (length-take-le n d (le_of_lt h));
      }

  pub down-full : {d q out : List A} {n : ℕ} → n ≡ 0 → Down d q n out → out ≡ q
  down-full {d} {q} {out} {n} e s = s.is ∙ ap (λ (k : ℕ). take k d ++ q) e

  pub down-as : {d p q out : List A} {n : ℕ} → p ≡ q → Down d p n out → Down d q n out
  down-as {d} {p} {q} {out} {n} e s = subst (λ (l : List A). Down d l n out) e s

  -- reading meanwhile: from the seam on what was written, below it what was there
  pub down-drop : {d q out : List A} {n : ℕ} → Down d q n out → drop n out ≡ q
  down-drop {d} {q} {out} {n} s = ap (λ (l : List A). drop n l) s.is ∙ drop_at (take n d) q n (length-take-le n d (subst (λ (k : ℕ). n ≤ k) s.count (more n (length q))))
    where
      more : (n k : ℕ) → n ≤ n + k
      more n k = omega arith

  pub down-behind : {d q out : List A} {n : ℕ} (i : ℕ) (z : A) → n ≤ i → Down d q n out → get_or out i z ≡ get_or q (i - n) z
  down-behind {d} {q} {out} {n} i z h s =
      ap (λ (k : ℕ). get_or out k z) (sym (whole n i h)) ∙ sym (get_or-drop n out (i - n) z) ∙ ap (λ (l : List A). get_or l (i - n) z) (down-drop s)
    where
      whole : (n i : ℕ) → n ≤ i → n + (i - n) ≡ i
      whole n i h = omega arith

  pub down-front : {d q out : List A} {n : ℕ} (i : ℕ) (z : A) → i < n → Down d q n out → get_or out i z ≡ get_or d i z
  down-front {d} {q} {out} {n} i z h s =
      ap (λ (l : List A). get_or l i z) s.is
      ∙ get_or-append (take n d) q z i (subst (λ (k : ℕ). i < k) (sym (length-take-le n d (subst (λ (k : ℕ). n ≤ k) s.count (more n (length q))))) h)
      ∙ get_or-take n d i z h
    where
      more : (n k : ℕ) → n ≤ n + k
      more n k = omega arith
