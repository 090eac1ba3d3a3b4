-- The laws of a bounded run and of a bounded search, as a loop's proof uses them: a step more, the stop, the bound reached; and what they say of the result. Assumes nothing.
use mathlib.Core.Path.{◌≡◌, refl, sym, ap, ◌∙◌, subst}
use mathlib.Core.Logic.{◌⊎◌, inl, inr}
use Prim.Native.Nat.{ℕ, zero, suc, ◌+◌, ◌-◌, ◌≤◌, ◌<◌}
use native.Mathlib.Nat.{le_refl, le_of_eq, le_trans, le-suc, add-zero, add-suc, suc-add, eq-or-lt_of_le, sub-eq-zero_of_le}
use native.Mathlib.Numerals.{add-one}
use native.Mathlib.Omega.{arith}
use mathlib.Core.Bool.{Bool, true, false}
use Rattle.laws.specs.Run.{run_if, run, first_if, first_from}

module _ {S : Type 0} (stop : ℕ → S → Bool) (step : ℕ → S → S) where
  pub run_out : (i : ℕ) (s : S) → run stop step 0 i s ≡ s
  unfolding run
  run_out i s = refl

  stopped : (n i : ℕ) (s : S) (b : Bool) → b ≡ true → run_if stop step n b i s ≡ s
  unfolding run_if
  stopped zero i s b e = refl
  stopped (suc n) i s b e = ap (λ (t : Bool). run_if stop step (suc n) t i s) e

  pub run-stop : (n i : ℕ) (s : S) → stop i s ≡ true → run stop step n i s ≡ s
  unfolding run
  run-stop n i s e = stopped n i s (stop i s) e

  pub run_on : (n i : ℕ) (s : S) → stop i s ≡ false → run stop step (suc n) i s ≡ run stop step n (suc i) (step i s)
  unfolding run
  run_on n i s e = ap (λ (t : Bool). run_if stop step (suc n) t i s) e

  -- with a bound N and the count i of the code
  pub run-next : (N i : ℕ) (s : S) → i < N → stop i s ≡ false → run stop step (N - i) i s ≡ run stop step (N - (i + 1)) (i + 1) (step i s)
  run-next N i s h e =
      ap (λ (n : ℕ). run stop step n i s) (one N i h) ∙ run_on (N - (i + 1)) i s e ∙ ap (λ (k : ℕ). run stop step (N - (i + 1)) k (step i s)) (sym (add-one i))
    where
      one : (N i : ℕ) → i < N → N - i ≡ suc (N - (i + 1))
      one N i h = omega arith

  pub run_end : (N i : ℕ) (s : S) → N ≤ i → run stop step (N - i) i s ≡ s
  run_end N i s h = ap (λ (n : ℕ). run stop step n i s) (sub-eq-zero_of_le h) ∙ run_out i s

  -- where it ends: at a count k, by the test or by the bound, with what every step keeps
  pub record Ends (P : ℕ → S → Type 0) (n i : ℕ) (s : S) : Type 0 where
    pub k : ℕ
    pub from : i ≤ k
    pub to : k ≤ i + n
    pub holds : P k (run stop step n i s)
    pub ended : (stop k (run stop step n i s) ≡ true) ⊎ (k ≡ i + n)

  pub run_ends : (P : ℕ → S → Type 0) → ((k : ℕ) (t : S) → stop k t ≡ false → P k t → P (suc k) (step k t)) → (n i : ℕ) (s : S) → P i s → Ends P n i s
  run_ends P keep zero i s p =
      record { k = i; from = le_refl i; to = le_of_eq (sym (add-zero i)); holds = subst (λ (t : S). P i t) (sym (run_out i s)) p; ended = inr (sym (add-zero i)) }
  run_ends P keep (suc n) i s p = go (stop i s) refl (run_ends P keep n (suc i) (step i s))
    where
      more : (i n : ℕ) → i ≤ i + suc n
      more i n = omega arith

      go : (b : Bool) → stop i s ≡ b → (P (suc i) (step i s) → Ends P n (suc i) (step i s)) → Ends P (suc n) i s
      go true e next =
          let z : s ≡ run stop step (suc n) i s = sym (run-stop (suc n) i s e) in
          record { k = i; from = le_refl i; to = more i n; holds = subst (λ (t : S). P i t) z p; ended = inl (subst (λ (t : S). stop i t ≡ true) z e) }
      go false e next =
          let r = next (keep i s e p) in
          let z : run stop step n (suc i) (step i s) ≡ run stop step (suc n) i s = sym (run_on n i s e) in
          let w : suc i + n ≡ i + suc n = suc-add i n ∙ sym (add-suc i n) in
          record {
            k = r.k;
            from = le_trans (le-suc i) r.from;
            to = subst (λ (m : ℕ). r.k ≤ m) w r.to;
            holds = subst (λ (t : S). P r.k t) z r.holds;
            ended = subst (λ (t : S). (stop r.k t ≡ true) ⊎ (r.k ≡ i + suc n)) z (subst (λ (m : ℕ). (stop r.k (run stop step n (suc i) (step i s)) ≡ true) ⊎ (r.k ≡ m)) w r.ended);
          }

-- ---- the search
module _ (test : ℕ → Bool) where
  pub first_out : (i : ℕ) → first_from test 0 i ≡ i
  unfolding first_from
  first_out i = refl

  here : (n i : ℕ) (b : Bool) → b ≡ true → first_if test n b i ≡ i
  unfolding first_if
  here zero i b e = refl
  here (suc n) i b e = ap (λ (t : Bool). first_if test (suc n) t i) e

  pub first-here : (n i : ℕ) → test i ≡ true → first_from test n i ≡ i
  unfolding first_from
  first-here n i e = here n i (test i) e

  pub first_on : (n i : ℕ) → test i ≡ false → first_from test (suc n) i ≡ first_from test n (suc i)
  unfolding first_from
  first_on n i e = ap (λ (t : Bool). first_if test (suc n) t i) e

  pub first_next : (N i : ℕ) → i < N → test i ≡ false → first_from test (N - i) i ≡ first_from test (N - (i + 1)) (i + 1)
  first_next N i h e = ap (λ (n : ℕ). first_from test n i) (one N i h) ∙ first_on (N - (i + 1)) i e ∙ ap (λ (k : ℕ). first_from test (N - (i + 1)) k) (sym (add-one i))
    where
      one : (N i : ℕ) → i < N → N - i ≡ suc (N - (i + 1))
      one N i h = omega arith

  pub first-end : (N i : ℕ) → N ≤ i → first_from test (N - i) i ≡ i
  first-end N i h = ap (λ (n : ℕ). first_from test n i) (sub-eq-zero_of_le h) ∙ first_out i

  -- what is found: it lies in the range, passes the test unless it is the range's end, and none before it does
  pub record Found (n i : ℕ) : Type 0 where
    pub from : i ≤ first_from test n i
    pub to : first_from test n i ≤ i + n
    pub passes : (test (first_from test n i) ≡ true) ⊎ (first_from test n i ≡ i + n)
    pub before : (k : ℕ) → i ≤ k → k < first_from test n i → test k ≡ false

  none_between : (i k m : ℕ) → m ≡ i → i ≤ k → k < m → ⊥
  none_between i k m e h l = omega arith

  pub found : (n i : ℕ) → Found n i
  found zero i =
      let z = first_out i in
      record { from = le_of_eq (sym z); to = le_of_eq (z ∙ sym (add-zero i)); passes = inr (z ∙ sym (add-zero i)); before = λ k h l. absurd (none_between i k (first_from test 0 i) z h l) }
  found (suc n) i = go (test i) refl (found n (suc i))
    where
      more : (i n m : ℕ) → m ≡ i → m ≤ i + suc n
      more i n m e = omega arith

      go : (b : Bool) → test i ≡ b → Found n (suc i) → Found (suc n) i
      go true e r =
          let z = first-here (suc n) i e in
          record {
            from = le_of_eq (sym z);
            to = more i n (first_from test (suc n) i) z;
            passes = inl (ap test z ∙ e);
            before = λ k h l. absurd (none_between i k (first_from test (suc n) i) z h l);
          }
      go false e r =
          let z : first_from test n (suc i) ≡ first_from test (suc n) i = sym (first_on n i e) in
          let w : suc i + n ≡ i + suc n = suc-add i n ∙ sym (add-suc i n) in
          record {
            from = subst (λ (m : ℕ). i ≤ m) z (le_trans (le-suc i) r.from);
            to = subst (λ (m : ℕ). m ≤ i + suc n) z (subst (λ (m : ℕ). first_from test n (suc i) ≤ m) w r.to);
            passes = subst (λ (m : ℕ). (test m ≡ true) ⊎ (m ≡ i + suc n)) z (subst (λ (m : ℕ). (test (first_from test n (suc i)) ≡ true) ⊎ (first_from test n (suc i) ≡ m)) w r.passes);
            before = λ k h l. at k (eq-or-lt_of_le h) (subst (λ (m : ℕ). k < m) (sym z) l);
          }
        where
          at : (k : ℕ) → (i ≡ k) ⊎ (i < k) → k < first_from test n (suc i) → test k ≡ false
          at k (inl g) l = ap test (sym g) ∙ e
          at k (inr g) l = r.before k g l
