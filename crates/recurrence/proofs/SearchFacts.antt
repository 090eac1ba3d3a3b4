-- The search for two neighbouring orders on scale: one rung more, its end; each rung is counted once, so that it has found two or has climbed them all.
-- Assumes nothing.
use mathlib.Core.Path.{◌≡◌, refl, ap}
use mathlib.Core.Logic.{◌⊎◌, inl, inr}
use mathlib.Core.Bool.{Bool, true, false, cond}
use Prim.Native.Nat.{ℕ, suc, ◌+◌, ◌-◌, ◌≤◌, ◌<◌}
use native.Mathlib.Omega.{arith}
use lib.Ieee.{Float}
use Rattle.laws.specs.Run.{run}
use Rattle.laws.proofs.Run.{run-stop, run-next, run_end, run_ends}
use Rattle.complex.specs.declared.number.Complex.{Complex}
use Rattle.recurrence.specs.Search.{is_found, is_lowered, lowered_of, after_trial, search_step, search_from}
use Rattle.recurrence.specs.declared.search.Search.{Search}
use Rattle.recurrence.specs.Trial.{kept}
use Rattle.recurrence.specs.Rule.{Rule}

-- ---- each rung is counted once
after-rungs : (rule : Rule) (l : Float) (s : Search) → (after_trial rule l s).rungs ≡ s.rungs
unfolding after_trial lowered_of
after-rungs rule l s = go (kept s.latest) (is_lowered rule s.argument l)
  where
    go : (a b : Bool) → (cond a s (cond b (lowered_of s) s)).rungs ≡ s.rungs
    go true b = refl
    go false true = refl
    go false false = refl

pub step-counted : (rule : Rule) (base_order : Float) (two_over_z : Complex) (i : ℕ) (s : Search) → (search_step rule base_order two_over_z i s).rungs ≡ s.rungs + 1
unfolding search_step
step-counted rule base_order two_over_z i s = after-rungs rule _ _

-- ---- the search as the code counts: the rung i is next
module _ (rule : Rule) (base_order : Float) (two_over_z : Complex) (count : ℕ) where
  abbrev pub search_left : ℕ → Search → Search
  search_left i s = run (λ k t. is_found t) (search_step rule base_order two_over_z) (count + 1 - i) i s

  pub search-start : (s : Search) → search_from rule base_order two_over_z count s ≡ search_left 1 s
  unfolding search_from
  search-start s = ap (λ (k : ℕ). run (λ j t. is_found t) (search_step rule base_order two_over_z) k 1 s) (all count)
    where
      all : (n : ℕ) → n ≡ n + 1 - 1
      all n = omega arith

  pub search-next : (i : ℕ) (s : Search) → i < count + 1 → is_found s ≡ false → search_left i s ≡ search_left (i + 1) (search_step rule base_order two_over_z i s)
  search-next i s h e = run-next _ _ (count + 1) i s h e

  pub search-found : (i : ℕ) (s : Search) → is_found s ≡ true → search_left i s ≡ s
  search-found i s e = run-stop _ _ (count + 1 - i) i s e

  pub search-end : (i : ℕ) (s : Search) → count + 1 ≤ i → search_left i s ≡ s
  search-end i s h = run_end _ _ (count + 1) i s h

  -- ---- where it ends
  pub record Searched (s r : Search) : Type 0 where
    pub few : r.rungs ≤ s.rungs + count
    pub ended : (is_found r ≡ true) ⊎ (r.rungs ≡ s.rungs + count)

  pub search-ends : (s : Search) → Searched s (search_from rule base_order two_over_z count s)
  unfolding search_from
  search-ends s =
      let e = run_ends (λ k t. is_found t) (search_step rule base_order two_over_z) (λ k t. t.rungs + 1 ≡ s.rungs + k) keep count 1 s refl in
      let r = run (λ k t. is_found t) (search_step rule base_order two_over_z) count 1 s in
      record { few = less r.rungs s.rungs e.k e.holds e.to; ended = by r.rungs e.k e.holds e.ended }
    where
      keep : (k : ℕ) (t : Search) → is_found t ≡ false → t.rungs + 1 ≡ s.rungs + k → (search_step rule base_order two_over_z k t).rungs + 1 ≡ s.rungs + suc k
      keep k t f e = more (search_step rule base_order two_over_z k t).rungs t.rungs k s.rungs (step-counted rule base_order two_over_z k t) e
        where
          more : (a b k n : ℕ) → a ≡ b + 1 → b + 1 ≡ n + k → a + 1 ≡ n + suc k
          more a b k n g e = omega arith

      less : (a n k : ℕ) → a + 1 ≡ n + k → k ≤ 1 + count → a ≤ n + count
      less a n k e h = omega arith

      by : {B : Type 0} (a k : ℕ) → a + 1 ≡ s.rungs + k → B ⊎ (k ≡ 1 + count) → B ⊎ (a ≡ s.rungs + count)
      by a k e (inl b) = inl b
      by a k e (inr g) = inr (omega arith)
