-- A run whose state counts its own steps. As a loop goes through it: what is left of it, one step further on, and at its end. As a whole: it ends where its test first passes. Assumes nothing.
use mathlib.Core.Path.{◌≡◌, refl, sym, ap, ◌∙◌}
use mathlib.Core.Bool.{Bool, true, false}
use Prim.Native.Nat.{ℕ, zero, suc, ◌+◌, ◌-◌, ◌≤◌, ◌<◌}
use native.Mathlib.Numerals.{add-one}
use native.Mathlib.Omega.{arith}
use Rattle.laws.specs.Run.{run}
use Rattle.laws.specs.Iterate.{iterate}
use Rattle.laws.proofs.Run.{run-next, run-stop, run_end}
use Rattle.laws.proofs.First.{First, run-first}

-- from the state s, with N steps in all
abbrev pub left : {S : Type 0} → (S → Bool) → (S → S) → (S → ℕ) → ℕ → S → S
left stop step count N s = run (λ i p. stop p) (λ i p. step p) (N - count s) (count s) s

module _ {S : Type 0} (stop : S → Bool) (step : S → S) (count : S → ℕ) (N : ℕ) (s : S) where
  pub left-start : count s ≡ 0 → run (λ i p. stop p) (λ i p. step p) N 0 s ≡ left stop step count N s
  left-start e =
      let z : N ≡ N - 0 = omega arith in
      ap (λ (n : ℕ). run (λ i p. stop p) (λ i p. step p) n 0 s) z ∙ ap (λ (n : ℕ). run (λ i p. stop p) (λ i p. step p) (N - n) n s) (sym e)

  pub left-next : count (step s) ≡ count s + 1 → count s < N → stop s ≡ false → left stop step count N s ≡ left stop step count N (step s)
  left-next e h t = run-next (λ i p. stop p) (λ i p. step p) N (count s) s h t ∙ ap (λ (n : ℕ). run (λ i p. stop p) (λ i p. step p) (N - n) n (step s)) (sym e)

  pub left-stop : stop s ≡ true → left stop step count N s ≡ s
  left-stop t = run-stop (λ i p. stop p) (λ i p. step p) (N - count s) (count s) s t

  pub left_end : N ≤ count s → left stop step count N s ≡ s
  left_end h = run_end (λ i p. stop p) (λ i p. step p) N (count s) s h

module _ {S : Type 0} (stop : S → Bool) (step : S → S) (count : S → ℕ) (start : S) (none : count start ≡ 0) (counts : (s : S) → count (step s) ≡ count s + 1) where
  pub after-count : (k : ℕ) → count (iterate k step start) ≡ k
  unfolding iterate
  after-count zero = none
  after-count (suc k) = counts (iterate k step start) ∙ ap (λ (n : ℕ). n + 1) (after-count k) ∙ add-one k

  -- by the test, with as many steps counted as the first index has
  pub run-counted : (N n : ℕ) → n ≤ N → First true (λ k. stop (iterate k step start)) n
      → (stop (run (λ i p. stop p) (λ i p. step p) N 0 start) ≡ true) × (count (run (λ i p. stop p) (λ i p. step p) N 0 start) ≡ n)
  unfolding iterate
  run-counted N n h f =
      let e = run-first (λ i p. stop p) (λ i p. step p) (λ k. iterate k step start) (λ k. refl) n N h f in
      (ap stop e ∙ f.here, ap count e ∙ after-count n)
