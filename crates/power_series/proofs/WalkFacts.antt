-- The visit as its loop goes through it: the cells written so far, and the run that is left. Assumes nothing.
use mathlib.Core.Path.{◌≡◌, refl, sym, ap, ◌∙◌, subst}
use mathlib.Core.Bool.{Bool, true, false}
use mathlib.Core.List.{List, [], ◌∷◌, ◌++◌}
use Prim.Native.Nat.{ℕ, suc, ◌+◌, ◌-◌, ◌*◌, ◌≤◌, ◌<◌}
use native.Mathlib.Nat.{le_refl}
use native.Mathlib.Omega.{arith}
use lib.ListN.{length, drop, set, replicate, length-drop, take-append-drop}
use lib.Ieee.{Float}
use borrow.Rule.Slice.PartMut.{mid_of, put_mid}
use Rattle.laws.specs.Run.{run}
use Rattle.laws.proofs.Run.{run_on, run-stop, run_out, run_ends}
use Rattle.laws.proofs.Part.{front_length, put_front}
use Rattle.laws.proofs.Seam.{Down, down-start, down-store, down-drop}
use Rattle.series_step.specs.declared.setting.Setting.{Setting}
use Rattle.series_step.specs.declared.descent.Descent.{Descent}
use Rattle.series_step.specs.Descent.{start_descent}
use Rattle.series_step.specs.Step.{step_of}
use Rattle.series_step.proofs.StepFacts.{zeros-grow, rungs-grow}
use Rattle.power_series.specs.declared.visit.Standing.{Standing}
use Rattle.power_series.specs.declared.visit.Visit.{Visit}
use Rattle.power_series.specs.Visit.{Walk, Visited, start_walk, is_stopped, with_entry, next_walk, walk_of, visited_of, visit_of}
use Rattle.power_series.specs.shapes.Pair.{Settled, walk_from}
use Rattle.power_series.specs.shapes.Visit.{concluded_of}

-- nothing is written yet above the n-th cell
down-from : (n : ℕ) (d : List Float) → n ≤ length d → Down d (drop n d) n d
down-from n d h = record { count = count; same = refl; is = sym (take-append-drop n d) }
  where
    count : n + length (drop n d) ≡ length d
    count = simp length-drop (omega arith)

abbrev pub stopping : ℕ → Walk → Bool
stopping i w = is_stopped w

abbrev pub stepping : Setting → ℕ → Walk → Walk
stepping g i w = next_walk g w

abbrev pub at : ℕ → Descent → List Float → Walk
at left state cells = record { standing = record { left = left; state = state }; cells = cells }

-- `left` of n orders are left, of the buffer d the cells above them are written, and the walk ends as the whole one does
pub record Walking (g : Setting) (whole : Walk) (d : List Float) (n left : ℕ) (state : Descent) (out : List Float) : Type 0 where
  pub cells : List Float
  pub down : Down d cells (left * 2) out
  pub low : left ≤ n
  pub zeros : state.counts.zeros + left ≤ n
  pub rungs : state.counts.rungs + left ≤ n
  pub rest : whole ≡ run stopping (stepping g) left (n - left) (at left state cells)

module _ (g : Setting) (d : List Float) (n : ℕ) where
  pub walking_start : length d ≡ n * 2 → (state : Descent) → state ≡ start_descent → Walking g (walk_of g n) d n n state d
  unfolding walk_of start_walk start_descent
  walking_start e state s = subst (λ (t : Descent). Walking g (walk_of g n) d n n t d) (sym s) (record {
    cells = [];
    down = subst (λ (k : ℕ). Down d [] k d) e (down-start d);
    low = le_refl n;
    zeros = omega arith;
    rungs = omega arith;
    rest = ap (λ (i : ℕ). run stopping (stepping g) n i (start_walk n)) none;
  })
    where
      none : 0 ≡ n - n
      none = omega arith

  -- from where `left` orders are left
  pub walking-from : (left : ℕ) (state : Descent) → length d ≡ n * 2 → Settled n left state → Walking g (walk_from g n left state (drop (left * 2) d)) d n left state d
  unfolding walk_from
  walking-from left state e s =
      let low : left ≤ n = s.low in
      record {
        cells = drop (left * 2) d;
        down = down-from (left * 2) d (omega arith);
        low = low;
        zeros = s.zeros;
        rungs = s.rungs;
        rest = refl;
      }

  module _ {whole : Walk} {left : ℕ} {state : Descent} {out : List Float} (w : Walking g whole d n left state out) where
    pub walking-step :
        (t : Descent) → t ≡ step_of g (left - 1) state → 0 < left → state.stopped ≡ false →
        Walking g whole d n (left - 1) t (set (set out ((left - 1) * 2 + 1) t.above.im) ((left - 1) * 2) t.above.re)
    unfolding is_stopped next_walk with_entry
    walking-step t e h s =
        let z : t.counts.zeros ≤ state.counts.zeros + 1 = subst (λ (q : Descent). q.counts.zeros ≤ state.counts.zeros + 1) (sym e) (zeros-grow g (left - 1) state) in
        let r : t.counts.rungs ≤ state.counts.rungs + 1 = subst (λ (q : Descent). q.counts.rungs ≤ state.counts.rungs + 1) (sym e) (rungs-grow g (left - 1) state) in
        let below : left ≤ n = w.low in
        let zeros : state.counts.zeros + left ≤ n = w.zeros in
        let rungs : state.counts.rungs + left ≤ n = w.rungs in
        record {
          cells = t.above.re ∷ t.above.im ∷ w.cells;
          down = down-store t.above.re ((left - 1) * 2) ((left - 1) * 2 + 1) refl refl (down-store t.above.im ((left - 1) * 2 + 1) (left * 2) refl (two left h) w.down);
          low = omega arith;
          zeros = omega arith;
          rungs = omega arith;
          rest =
              w.rest
              ∙ ap (λ (m : ℕ). run stopping (stepping g) m (n - left) (at left state w.cells)) (one left h)
              ∙ run_on stopping (stepping g) (left - 1) (n - left) (at left state w.cells) s
              ∙ ap (λ (i : ℕ). run stopping (stepping g) (left - 1) i (next_walk g (at left state w.cells))) (next n left h below)
              ∙ ap (λ (q : Descent). run stopping (stepping g) (left - 1) (n - (left - 1)) (at (left - 1) q (q.above.re ∷ q.above.im ∷ w.cells))) (sym e);
        }
      where
        two : (left : ℕ) → 0 < left → left * 2 ≡ (left - 1) * 2 + 1 + 1
        two left h = omega arith

        one : (left : ℕ) → 0 < left → left ≡ suc (left - 1)
        one left h = omega arith

        next : (n left : ℕ) → 0 < left → left ≤ n → suc (n - left) ≡ n - (left - 1)
        next n left h l = omega arith

    -- where the entry's two cells are written by a call
    pub walking-put :
        (t : Descent) → t ≡ step_of g (left - 1) state → 0 < left → state.stopped ≡ false →
        (cells : List Float) → cells ≡ set (set out ((left - 1) * 2 + 1) t.above.im) ((left - 1) * 2) t.above.re →
        Walking g whole d n (left - 1) t cells
    walking-put t e h s cells f = subst (λ (l : List Float). Walking g whole d n (left - 1) t l) (sym f) (walking-step t e h s)

    -- the same for the order of the index k, which is the next below
    pub walking-at :
        (k : ℕ) → k + 1 ≡ left → (t : Descent) → t ≡ step_of g k state → state.stopped ≡ false →
        (cells : List Float) → cells ≡ set (set out (k * 2 + 1) t.above.im) (k * 2) t.above.re →
        Walking g whole d n k t cells
    walking-at k e t s h cells f =
        let at-k : left - 1 ≡ k = omega arith in
        let back : k ≡ left - 1 = sym at-k in
        subst (λ (q : ℕ). Walking g whole d n q t cells) at-k
        (walking-put t (s ∙ ap (λ (q : ℕ). step_of g q state) back) (omega arith) h cells
        (f ∙ ap (λ (q : ℕ). set (set out (q * 2 + 1) t.above.im) (q * 2) t.above.re) back))

    pub walking-stop : state.stopped ≡ true → whole ≡ at left state w.cells
    unfolding is_stopped
    walking-stop s = w.rest ∙ run-stop stopping (stepping g) left (n - left) (at left state w.cells) s

    pub walking-end : left ≡ 0 → whole ≡ at left state w.cells
    walking-end e = w.rest ∙ ap (λ (m : ℕ). run stopping (stepping g) m (n - left) (at left state w.cells)) e ∙ run_out stopping (stepping g) (n - left) (at left state w.cells)

    -- the visit from here on
    pub walking-whole : whole ≡ walk_from g n left state (drop (left * 2) out)
    unfolding walk_from
    walking-whole = w.rest ∙ ap (λ (l : List Float). run stopping (stepping g) left (n - left) (at left state l)) (sym (down-drop w.down))

    -- the answer of the loop
    pub walking-standing : whole ≡ at left state w.cells → record { left = left; state = state } ≡ whole.standing
    walking-standing e = ap (λ (q : Walk). q.standing) (sym e)

    pub walking-cells : whole ≡ at left state w.cells → drop (left * 2) out ≡ whole.cells
    walking-cells e = down-drop w.down ∙ ap (λ (q : Walk). q.cells) (sym e)

    -- the same, where the number of orders left is written otherwise
    pub walking-answer : whole ≡ at left state w.cells → (k : ℕ) → left ≡ k → (◌≡◌ {A = Standing} (record { left = k; state = state }) whole.standing) × (drop (k * 2) out ≡ whole.cells)
    walking-answer e k f =
        subst (λ (q : ℕ). (◌≡◌ {A = Standing} (record { left = q; state = state }) whole.standing) × (drop (q * 2) out ≡ whole.cells)) f
        (walking-standing e, walking-cells e)

-- no more orders are left than there were
pub walk-left : (g : Setting) (n : ℕ) → (walk_of g n).standing.left ≤ n
unfolding walk_of start_walk next_walk with_entry
walk-left g n = (run_ends stopping (stepping g) (λ i w. w.standing.left ≤ n) keep n 0 (start_walk n) (le_refl n)).holds
  where
    keep : (i : ℕ) (w : Walk) → is_stopped w ≡ false → w.standing.left ≤ n → (next_walk g w).standing.left ≤ n
    keep i w e h = omega arith

pub standing-left : (g : Setting) (n : ℕ) (r : Standing) → r ≡ (walk_of g n).standing → r.left ≤ n
standing-left g n r e = subst (λ (q : Standing). q.left ≤ n) (sym e) (walk-left g n)

-- the first a cells filled with one value, the others as they are
pub below-filled : (a : ℕ) (xs ys zs : List Float) (r q : Float) → a ≤ length xs → ys ≡ replicate (length (mid_of 0 (a - 0) xs)) r → r ≡ q → drop a xs ≡ zs → put_mid 0 (a - 0) xs ys ≡ replicate a q ++ zs
below-filled a xs ys zs r q h f e g =
    put_front a xs ys
    ∙ ap (λ (l : List Float). l ++ drop a xs) (f ∙ ap (λ (k : ℕ). replicate k r) (front_length a xs h) ∙ ap (λ (x : Float). replicate a x) e)
    ∙ ap (λ (l : List Float). replicate a q ++ l) g

-- the record and the cells of a visit that ended at r, from those that it was concluded with
pub concluded-visit :
    (g : Setting) (n : ℕ) (r : Standing) (out : List Float) → r ≡ (walk_of g n).standing → drop (r.left * 2) out ≡ (walk_of g n).cells →
    {v : Visit} {cells : List Float} → (v ≡ (concluded_of r out).visit) × (cells ≡ (concluded_of r out).cells) →
    (v ≡ (visit_of g n).visit) × (cells ≡ (visit_of g n).cells)
unfolding concluded_of visit_of
concluded-visit g n r out e f k =
    let same = concluded-same in
    (k.0 ∙ ap (λ (v : Visited). v.visit) same, k.1 ∙ ap (λ (v : Visited). v.cells) same)
  where
    concluded-same : concluded_of r out ≡ visit_of g n
    concluded-same =
        ap (λ (l : List Float). visited_of (record { standing = r; cells = l })) f
        ∙ ap (λ (q : Standing). visited_of (record { standing = q; cells = (walk_of g n).cells })) e
