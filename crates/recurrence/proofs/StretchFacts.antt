-- What a rung is where its value was held: the state stays. Part of a climb: its start, one rung more, two parts in a row. Assumes nothing.
use mathlib.Core.Path.{◌≡◌, refl, sym, ap, ◌∙◌}
use mathlib.Core.Bool.{Bool, true, false, true≢false, cond}
use Prim.Native.Nat.{ℕ, ◌+◌, ◌-◌, ◌≤◌, ◌<◌}
use native.Mathlib.Nat.{le_refl}
use native.Mathlib.Omega.{arith}
use lib.Ieee.{Float, lt}
use Rattle.laws.specs.Operators.{◌⊕◌, ◌⊖◌, ◌⊗◌}
use Rattle.complex.specs.declared.number.Complex.{Complex}
use Rattle.complex.specs.Arithmetic.{plus_of, product_of, times_real}
use Rattle.machine.specs.Magnitude.{magnitude_of}
use Rattle.recurrence.specs.State.{reciprocal_of, limit_of}
use Rattle.recurrence.specs.Rung.{factor_of, next_of, exceeds, rung_of}
use Rattle.recurrence.specs.Climb.{climb_from}
use Rattle.recurrence.specs.shapes.Held.{held_of}
use Rattle.recurrence.specs.shapes.Stretch.{Partway}
use Rattle.recurrence.specs.declared.state.Climb.{Climb}
use Rattle.recurrence.specs.declared.state.Rung.{Rung}
use Rattle.std.specs.Prelude.{Option, Some, None, is_some, unwrap_or}
use Rattle.recurrence.specs.declared.course.Course.{Course}
use Rattle.recurrence.proofs.ClimbFacts.{climb-out, climb-last, climb-again, rung-counted}
use Rattle.recurrence.proofs.LimitFacts.{limit-stays}
use Rattle.recurrence.proofs.RungFacts.{stays}

-- a value that was held is the next one, and is not above the limit
pub held-value : (limit : Float) (next w : Complex) → Some w ≡ held_of limit next → (w ≡ next) × (exceeds limit next ≡ false)
unfolding held_of
held-value limit next w e = go (exceeds limit next) refl
  where
    go : (b : Bool) → exceeds limit next ≡ b → (w ≡ next) × (exceeds limit next ≡ false)
    go true h = absurd (some≢none (e ∙ ap (λ (b : Bool). cond b None (Some next)) h))
      where
        some≢none : Some w ≡ None → ⊥
        some≢none p = absurd (true≢false (ap is_some p))
    go false h = (ap (λ (o : Option Complex). unwrap_or o w) (e ∙ ap (λ (b : Bool). cond b None (Some next)) h), h)

-- by its parts: the real one is tested first
module _ (limit : Float) (factor older newer : Complex) where
  abbrev pub next_re : Float
  next_re = older.re ⊕ (factor.re ⊗ newer.re ⊖ factor.im ⊗ newer.im)

  abbrev pub next_im : Float
  next_im = older.im ⊕ (factor.re ⊗ newer.im ⊕ factor.im ⊗ newer.re)

  pub not-held-re : lt limit (magnitude_of next_re) ≡ true → None ≡ held_of limit (next_of factor older newer)
  unfolding held_of exceeds next_of plus_of product_of
  not-held-re h = rw h

  pub not-held-im : lt limit (magnitude_of next_re) ≡ false → lt limit (magnitude_of next_im) ≡ true → None ≡ held_of limit (next_of factor older newer)
  unfolding held_of exceeds next_of plus_of product_of
  not-held-im h k = rw (h, k)

  pub held-parts : lt limit (magnitude_of next_re) ≡ false → lt limit (magnitude_of next_im) ≡ false → Some (record { re = next_re; im = next_im }) ≡ held_of limit (next_of factor older newer)
  unfolding held_of exceeds next_of plus_of product_of
  held-parts h k = rw (h, k)

module _ (two_over_z : Complex) (base_order : Float) where
  -- what a rung is where its value was held: the state stays
  pub held-rung : {most : Float} (i n : ℕ) (c : Climb) (w : Complex) → n ≡ c.rungs + 1 → most ≡ limit_of c.state
      → Some w ≡ held_of most (next_of (factor_of two_over_z base_order i) c.older c.newer)
      → record { climb = record { older = c.newer; newer = w; state = c.state; rungs = n }; entry = times_real w (reciprocal_of c.state); moved = false } ≡ rung_of two_over_z base_order i c
  held-rung {most} i n c w l m e =
      let h = held-value most (next_of (factor_of two_over_z base_order i) c.older c.newer) w e in
      ap (λ (j : ℕ). record { climb = record { older = c.newer; newer = w; state = c.state; rungs = j }; entry = times_real w (reciprocal_of c.state); moved = false }) l
      ∙ stays two_over_z base_order i c w (times_real w (reciprocal_of c.state)) h.0 refl
      (limit-stays c.state w (ap (exceeds (limit_of c.state)) h.0 ∙ ap (λ (b : Float). exceeds b (next_of (factor_of two_over_z base_order i) c.older c.newer)) (sym m) ∙ h.1))

  pub partway_start : (from to : ℕ) (c : Climb) → Partway two_over_z base_order from to c c
  partway_start from to c = record {
    counted = le_refl c.rungs;
    inside = few c.rungs (to - from);
    climbed = sym (climb-out two_over_z base_order from c) ∙ ap (λ (n : ℕ). climb_from two_over_z base_order from n c) (none c.rungs);
  }
    where
      few : (n m : ℕ) → n - n ≤ m
      few n m = omega arith

      none : (n : ℕ) → 0 ≡ n - n
      none n = omega arith

  pub partway-rung : {from to : ℕ} {start c : Climb} (i : ℕ) (d : Climb) → i ≡ from + (c.rungs - start.rungs) → i < to → d ≡ (rung_of two_over_z base_order i c).climb
      → Partway two_over_z base_order from to start c → Partway two_over_z base_order from to start d
  partway-rung {from} {to} {start} {c} i d e h g p =
      let n : d.rungs ≡ c.rungs + 1 = ap (λ (k : Climb). k.rungs) g ∙ rung-counted two_over_z base_order i c in
      let m = p.counted in
      let l : d.rungs - start.rungs ≡ c.rungs - start.rungs + 1 = omega arith in
      record {
        counted = omega arith;
        inside = omega arith;
        climbed =
            g
            ∙ ap (λ (k : ℕ). (rung_of two_over_z base_order k c).climb) e
            ∙ ap (λ (k : Climb). (rung_of two_over_z base_order (from + (c.rungs - start.rungs)) k).climb) p.climbed
            ∙ sym (climb-last two_over_z base_order from (c.rungs - start.rungs) start)
            ∙ ap (λ (k : ℕ). climb_from two_over_z base_order from k start) (sym l);
      }

  -- part of a climb that stands at the index i, and one rung more
  pub record Standing (from to : ℕ) (start : Climb) (i : ℕ) (c : Climb) : Type 0 where
    pub at : i ≡ from + (c.rungs - start.rungs)
    pub part : Partway two_over_z base_order from to start c

  pub standing-start : (from to : ℕ) (c : Climb) → Standing from to c from c
  standing-start from to c = record { at = none from c.rungs; part = partway_start from to c }
    where
      none : (m n : ℕ) → m ≡ m + (n - n)
      none m n = omega arith

  pub standing-rung : {from to i : ℕ} {start c : Climb} (j : ℕ) (d : Climb) → j ≡ i + 1 → i < to → d ≡ (rung_of two_over_z base_order i c).climb → Standing from to start i c → Standing from to start j d
  standing-rung {from} {to} {i} {start} {c} j d u h e s =
      let t = s.at in
      let g = s.part.counted in
      let l = ap (λ (k : Climb). k.rungs) e ∙ rung-counted two_over_z base_order i c in
      record { at = omega arith; part = partway-rung i d t h e s.part }

  pub standing-held : {from to i : ℕ} {start c : Climb} {most : Float} (j n : ℕ) (w : Complex) → j ≡ i + 1 → n ≡ c.rungs + 1 → i < to → most ≡ limit_of c.state
      → Some w ≡ held_of most (next_of (factor_of two_over_z base_order i) c.older c.newer)
      → Standing from to start i c → Standing from to start j (record { older = c.newer; newer = w; state = c.state; rungs = n })
  standing-held {from} {to} {i} {start} {c} {most} j n w u l h m e s =
      standing-rung j (record { older = c.newer; newer = w; state = c.state; rungs = n }) u h (ap (λ (r : Rung). r.climb) (held-rung i n c w l m e)) s

  -- two parts in a row, the second up to an index before the end
  pub partway-again : {from to to' : ℕ} {a b c : Climb} (i : ℕ) → i ≡ from + (b.rungs - a.rungs) → to' ≤ to → Partway two_over_z base_order from to a b → Partway two_over_z base_order i to' b c
      → Partway two_over_z base_order from to a c
  partway-again {from} {to} {to'} {a} {b} {c} i e h p q =
      let m = p.counted in
      let n = q.counted in
      let u = p.inside in
      let v = q.inside in
      let l : b.rungs - a.rungs + (c.rungs - b.rungs) ≡ c.rungs - a.rungs = omega arith in
      record {
        counted = omega arith;
        inside = omega arith;
        climbed =
            q.climbed
            ∙ ap (λ (k : ℕ). climb_from two_over_z base_order k (c.rungs - b.rungs) b) e
            ∙ ap (λ (k : Climb). climb_from two_over_z base_order (from + (b.rungs - a.rungs)) (c.rungs - b.rungs) k) p.climbed
            ∙ climb-again two_over_z base_order from (b.rungs - a.rungs) (c.rungs - b.rungs) a
            ∙ ap (λ (k : ℕ). climb_from two_over_z base_order from k a) l;
      }

-- ---- a turn of four rungs: one rung of it, two, three, four
module _ (g : Course) (start : Climb) (from : ℕ) where
  abbrev pub Turning : ℕ → Climb → Type 0
  Turning i c = Standing g.ladder.two_over_z g.ladder.base_order from (from + 4) start i c

  abbrev pub Next : ℕ → Complex → Complex → Complex → Type 0
  Next i older newer w = Some w ≡ held_of g.most (next_of (factor_of g.ladder.two_over_z g.ladder.base_order i) older newer)

  pub turn-start : Turning from start
  turn-start = standing-start g.ladder.two_over_z g.ladder.base_order from (from + 4) start

  module _ (b : g.most ≡ limit_of start.state) where
    pub turn_one : {w₁ : Complex} → Next from start.older start.newer w₁ → Turning (from + 1) (record { older = start.newer; newer = w₁; state = start.state; rungs = start.rungs + 1 })
    turn_one {w₁} e₁ = standing-held g.ladder.two_over_z g.ladder.base_order (from + 1) (start.rungs + 1) w₁ refl refl (omega arith) b e₁ turn-start

    pub turn_two : {w₁ w₂ : Complex} → Next from start.older start.newer w₁ → Next (from + 1) start.newer w₁ w₂
        → Turning (from + 2) (record { older = w₁; newer = w₂; state = start.state; rungs = start.rungs + 2 })
    turn_two {w₁} {w₂} e₁ e₂ = standing-held g.ladder.two_over_z g.ladder.base_order (from + 2) (start.rungs + 2) w₂ (omega arith) (omega arith) (omega arith) b e₂ (turn_one e₁)

    pub turn_three : {w₁ w₂ w₃ : Complex} → Next from start.older start.newer w₁ → Next (from + 1) start.newer w₁ w₂ → Next (from + 2) w₁ w₂ w₃
        → Turning (from + 3) (record { older = w₂; newer = w₃; state = start.state; rungs = start.rungs + 3 })
    turn_three {w₁} {w₂} {w₃} e₁ e₂ e₃ = standing-held g.ladder.two_over_z g.ladder.base_order (from + 3) (start.rungs + 3) w₃ (omega arith) (omega arith) (omega arith) b e₃ (turn_two e₁ e₂)

    pub turn-four : {w₁ w₂ w₃ w₄ : Complex} → Next from start.older start.newer w₁ → Next (from + 1) start.newer w₁ w₂ → Next (from + 2) w₁ w₂ w₃ → Next (from + 3) w₂ w₃ w₄
        → Turning (from + 4) (record { older = w₃; newer = w₄; state = start.state; rungs = start.rungs + 4 })
    turn-four {w₁} {w₂} {w₃} {w₄} e₁ e₂ e₃ e₄ =
        standing-held g.ladder.two_over_z g.ladder.base_order (from + 4) (start.rungs + 4) w₄ (omega arith) (omega arith) (omega arith) b e₄ (turn_three e₁ e₂ e₃)
