-- The climb that fills: one rung more, two fills in a row; its climb is the plain one, and its cells are two a rung. Part of it, in the buffer that it
-- fills, as a state keeps it and off its scale: its start, one rung more, two parts in a row. Assumes nothing.
use mathlib.Core.Path.{◌≡◌, refl, sym, ap, ◌∙◌, subst}
use mathlib.Core.Bool.{Bool, true, false}
use mathlib.Core.List.{List, [], ◌∷◌, ◌++◌, append_assoc, append-nil}
use Prim.Native.Nat.{ℕ, zero, suc, ◌+◌, ◌-◌, ◌*◌, ◌≤◌, ◌<◌}
use native.Mathlib.Nat.{add-zero, add-suc, add_assoc}
use native.Mathlib.Numerals.{add-one}
use native.Mathlib.Omega.{arith}
use lib.ListN.{length, take, drop, set, length-append, take-append-drop}
use lib.Seq.{length-take-le, drop-drop}
use lib.Ieee.{Float}
use Rattle.laws.proofs.Run.{run_out}
use Rattle.laws.proofs.Seam.{Seam, seam-pair, seam-as, seam-take, seam-drop}
use Rattle.complex.specs.declared.number.Complex.{Complex}
use Rattle.complex.specs.Arithmetic.{times_real}
use Rattle.recurrence.specs.State.{reciprocal_of, limit_of}
use Rattle.recurrence.specs.Rung.{factor_of, next_of, rung_of}
use Rattle.recurrence.specs.Climb.{never, climb_from}
use Rattle.recurrence.specs.Fill.{Filled, fill_step, fill_from}
use Rattle.recurrence.specs.shapes.Stretch.{off_scale, Partway, PartPut, PartHeld, PartIf, Written}
use Rattle.recurrence.specs.declared.state.OverflowState.{OverflowState}
use Rattle.recurrence.specs.declared.state.Climb.{Climb}
use Rattle.recurrence.specs.declared.state.Rung.{Rung}
use Rattle.std.specs.declared.option.Option.TheVariants as option
use Rattle.recurrence.specs.declared.course.Course.{Course}
use Rattle.recurrence.proofs.ClimbFacts.{plain-last, climb-out, climb-last, climb-again, rung-counted}
use Rattle.recurrence.proofs.OffScaleFacts.{Spreads, scale-spreads, scale-pair}
use Rattle.recurrence.proofs.StretchFacts.{Standing, held-value, held-rung, partway_start, partway-rung, partway-again}

-- a seam, and another from there on
seam-again : {A : Type 0} {d p out out' : List A} {n m : ℕ} (q : List A) → n ≤ m → Seam d p n out → Seam out (take n out ++ q) m out' → Seam d (p ++ q) m out'
seam-again {A} {d} {p} {out} {out'} {n} {m} q h s t =
    let e : take n out ≡ p = seam-take s in
    let g = t.room in
    let k = s.same in
    record {
      count = ap (λ (l : List A). length (l ++ q)) (sym e) ∙ t.count;
      room = omega arith;
      same = t.same ∙ s.same;
      is =
          t.is
          ∙ ap (λ (l : List A). (l ++ q) ++ drop m out) e
          ∙ ap (λ (l : List A). (p ++ q) ++ l) (behind out ∙ ap (drop (m - n)) (seam-drop s) ∙ sym (behind d));
    }
  where
    behind : (l : List A) → drop m l ≡ drop (m - n) (drop n l)
    behind l = sym (drop-drop (m - n) n l ∙ ap (λ (k : ℕ). drop k l) (whole n m h))
      where
        whole : (n m : ℕ) → n ≤ m → n + (m - n) ≡ m
        whole n m h = omega arith

module _ (two_over_z : Complex) (base_order : Float) where
  fill-out : (i : ℕ) (c : Climb) → fill_from two_over_z base_order i 0 c ≡ record { climb = c; cells = [] }
  unfolding fill_from
  fill-out i c = run_out never _ i (record { climb = c; cells = [] })

  fill-last : (i n : ℕ) (c : Climb) → fill_from two_over_z base_order i (n + 1) c ≡ fill_step two_over_z base_order (i + n) (fill_from two_over_z base_order i n c)
  unfolding fill_from
  fill-last i n c = plain-last (fill_step two_over_z base_order) i n (record { climb = c; cells = [] })

  -- its climb is the plain one, so what is said of the plain climb's rungs and moves is said of it
  pub fill-climb : (i n : ℕ) (c : Climb) → (fill_from two_over_z base_order i n c).climb ≡ climb_from two_over_z base_order i n c
  unfolding fill_step
  fill-climb i zero c = ap (λ (f : Filled). f.climb) (fill-out i c) ∙ sym (climb-out two_over_z base_order i c)
  fill-climb i (suc n) c =
      ap (λ (k : ℕ). (fill_from two_over_z base_order i k c).climb) (sym (add-one n))
      ∙ ap (λ (f : Filled). f.climb) (fill-last i n c)
      ∙ ap (λ (d : Climb). (rung_of two_over_z base_order (i + n) d).climb) (fill-climb i n c)
      ∙ sym (climb-last two_over_z base_order i n c)
      ∙ ap (λ (k : ℕ). climb_from two_over_z base_order i k c) (add-one n)

  -- the entry of the rung behind n of them, from the climb that they end in
  fill_more : (i n : ℕ) (c d : Climb) (r : Rung) → d ≡ climb_from two_over_z base_order i n c → r ≡ rung_of two_over_z base_order (i + n) d
      → (fill_from two_over_z base_order i n c).cells ++ (r.entry.re ∷ r.entry.im ∷ []) ≡ (fill_from two_over_z base_order i (n + 1) c).cells
  unfolding fill_step
  fill_more i n c d r e g =
      ap (λ (q : Rung). (fill_from two_over_z base_order i n c).cells ++ (q.entry.re ∷ q.entry.im ∷ [])) (g ∙ ap (rung_of two_over_z base_order (i + n)) (e ∙ sym (fill-climb i n c)))
      ∙ sym (ap (λ (f : Filled). f.cells) (fill-last i n c))

  pub fill-length : (i n : ℕ) (c : Climb) → length (fill_from two_over_z base_order i n c).cells ≡ n * 2
  fill-length i zero c = ap (λ (f : Filled). length f.cells) (fill-out i c)
  fill-length i (suc n) c =
      let d = climb_from two_over_z base_order i n c in
      let r = rung_of two_over_z base_order (i + n) d in
      ap (λ (k : ℕ). length (fill_from two_over_z base_order i k c).cells) (sym (add-one n))
      ∙ ap length (sym (fill_more i n c d r refl refl))
      ∙ length-append (fill_from two_over_z base_order i n c).cells (r.entry.re ∷ r.entry.im ∷ [])
      ∙ more (length (fill_from two_over_z base_order i n c).cells) n (fill-length i n c)
    where
      more : (l n : ℕ) → l ≡ n * 2 → l + 2 ≡ suc n * 2
      more l n e = omega arith

  -- two fills in a row
  fill-again : (i m n : ℕ) (c : Climb)
      → (fill_from two_over_z base_order i m c).cells ++ (fill_from two_over_z base_order (i + m) n (climb_from two_over_z base_order i m c)).cells ≡ (fill_from two_over_z base_order i (m + n) c).cells
  fill-again i m zero c =
      ap (λ (f : Filled). (fill_from two_over_z base_order i m c).cells ++ f.cells) (fill-out (i + m) (climb_from two_over_z base_order i m c))
      ∙ append-nil (fill_from two_over_z base_order i m c).cells
      ∙ ap (λ (k : ℕ). (fill_from two_over_z base_order i k c).cells) (sym (add-zero m))
  fill-again i m (suc n) c =
      let b = climb_from two_over_z base_order i m c in
      let d = climb_from two_over_z base_order (i + m) n b in
      let r = rung_of two_over_z base_order (i + m + n) d in
      let one = (fill_from two_over_z base_order i m c).cells in
      let two = (fill_from two_over_z base_order (i + m) n b).cells in
      ap (λ (k : ℕ). one ++ (fill_from two_over_z base_order (i + m) k b).cells) (sym (add-one n))
      ∙ ap (λ (l : List Float). one ++ l) (sym (fill_more (i + m) n b d r refl refl))
      ∙ sym (append_assoc one two (r.entry.re ∷ r.entry.im ∷ []))
      ∙ ap (λ (l : List Float). l ++ (r.entry.re ∷ r.entry.im ∷ [])) (fill-again i m n c)
      ∙ fill_more i (m + n) c d r (climb-again two_over_z base_order i m n c) (ap (λ (k : ℕ). rung_of two_over_z base_order k d) (add_assoc i m n))
      ∙ ap (λ (k : ℕ). (fill_from two_over_z base_order i k c).cells) (add-one (m + n) ∙ sym (add-suc m n))

  -- ---- part of it, in the buffer
  module _ {off : List Float → List Float} (spreads : Spreads off) where
    pub filled-start : (from to : ℕ) (c : Climb) (place : ℕ) (before : List Float) → place ≤ length before → PartPut off two_over_z base_order from to c place before c before
    filled-start from to c place before h = record {
      part = partway_start two_over_z base_order from to c;
      put = [];
      entries = spreads.none ∙ sym (ap (λ (f : Filled). f.cells) (fill-out from c)) ∙ ap (λ (n : ℕ). (fill_from two_over_z base_order from n c).cells) (none c.rungs);
      cells = subst (λ (n : ℕ). Seam before (take place before ++ []) n before) (here place c.rungs)
          (record { count = ap length front ∙ length-take-le place before h; room = h; same = refl; is = sym (ap (λ (l : List Float). l ++ drop place before) front ∙ take-append-drop place before) });
    }
      where
        none : (n : ℕ) → 0 ≡ n - n
        none n = omega arith

        here : (place n : ℕ) → place ≡ place + (n - n) * 2
        here place n = omega arith

        front : take place before ++ [] ≡ take place before
        front = append-nil (take place before)

    -- two parts in a row
    pub filled-again : {from to to' place : ℕ} {a b c : Climb} {before mid out : List Float} (i at : ℕ) → i ≡ from + (b.rungs - a.rungs) → at ≡ place + (b.rungs - a.rungs) * 2 → to' ≤ to
        → PartPut off two_over_z base_order from to a place before b mid → PartPut off two_over_z base_order i to' b at mid c out → PartPut off two_over_z base_order from to a place before c out
    filled-again {from} {to} {to'} {place} {a} {b} {c} {before} {mid} {out} i at e g h p q =
        let k = b.rungs - a.rungs in
        let n = c.rungs - b.rungs in
        let u = p.part.counted in
        let v = q.part.counted in
        let l : k + n ≡ c.rungs - a.rungs = omega arith in
        let w : at + n * 2 ≡ place + (c.rungs - a.rungs) * 2 = omega arith in
        let s = subst (λ (m : ℕ). Seam before (take place before ++ p.put) m mid) (sym g) p.cells in
        record {
          part = partway-again two_over_z base_order i e h p.part q.part;
          put = p.put ++ q.put;
          entries =
              spreads.both p.put q.put
              ∙ ap (λ (t : List Float). t ++ off q.put) p.entries
              ∙ ap (λ (t : List Float). (fill_from two_over_z base_order from k a).cells ++ t) q.entries
              ∙ ap (λ (m : ℕ). (fill_from two_over_z base_order from k a).cells ++ (fill_from two_over_z base_order m n b).cells) e
              ∙ ap (λ (d : Climb). (fill_from two_over_z base_order from k a).cells ++ (fill_from two_over_z base_order (from + k) n d).cells) p.part.climbed
              ∙ fill-again from k n a
              ∙ ap (λ (m : ℕ). (fill_from two_over_z base_order from m a).cells) l;
          cells = subst (λ (m : ℕ). Seam before (take place before ++ (p.put ++ q.put)) m out) w
              (seam-as (append_assoc (take place before) p.put q.put) (seam-again q.put (omega arith) s q.cells));
        }

  -- and as the state keeps them, where it stays
  pub held-again : {from to to' place : ℕ} {a b c : Climb} {before mid out : List Float} (i at : ℕ) → i ≡ from + (b.rungs - a.rungs) → at ≡ place + (b.rungs - a.rungs) * 2 → to' ≤ to → b.state ≡ a.state
      → PartHeld two_over_z base_order from to a place before b mid → PartHeld two_over_z base_order i to' b at mid c out → PartHeld two_over_z base_order from to a place before c out
  held-again {from} {to} {to'} {place} {a} {b} {c} {before} {mid} {out} i at e g h s p q =
      filled-again (scale-spreads a.state) i at e g h p (subst (λ (t : OverflowState). PartPut (off_scale t) two_over_z base_order i to' b at mid c out) s q)

  pub filled-length : {off : List Float → List Float} {from to place : ℕ} {start c : Climb} {before out : List Float} → PartPut off two_over_z base_order from to start place before c out → length out ≡ length before
  filled-length p = p.cells.same

  -- ---- such a part that stands at the index i and at the place `at`, and one rung more
  pub record Writing (off : List Float → List Float) (from to : ℕ) (start : Climb) (place : ℕ) (before : List Float) (i : ℕ) (c : Climb) (at : ℕ) (out : List Float) : Type 0 where
    pub index : i ≡ from + (c.rungs - start.rungs)
    pub reached : at ≡ place + (c.rungs - start.rungs) * 2
    pub filled : PartPut off two_over_z base_order from to start place before c out

  module _ {off : List Float → List Float} (spreads : Spreads off) where
    pub writing_start : (from to : ℕ) (c : Climb) (place : ℕ) (before : List Float) → place ≤ length before → Writing off from to c place before from c place before
    writing_start from to c place before h = record { index = none from c.rungs; reached = nothing place c.rungs; filled = filled-start spreads from to c place before h }
      where
        none : (m n : ℕ) → m ≡ m + (n - n)
        none m n = omega arith

        nothing : (m n : ℕ) → m ≡ m + (n - n) * 2
        nothing m n = omega arith

    pub writing-rung : {from to place i at : ℕ} {start c : Climb} {before out : List Float} (j at' : ℕ) (out' : List Float) (r : Rung) (w : Complex) → j ≡ i + 1 → at' ≡ at + 2 → i < to → at + 1 < length before
        → r ≡ rung_of two_over_z base_order i c → off (w.re ∷ w.im ∷ []) ≡ r.entry.re ∷ r.entry.im ∷ [] → out' ≡ set (set out at w.re) (at + 1) w.im
        → Writing off from to start place before i c at out → Writing off from to start place before j r.climb at' out'
    writing-rung {from} {to} {place} {i} {at} {start} {c} {before} {out} j at' out' r w u v h b e y o t =
        let k = c.rungs - start.rungs in
        let f = t.filled in
        let x = t.index in
        let g = f.part.counted in
        let l : r.climb.rungs ≡ c.rungs + 1 = ap (λ (q : Rung). q.climb.rungs) e ∙ rung-counted two_over_z base_order i c in
        let m : k + 1 ≡ r.climb.rungs - start.rungs = omega arith in
        let p = t.reached in
        let s = seam-pair w.re w.im at (at + 1) (place + (r.climb.rungs - start.rungs) * 2) p (ap (λ (n : ℕ). n + 1) p) (omega arith) (subst (λ (n : ℕ). n + 1 < length before) p b) f.cells in
        record {
          index = omega arith;
          reached = omega arith;
          filled = record {
            part = partway-rung two_over_z base_order i r.climb x h (ap (λ (q : Rung). q.climb) e) f.part;
            put = f.put ++ (w.re ∷ w.im ∷ []);
            entries =
                spreads.both f.put (w.re ∷ w.im ∷ [])
                ∙ ap (λ (q : List Float). q ++ off (w.re ∷ w.im ∷ [])) f.entries
                ∙ ap (λ (q : List Float). (fill_from two_over_z base_order from k start).cells ++ q) y
                ∙ fill_more from k start c r f.part.climbed (e ∙ ap (λ (n : ℕ). rung_of two_over_z base_order n c) x)
                ∙ ap (λ (n : ℕ). (fill_from two_over_z base_order from n start).cells) m;
            cells = subst (Seam before (take place before ++ (f.put ++ (w.re ∷ w.im ∷ []))) (place + (r.climb.rungs - start.rungs) * 2)) (sym o) (seam-as (append_assoc (take place before) f.put (w.re ∷ w.im ∷ [])) s);
          };
        }

-- ---- a turn of four rungs: the next value held and in its place, or neither
module _ (g : Course) (start : Climb) (from place : ℕ) (before : List Float) where
  abbrev pub Turning : ℕ → Climb → ℕ → List Float → Type 0
  Turning i c at out = Writing g.ladder.two_over_z g.ladder.base_order (off_scale start.state) from (from + 4) start place before i c at out

  pub turn-start : place + 8 ≤ length before → Turning from start place before
  turn-start h = writing_start g.ladder.two_over_z g.ladder.base_order (scale-spreads start.state) from (from + 4) start place before (omega arith)

  pub turn-rung : {i at : ℕ} {c : Climb} {out : List Float} (j n at' : ℕ) (out' : List Float) (w : Complex) → j ≡ i + 1 → n ≡ c.rungs + 1 → at' ≡ at + 2 → i < from + 4 → at + 1 < length before
      → c.state ≡ start.state → g.most ≡ limit_of start.state → Written g i c.older c.newer (option.Some w) at out out' → Turning i c at out
      → Turning j (record { older = c.newer; newer = w; state = c.state; rungs = n }) at' out'
  turn-rung {i} {at} {c} {out} j n at' out' w u l v h r q b p t =
      let most = b ∙ ap limit_of (sym q) in
      let factor = factor_of g.ladder.two_over_z g.ladder.base_order i in
      let is = (held-value g.most (next_of factor c.older c.newer) w p.held).0 in
      writing-rung g.ladder.two_over_z g.ladder.base_order (scale-spreads start.state) j at' out'
      (record { climb = record { older = c.newer; newer = w; state = c.state; rungs = n }; entry = times_real w (reciprocal_of c.state); moved = false }) w u v h r
      (held-rung g.ladder.two_over_z g.ladder.base_order i n c w l most p.held)
      (ap (λ (s : OverflowState). off_scale s (w.re ∷ w.im ∷ [])) (sym q) ∙ scale-pair c.state factor c.older c.newer w is)
      p.put
      t

  pub turn-stop : {i at : ℕ} {c : Climb} {older newer : Complex} {out : List Float} (out' : List Float) → Written g i older newer option.None at out out' → Turning i c at out → Turning i c at out'
  turn-stop {i} {at} {c} {older} {newer} {out} out' p s = subst (Turning i c at) (sym p.put) s

  -- one rung of it, two, three, four
  module _ (room : place + 8 ≤ length before) (b : g.most ≡ limit_of start.state) where
    pub turn_one : {o₁ : List Float} {w₁ : Complex} → Written g from start.older start.newer (option.Some w₁) place before o₁
        → Turning (from + 1) (record { older = start.newer; newer = w₁; state = start.state; rungs = start.rungs + 1 }) (place + 2) o₁
    turn_one {o₁} {w₁} p₁ = turn-rung (from + 1) (start.rungs + 1) (place + 2) o₁ w₁ refl refl refl (omega arith) (omega arith) refl b p₁ (turn-start room)

    pub turn_two : {o₁ o₂ : List Float} {w₁ w₂ : Complex} → Written g from start.older start.newer (option.Some w₁) place before o₁
        → Written g (from + 1) start.newer w₁ (option.Some w₂) (place + 2) o₁ o₂
        → Turning (from + 2) (record { older = w₁; newer = w₂; state = start.state; rungs = start.rungs + 2 }) (place + 4) o₂
    turn_two {o₁} {o₂} {w₁} {w₂} p₁ p₂ = turn-rung (from + 2) (start.rungs + 2) (place + 4) o₂ w₂ (omega arith) (omega arith) (omega arith) (omega arith) (omega arith) refl b p₂ (turn_one p₁)

    pub turn_three : {o₁ o₂ o₃ : List Float} {w₁ w₂ w₃ : Complex} → Written g from start.older start.newer (option.Some w₁) place before o₁
        → Written g (from + 1) start.newer w₁ (option.Some w₂) (place + 2) o₁ o₂
        → Written g (from + 2) w₁ w₂ (option.Some w₃) (place + 4) o₂ o₃
        → Turning (from + 3) (record { older = w₂; newer = w₃; state = start.state; rungs = start.rungs + 3 }) (place + 6) o₃
    turn_three {o₁} {o₂} {o₃} {w₁} {w₂} {w₃} p₁ p₂ p₃ = turn-rung (from + 3) (start.rungs + 3) (place + 6) o₃ w₃ (omega arith) (omega arith) (omega arith) (omega arith) (omega arith) refl b p₃ (turn_two p₁ p₂)

    pub turn-four : {o₁ o₂ o₃ o₄ : List Float} {w₁ w₂ w₃ w₄ : Complex} → Written g from start.older start.newer (option.Some w₁) place before o₁
        → Written g (from + 1) start.newer w₁ (option.Some w₂) (place + 2) o₁ o₂
        → Written g (from + 2) w₁ w₂ (option.Some w₃) (place + 4) o₂ o₃
        → Written g (from + 3) w₂ w₃ (option.Some w₄) (place + 6) o₃ o₄
        → Turning (from + 4) (record { older = w₃; newer = w₄; state = start.state; rungs = start.rungs + 4 }) (place + 8) o₄
    turn-four {o₁} {o₂} {o₃} {o₄} {w₁} {w₂} {w₃} {w₄} p₁ p₂ p₃ p₄ =
        turn-rung (from + 4) (start.rungs + 4) (place + 8) o₄ w₄ (omega arith) (omega arith) (omega arith) (omega arith) (omega arith) refl b p₄ (turn_three p₁ p₂ p₃)

  -- its part, and its cells where they are asked for
  pub turn-if : {writes : Bool} {i at : ℕ} {c : Climb} {out : List Float} (d : Climb) → d ≡ c → Standing g.ladder.two_over_z g.ladder.base_order from (from + 4) start i c → (writes ≡ true → Turning i c at out)
      → PartIf writes g.ladder.two_over_z g.ladder.base_order from (from + 4) start place before d out
  turn-if {writes} {i} {at} {c} {out} d e p h = record {
    part = subst (λ (k : Climb). Partway g.ladder.two_over_z g.ladder.base_order from (from + 4) start k) (sym e) p.part;
    held = λ t. subst (λ (k : Climb). PartHeld g.ladder.two_over_z g.ladder.base_order from (from + 4) start place before k out) (sym e) (h t).filled;
  }
