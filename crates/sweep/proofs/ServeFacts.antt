-- One read after the others: what was read so far, and one read more; what the whole run comes to. Assumes nothing.
use mathlib.Core.Path.{◌≡◌, refl, sym, ap, ◌∙◌, subst}
use mathlib.Core.Logic.{inl, inr}
use mathlib.Core.List.{List, [], ◌∷◌, ◌++◌, append-nil}
use Prim.Native.Nat.{ℕ, ◌≤◌, ◌<◌, min}
use native.Mathlib.Omega.{arith}
use lib.IntN.{pos, negsuc}
use lib.ListN.{length, take}
use Rattle.splitting.specs.Lines.{last_of, lines_of}
use Rattle.splitting.specs.Cut.{left_by, ended_in}
use Rattle.splitting.specs.Count.{total_of}
use Rattle.splitting.specs.State.{status_of}
use Rattle.splitting.proofs.StateFacts.{status-zero}
use Rattle.splitting.proofs.CutFacts.{left-append, ended-append, lines-parts}
use Rattle.splitting.specs.declared.state.State.TheVariants.{Going, Whole, Unwritten, Unread}
use Rattle.sweep.specs.declared.turn.Turn.{Turn}
use Rattle.sweep.specs.Turn.{most_held, Grown, ended_as, Passed, AfterBytes, Ended, AtEnd, Failed, TakenSome, TakenRead, Reached, start, is_refused, Served}
use Rattle.sweep.proofs.TurnFacts.{grown-none, grown-as, grown-again, grown-shortened, none-refused}

-- ---- by what a read reported and brought
module _ (held : List ℕ) (t : Turn) (line : List ℕ) (r : Turn) where
  pub taken-failed : (k : ℕ) (buffer : List ℕ) → Failed t r → TakenRead (negsuc k) buffer held t line r
  unfolding TakenRead
  taken-failed k buffer w = w

  pub taken-end : (buffer : List ℕ) → AtEnd held t r → TakenRead (pos 0) buffer held t line r
  unfolding TakenRead TakenSome
  taken-end buffer w = let e : 0 ≡ min 0 (length buffer) = omega arith in subst (λ (m : ℕ). TakenSome (take m buffer) held t line r) e w

  some_bytes : (bytes : List ℕ) → 0 < length bytes → AfterBytes held bytes t line r → TakenSome bytes held t line r
  unfolding TakenSome
  some_bytes [] e w = absurd (omega arith)
  some_bytes (b ∷ bytes) e w = w

  pub taken-bytes :
      (bytes : List ℕ) (n : ℕ) (buffer : List ℕ) → 0 < length bytes → n ≤ length buffer → bytes ≡ take n buffer → AfterBytes held bytes t line r →
      TakenRead (pos n) buffer held t line r
  unfolding TakenRead
  taken-bytes bytes n buffer some room same w =
      let e : n ≡ min n (length buffer) = omega arith in
      subst (λ (l : List ℕ). TakenSome l held t line r) (same ∙ ap (λ (m : ℕ). take m buffer) e) (some_bytes bytes some w)

-- ---- what 0 tells
clean-by :
    (input : List ℕ) (r : Turn) → (r.state ≡ Whole → Grown (lines_of input) start r) → status_of r.state r.refused ≡ 48 →
    (r.state ≡ Whole) × (total_of is_refused (lines_of input) ≡ 0)
clean-by input r w e = let z = status-zero r.state r.refused e in (z.0, none-refused (lines_of input) r (w z.0) z.1)

-- ---- a read that failed
pub fails : (t r : Turn) → r ≡ ended_as t Unread → Failed t r
fails t r e = record { failed = ap (λ (x : Turn). x.state) e; grown = subst (Grown [] t) (sym e) (grown-as [] t t Unread (grown-none t)) }

-- ---- what was read so far
pub reached-none : Reached [] start
unfolding left_by ended_in
reached-none = record { input = []; holds = refl; grown = grown-none start }

module _ (line : List ℕ) (last : Turn) (before : Reached line last) (line' : List ℕ) (r : Turn) where
  abbrev so_far : List ℕ
  so_far = before.input

  -- some bytes more
  module _ (bytes : List ℕ) (p : Passed line bytes last line' r) where
    more : Reached line' r
    more =
        record {
          input = so_far ++ bytes;
          holds = p.holds ∙ ap (λ (h : List ℕ). left_by most_held h bytes) before.holds ∙ left-append most_held [] so_far bytes;
          grown =
              subst (λ (ls : List (List ℕ)). Grown ls start r)
              (ap (λ (h : List ℕ). ended_in most_held [] so_far ++ ended_in most_held h bytes) before.holds ∙ ended-append most_held [] so_far bytes)
              (grown-again (ended_in most_held [] so_far) (ended_in most_held line bytes) start last r before.grown p.grown);
        }

  -- the end: a line that is longer than what is held of it counts as that does
  at-end : Ended line last r → Grown (lines_of so_far) start r
  at-end e =
      grown-shortened (lines_of so_far) start r
      (subst (λ (ls : List (List ℕ)). Grown ls start r)
      (ap (λ (h : List ℕ). ended_in most_held [] so_far ++ last_of h) before.holds ∙ lines-parts most_held (omega arith) so_far)
      (grown-again (ended_in most_held [] so_far) (last_of line) start last r before.grown e.grown))

  ends-whole : Ended line last r → Served r
  ends-whole e =
      record {
        input = so_far;
        whole = λ w. at-end e;
        unread = λ w. absurd (let z : ◌≡◌ {A = ℕ} 0 1 = cc e.ended in omega arith);
        over = λ w. let z : ◌≡◌ {A = ℕ} 0 1 = cc e.ended in omega arith;
        clean = clean-by so_far r (λ w. at-end e);
      }

  ends-unwritten : r.state ≡ Unwritten → Served r
  ends-unwritten e =
      record {
        input = [];
        whole = λ w. absurd (let z : ◌≡◌ {A = ℕ} 0 1 = cc in omega arith);
        unread = λ w. absurd (let z : ◌≡◌ {A = ℕ} 0 1 = cc in omega arith);
        over = λ w. let z : ◌≡◌ {A = ℕ} 0 1 = cc in omega arith;
        clean = clean-by [] r (λ w. absurd (let z : ◌≡◌ {A = ℕ} 0 1 = cc in omega arith));
      }

  pub ends-unread : Failed last r → Served r
  ends-unread e =
      record {
        input = so_far;
        whole = λ w. absurd (let z : ◌≡◌ {A = ℕ} 0 1 = cc e.failed in omega arith);
        unread =
            λ w.
            subst (λ (ls : List (List ℕ)). Grown ls start r) (append-nil (ended_in most_held [] so_far))
            (grown-again (ended_in most_held [] so_far) [] start last r before.grown e.grown);
        over = λ w. let z : ◌≡◌ {A = ℕ} 0 1 = cc e.failed in omega arith;
        clean = clean-by so_far r (λ w. absurd (let z : ◌≡◌ {A = ℕ} 0 1 = cc e.failed in omega arith));
      }

  -- ---- one step more: it goes on, or it is over
  abbrev Steps : Type 0
  Steps = (r.state ≡ Going → Reached line' r) × ((r.state ≡ Going → ⊥) → Served r)

  pub on-bytes : (bytes : List ℕ) → AfterBytes line bytes last line' r → Steps
  on-bytes bytes w =
      elim w [
        | inl p ↦ (λ g. more bytes p, λ o. absurd (o p.going))
        | inr e ↦ (λ g. absurd (let z : ◌≡◌ {A = ℕ} 0 1 = cc in omega arith), λ o. ends-unwritten e)
      ]

  pub on-end : AtEnd line last r → (r.state ≡ Going → ⊥) → Steps
  on-end w over = (λ g. absurd (over g), λ o. elim w [ inl e ↦ ends-whole e | inr e ↦ ends-unwritten e ])

  pub on-failure : Failed last r → Steps
  on-failure w = (λ g. absurd (let z : ◌≡◌ {A = ℕ} 0 1 = cc w.failed in omega arith), λ o. ends-unread w)

pub not-going-end : (held : List ℕ) (t r : Turn) → AtEnd held t r → r.state ≡ Going → ⊥
not-going-end held t r w g =
    elim w [
      | inl e ↦ (let z : ◌≡◌ {A = ℕ} 0 1 = cc e.ended in omega arith)
      | inr e ↦ (let z : ◌≡◌ {A = ℕ} 0 1 = cc in omega arith)
    ]
