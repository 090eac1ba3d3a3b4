-- One read after the others: what was read so far, and one read more; what the whole run comes to. Assumes nothing.
use mathlib.Core.Path.{◌≡◌, refl, sym, ap, ◌∙◌, subst}
use mathlib.Core.Logic.{inl, inr}
use mathlib.Core.List.{List, [], ◌∷◌, ◌++◌}
use Prim.Native.Nat.{ℕ, ◌+◌, ◌≤◌, ◌<◌, min}
use native.Mathlib.Omega.{arith}
use lib.IntN.{pos, negsuc}
use lib.ListN.{length, take, length-append}
use Rattle.splitting.specs.declared.state.State.TheVariants.{Going, Unwritten}
use Rattle.lichenoar.specs.declared.turn.Turn.{Turn}
use Rattle.answering.specs.Lines.{output_of}
use Rattle.answering.specs.Feed.{ended_from, owed_of, kept_of, fed_of}
use Rattle.lichenoar.specs.Turn.{tallied, Adds, Passed, AfterBytes, Ended, AtEnd, Failed, TakenSome, Taken, Reached, Served}
use Rattle.answering.proofs.FeedFacts.{kept_append, owed-append}
use Rattle.lichenoar.proofs.TurnFacts.{adds_again}
use Rattle.answering.proofs.WholeInput.{output-parts}

-- ---- by what a read reported and brought
module _ (held line : List ℕ) (sent : ℕ) (r : Turn) where
  pub taken-failed : (k : ℕ) (buffer : List ℕ) → Failed sent r → Taken (negsuc k) buffer held sent line r
  unfolding Taken
  taken-failed k buffer w = w

  pub taken-end : (buffer : List ℕ) → AtEnd held sent r → Taken (pos 0) buffer held sent line r
  unfolding Taken TakenSome
  taken-end buffer w = let e : 0 ≡ min 0 (length buffer) = omega arith in subst (λ (m : ℕ). TakenSome (take m buffer) held sent line r) e w

  pub some_bytes : (bytes : List ℕ) → 0 < length bytes → AfterBytes held bytes sent line r → TakenSome bytes held sent line r
  unfolding TakenSome
  some_bytes [] e w = absurd (omega arith)
  some_bytes (b ∷ bytes) e w = w

  pub taken-bytes :
      (bytes : List ℕ) (n : ℕ) (buffer : List ℕ) → 0 < length bytes → n ≤ length buffer → bytes ≡ take n buffer → AfterBytes held bytes sent line r →
      Taken (pos n) buffer held sent line r
  unfolding Taken
  taken-bytes bytes n buffer some room same w =
      let e : n ≡ min n (length buffer) = omega arith in
      subst (λ (l : List ℕ). TakenSome l held sent line r) (same ∙ ap (λ (m : ℕ). take m buffer) e) (some_bytes bytes some w)

-- ---- what was read so far
pub reached-none : Reached [] 0
unfolding owed_of kept_of fed_of
reached-none = record { input = []; holds = refl; adds = refl }

module _ (line : List ℕ) (sent : ℕ) (before : Reached line sent) (line' : List ℕ) (r : Turn) where
  abbrev so_far : List ℕ
  so_far = before.input

  -- some bytes more
  module _ (bytes : List ℕ) (p : Passed line bytes sent line' r) where
    more : Reached line' r.sent
    more =
        record {
          input = so_far ++ bytes;
          holds = p.holds ∙ ap (λ (h : List ℕ). kept_of h bytes) before.holds ∙ kept_append [] so_far bytes;
          adds =
              adds_again 0 (length (owed_of [] so_far)) sent (length (owed_of line bytes)) r.sent before.adds p.adds
              ∙ ap (λ (n : ℕ). tallied (0 + n))
              (ap (λ (h : List ℕ). length (owed_of [] so_far) + length (owed_of h bytes)) before.holds
              ∙ sym (length-append (owed_of [] so_far) (owed_of (kept_of [] so_far) bytes))
              ∙ ap length (owed-append [] so_far bytes));
        }

  -- the end
  at-end : Ended line sent r → Adds 0 (length (output_of so_far)) r.sent
  at-end e =
      adds_again 0 (length (owed_of [] so_far)) sent (length (ended_from line [])) r.sent before.adds e.adds
      ∙ ap (λ (n : ℕ). tallied (0 + n))
      (ap (λ (h : List ℕ). length (owed_of [] so_far) + length (ended_from h [])) before.holds
      ∙ sym (length-append (owed_of [] so_far) (ended_from (kept_of [] so_far) []))
      ∙ ap length (output-parts so_far))

  ends-whole : Ended line sent r → Served r
  ends-whole e =
      record {
        input = so_far;
        whole = λ w. at-end e;
        unread = λ w. absurd (let z : ◌≡◌ {A = ℕ} 0 1 = cc e.ended in omega arith);
        over = λ w. let z : ◌≡◌ {A = ℕ} 0 1 = cc e.ended in omega arith;
      }

  ends-unwritten : r.state ≡ Unwritten → Served r
  ends-unwritten e =
      record {
        input = [];
        whole = λ w. absurd (let z : ◌≡◌ {A = ℕ} 0 1 = cc in omega arith);
        unread = λ w. absurd (let z : ◌≡◌ {A = ℕ} 0 1 = cc in omega arith);
        over = λ w. let z : ◌≡◌ {A = ℕ} 0 1 = cc in omega arith;
      }

  ends-unread : Failed sent r → Served r
  ends-unread e =
      record {
        input = so_far;
        whole = λ w. absurd (let z : ◌≡◌ {A = ℕ} 0 1 = cc e.failed in omega arith);
        unread = λ w. adds_again 0 (length (owed_of [] so_far)) sent 0 r.sent before.adds e.adds ∙ ap tallied (none (length (owed_of [] so_far)));
        over = λ w. let z : ◌≡◌ {A = ℕ} 0 1 = cc e.failed in omega arith;
      }
    where
      none : (n : ℕ) → 0 + (n + 0) ≡ 0 + n
      none n = omega arith

  -- ---- one step more: it goes on, or it is over
  abbrev Steps : Type 0
  Steps = (r.state ≡ Going → Reached line' r.sent) × ((r.state ≡ Going → ⊥) → Served r)

  pub on-bytes : (bytes : List ℕ) → AfterBytes line bytes sent line' r → Steps
  on-bytes bytes w =
      elim w [
        | inl p ↦ (λ g. more bytes p, λ o. absurd (o p.going))
        | inr e ↦ (λ g. absurd (let z : ◌≡◌ {A = ℕ} 0 1 = cc in omega arith), λ o. ends-unwritten e)
      ]

  pub on-end : AtEnd line sent r → (r.state ≡ Going → ⊥) → Steps
  on-end w over = (λ g. absurd (over g), λ o. elim w [ inl e ↦ ends-whole e | inr e ↦ ends-unwritten e ])

  pub on-failure : Failed sent r → Steps
  on-failure w = (λ g. absurd (let z : ◌≡◌ {A = ℕ} 0 1 = cc w.failed in omega arith), λ o. ends-unread w)

pub not-going-end : (held : List ℕ) (sent : ℕ) (r : Turn) → AtEnd held sent r → r.state ≡ Going → ⊥
not-going-end held sent r w g =
    elim w [
      | inl e ↦ (let z : ◌≡◌ {A = ℕ} 0 1 = cc e.ended in omega arith)
      | inr e ↦ (let z : ◌≡◌ {A = ℕ} 0 1 = cc in omega arith)
    ]
