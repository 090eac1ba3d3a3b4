-- What the buffers hold, the last line, the count of what was handed on, and one part of a chunk after the others. Assumes nothing.
use mathlib.Core.Path.{◌≡◌, refl, sym, ap, ◌∙◌}
use mathlib.Core.List.{List, [], ◌∷◌, ◌++◌}
use Prim.Native.Nat.{ℕ, ◌+◌, ◌≤◌, ◌<◌}
use native.Mathlib.Nat.{mod-mod, mod-add-mod}
use native.Mathlib.Omega.{arith}
use lib.ListN.{length, take, length-append}
use Rattle.splitting.specs.Lines.{newline}
use Rattle.splitting.specs.Cut.{part_of}
use Rattle.answering.specs.Feed.{Feed, step_if, step_of, fed_of, ended_from, owed_of, kept_of}
use Rattle.lichenoar.specs.declared.lines.Buffers.{Buffers}
use Rattle.lichenoar.specs.Feeding.{feed_of}
use Rattle.lichenoar.specs.Turn.{tallied, Adds}
use Rattle.answering.proofs.FeedFacts.{kept_append, owed-append}
use Rattle.lichenoar.proofs.BufferFacts.{taken-both}

-- ---- what the buffers hold is what is held and owed, where nothing was written before
module _ (b b' : Buffers) (bytes : List ℕ) (e : feed_of b' ≡ fed_of (feed_of b) bytes) (none : b.out ≡ []) where
  pub is-owed : b'.out ≡ owed_of b.line bytes
  unfolding owed_of
  is-owed = ap (λ (x : Feed). x.written) (e ∙ ap (λ (w : List ℕ). fed_of (record { held = b.line; written = w }) bytes) none)

  pub is-kept : b'.line ≡ kept_of b.line bytes
  unfolding kept_of
  is-kept = ap (λ (x : Feed). x.held) (e ∙ ap (λ (w : List ℕ). fed_of (record { held = b.line; written = w }) bytes) none)

-- ---- the last line, as if its newline had come
pub last-owed : (h : List ℕ) → 0 < length h → owed_of h (newline ∷ []) ≡ ended_from h []
unfolding owed_of fed_of step_of step_if ended_from
last-owed [] l = absurd (omega arith)
last-owed (b ∷ h) l = refl

-- ---- the count
pub adds_none : (s : ℕ) → Adds s 0 s
adds_none s = ap tallied (none s)
  where
    none : (s : ℕ) → s ≡ s + 0
    none s = omega arith

pub adds_again : (s n t m u : ℕ) → Adds s n t → Adds t m u → Adds s (n + m) u
adds_again s n t m u e f =
    let r : ℕ = 9223372036854775808 in
    f ∙ sym (mod-add-mod t r m) ∙ ap (λ (k : ℕ). tallied (k + m)) e ∙ mod-add-mod (s + n) r m ∙ ap tallied (same s n m)
  where
    same : (s n m : ℕ) → s + n + m ≡ s + (n + m)
    same s n m = omega arith

pub adds-tally : (t m u : ℕ) → u ≡ tallied (t + m) → Adds t m u
adds-tally t m u e = ap tallied e ∙ mod-mod (t + m) 9223372036854775808

pub none-owed : (h : List ℕ) (s : ℕ) → length h ≡ 0 → Adds s (length (ended_from h [])) s
unfolding ended_from
none-owed [] s e = adds_none s
none-owed (b ∷ h) s e = absurd (omega arith)

-- ---- one part of a chunk after the parts before
module _ (chunk h kept : List ℕ) (at next : ℕ) (before : at ≤ next) (holds : kept ≡ kept_of h (take at chunk)) where
  pub kept_next : kept_of kept (part_of chunk at next) ≡ kept_of h (take next chunk)
  kept_next =
      ap (λ (x : List ℕ). kept_of x (part_of chunk at next)) holds
      ∙ kept_append h (take at chunk) (part_of chunk at next)
      ∙ ap (kept_of h) (taken-both chunk at next before)

  owed-next : owed_of h (take at chunk) ++ owed_of kept (part_of chunk at next) ≡ owed_of h (take next chunk)
  owed-next =
      ap (λ (x : List ℕ). owed_of h (take at chunk) ++ owed_of x (part_of chunk at next)) holds
      ∙ owed-append h (take at chunk) (part_of chunk at next)
      ∙ ap (owed_of h) (taken-both chunk at next before)

  pub adds-next : (s t u m : ℕ) → Adds s (length (owed_of h (take at chunk))) t → m ≡ length (owed_of kept (part_of chunk at next)) → u ≡ tallied (t + m) → Adds s (length (owed_of h (take next chunk))) u
  adds-next s t u m e f g =
      adds_again s (length (owed_of h (take at chunk))) t m u e (adds-tally t m u g)
      ∙ ap (λ (k : ℕ). tallied (s + k))
      (ap (λ (k : ℕ). length (owed_of h (take at chunk)) + k) f
      ∙ sym (length-append (owed_of h (take at chunk)) (owed_of kept (part_of chunk at next)))
      ∙ ap length owed-next)
