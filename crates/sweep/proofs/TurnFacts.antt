-- The counts of a line and of lines after others, and of lines that are shortened. Assumes nothing.
use mathlib.Core.Path.{◌≡◌, refl, sym, ap, ◌∙◌}
use mathlib.Core.List.{List, [], ◌∷◌, ◌++◌}
use Prim.Native.Nat.{ℕ, ◌+◌, ◌<◌}
use native.Mathlib.Omega.{arith}
use borrow.Author.Tests.{eq-eqb, ne_eqb}
use lib.ListN.{length, take}
use Rattle.splitting.specs.Cut.{shortened}
use Rattle.splitting.specs.Count.{total_of, counted, Adds}
use Rattle.splitting.proofs.CountFacts.{total-append, total-shortened, adds_none, adds_again}
use Rattle.sweeping.specs.Line.{line_swept, line_bytes}
use Rattle.sweeping.proofs.LineFacts.{refused_none, swept_kept, bytes-kept}
use Rattle.splitting.specs.declared.state.State.{State}
use Rattle.sweep.specs.declared.turn.Turn.{Turn}
use Rattle.sweep.specs.Turn.{most_held, is_request, is_refused, frame_bytes, Grown, ended_as, start}

-- ---- no lines, and some lines after others
pub grown-none : (t : Turn) → Grown [] t t
unfolding total_of
grown-none t = record { requests = adds_none t.requests; refused = adds_none t.refused; sent = adds_none t.sent }

-- only the counts matter
pub grown-as : (ls : List (List ℕ)) (t r : Turn) (state : State) → Grown ls t r → Grown ls t (ended_as r state)
grown-as ls t r state g = record { requests = g.requests; refused = g.refused; sent = g.sent }

adds-both : (f : List ℕ → ℕ) (a b : List (List ℕ)) (s t u : ℕ) → Adds s (total_of f a) t → Adds t (total_of f b) u → Adds s (total_of f (a ++ b)) u
adds-both f a b s t u e g = adds_again s (total_of f a) t (total_of f b) u e g ∙ ap (λ (n : ℕ). counted (s + n)) (sym (total-append f a b))

pub grown-again : (a b : List (List ℕ)) (s t u : Turn) → Grown a s t → Grown b t u → Grown (a ++ b) s u
grown-again a b s t u g h =
    record {
      requests = adds-both is_request a b s.requests t.requests u.requests g.requests h.requests;
      refused = adds-both is_refused a b s.refused t.refused u.refused g.refused h.refused;
      sent = adds-both frame_bytes a b s.sent t.sent u.sent g.sent h.sent;
    }

-- ---- one line
adds_one : (f : List ℕ → ℕ) (line : List ℕ) (s n u : ℕ) → n ≡ f line → u ≡ counted (s + n) → Adds s (total_of f (line ∷ [])) u
unfolding total_of
adds_one f line s n u e g = omega arith

pub refused-one : (line : List ℕ) → 0 < (line_swept line).number → 1 ≡ is_refused line
unfolding is_refused
refused-one line h = simp (ne_eqb (line_swept line).number 0 (λ e. omega arith))

pub accepted-one : (line : List ℕ) → (line_swept line).number ≡ 0 → 0 ≡ is_refused line
unfolding is_refused
accepted-one line e = simp (eq-eqb (line_swept line).number 0 e)

stays : (f : List ℕ → ℕ) (line : List ℕ) (s : ℕ) → 0 ≡ f line → Adds s (total_of f (line ∷ [])) s
unfolding total_of
stays f line s e = omega arith

pub grown-refused :
    (line : List ℕ) (t r : Turn) (told : ℕ) → 0 < (line_swept line).number → told ≡ 1 → r.requests ≡ counted (t.requests + 1) → r.refused ≡ counted (t.refused + told) → r.sent ≡ t.sent →
    Grown (line ∷ []) t r
grown-refused line t r told h e q f s =
    record {
      requests = adds_one is_request line t.requests 1 r.requests refl q;
      refused = adds_one is_refused line t.refused told r.refused (e ∙ refused-one line h) f;
      sent = ap counted s ∙ stays frame_bytes line t.sent (sym (ap length (refused_none line h)));
    }

pub grown-accepted :
    (line : List ℕ) (t r : Turn) (written : ℕ) → (line_swept line).number ≡ 0 → written ≡ length (line_bytes line) → r.requests ≡ counted (t.requests + 1) → r.refused ≡ t.refused →
    r.sent ≡ counted (t.sent + written) → Grown (line ∷ []) t r
grown-accepted line t r written h e q f s =
    record {
      requests = adds_one is_request line t.requests 1 r.requests refl q;
      refused = ap counted f ∙ stays is_refused line t.refused (accepted-one line h);
      sent = adds_one frame_bytes line t.sent written r.sent e s;
    }

-- ---- a line of more than 92 bytes says no more than its first 93 do
refused-kept : (line : List ℕ) → is_refused (take most_held line) ≡ is_refused line
unfolding is_refused
refused-kept line = rw swept_kept

pub grown-shortened : (ls : List (List ℕ)) (s t : Turn) → Grown (shortened most_held ls) s t → Grown ls s t
grown-shortened ls s t g =
    record {
      requests = g.requests ∙ ap (λ (n : ℕ). counted (s.requests + n)) (total-shortened is_request most_held (λ l. refl) ls);
      refused = g.refused ∙ ap (λ (n : ℕ). counted (s.refused + n)) (total-shortened is_refused most_held refused-kept ls);
      sent = g.sent ∙ ap (λ (n : ℕ). counted (s.sent + n)) (total-shortened frame_bytes most_held (λ l. ap length (bytes-kept l)) ls);
    }

-- nothing counted, and nothing refused
pub none-refused : (ls : List (List ℕ)) (r : Turn) → Grown ls start r → r.refused ≡ 0 → total_of is_refused ls ≡ 0
none-refused ls r g z = omega (arith, g.refused)
