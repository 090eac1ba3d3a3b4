-- What a call of K comes to, on every input: each number exactly when, the counts of an answer, and what the cells then hold. Assumes nothing.
use Rattle.std.specs.Prelude.{Result, Ok, Err}
use mathlib.Core.Path.{◌≡◌, refl, sym, ap, ◌∙◌, subst}
use mathlib.Core.Logic.{◌⊎◌, inl, inr}
use mathlib.Core.Bool.{Bool, true, not}
use mathlib.Core.List.{List, [], ◌∷◌, ◌++◌}
use Prim.Native.Nat.{ℕ, ◌+◌, ◌-◌, ◌*◌, ◌/◌, ◌≤◌, ◌<◌}
use native.Mathlib.Omega.{arith}
use lib.IntN.{pos}
use lib.Dec.{T}
use lib.ListN.{drop, take, replicate, length-replicate}
use lib.ListN.{length as length-of}
use lib.Ieee.{Float, binary64, of_bits}
use Rattle.refusal.specs.declared.refusal.Refusal.{Refusal}
use Rattle.machine.specs.Constants.{not_a_number}
use Rattle.cells.specs.AllFinite.{all_finite}
use Rattle.refusal.specs.declared.refusal.Refusal.TheVariants as refusals
use Rattle.refusal.proofs.Distinct.{never-zero}
use Rattle.call.specs.Answer.{Answer, answered_of, refused_of, number_in, zeros_in, longest_in, rungs_in, backward_in}
use Rattle.call.specs.Checks.{check, refused_if, verdict_from, verdict_of, number_given, none_applies, numbers_of, length_checks, finite_checks, limit_checks}
use Rattle.call.proofs.FirstFacts.{Given, is_one_of, none-or-listed}
use Rattle.call.proofs.WhichLimit.{HitsLimit, hits-limit}
use Rattle.call.proofs.LimitFacts.{lent}
use Rattle.right_half_plane.specs.declared.kernel.Counts.{Counts}
use Rattle.right_half_plane.specs.Ground.{nearest_order, ground_of}
use Rattle.right_half_plane.specs.Seeds.{seed_of, terms_of}
use Rattle.right_half_plane.proofs.Answers.{Answers, kernel-answers, kernel-terms}
use Rattle.right_half_plane.proofs.Delivered.{Delivers, kernel-delivers}
use Rattle.right_half_plane.specs.Refusals.{start_refused, climb_refused}
use Rattle.right_half_plane.proofs.RefusalFacts.{refuses, start-exactly, climb-exactly}
use Rattle.bessel.specs.declared.arguments.Arguments.{Arguments}
use Rattle.bessel.specs.Arguments.{arguments_of}
use Rattle.bessel.specs.Checks.{argument_checks, k_own_checks, k_checks}
use Rattle.bessel.specs.Outcome.{Outcome, Delivered, refused_outcome, judged_of, concluded_of}
use Rattle.bessel.specs.K.{kernel_by, counts_answer, kernel_steps, k_steps, k_outcome, ground_by, kernel_checks, all_k_checks}
use Rattle.bessel.proofs.CheckFacts.{k-passed}
use Rattle.bessel.proofs.CallFacts.{judged-number, RefusedWhole, refused-facts, Ended, refused, answered, ends, numbered}

-- ---- how the kernel's steps end: refusal 6, 7, or neither
data EndsWith (o : Result Counts Refusal) : Type 0 where
  by_answer : (counts : Counts) → o ≡ Ok counts → EndsWith o
  by-start : o ≡ Err refusals.Start → EndsWith o
  by-climb : o ≡ Err refusals.Climb → EndsWith o

ends_with : (n : ℕ) (o : Result Counts Refusal) (cells : List Float) → Delivers n o cells → EndsWith o
ends_with n (Ok counts) cells h = by_answer counts refl
ends_with n (Err refusal) cells (inl e) = by-start (ap Err e)
ends_with n (Err refusal) cells (inr e) = by-climb (ap Err e)

kernel-ends : (scaled : Bool) (a : Arguments) (length : ℕ) → EndsWith (kernel_by scaled a length).ending
unfolding kernel_by
kernel-ends scaled a length = ends_with (length / 2) _ _ (kernel-delivers scaled a.order a.z a.modulus (length / 2))

-- ---- the number of a call
counts-number : (c : Counts) → number_in (counts_answer c) ≡ 0
unfolding counts_answer answered_of
counts-number c = refl

-- with refusals 6 and 7 by their own words
later-by :
    (length : ℕ) (o : Result Counts Refusal) (cells : List Float) (b c : Bool) → b ≡ refuses refusals.Start o → c ≡ refuses refusals.Climb o → EndsWith o →
    number_given (verdict_of (check b refusals.Start ∷ check c refusals.Climb ∷ check (not (all_finite cells)) refusals.Overflow ∷ [])) ≡ number_in (concluded_of length (kernel_steps o cells)).answer
unfolding verdict_of verdict_from refused_if number_given kernel_steps concluded_of judged_of refused_outcome refused_of
later-by length o cells b c p q (by_answer counts e) = rw (p, q, e) (judged-number (all_finite cells) length (counts_answer counts) cells (counts-number counts))
later-by length o cells b c p q (by-start e) = rw (p, q, e)
later-by length o cells b c p q (by-climb e) = rw (p, q, e)

-- the numbers that K can give besides 0, in the order of the checks
pub listed : (scaled : Bool) (a : Arguments) (length : ℕ) → numbers_of (all_k_checks scaled a length) ≡ 1 ∷ 2 ∷ 3 ∷ 11 ∷ 12 ∷ 4 ∷ 6 ∷ 7 ∷ 8 ∷ []
unfolding numbers_of all_k_checks k_checks k_own_checks argument_checks length_checks finite_checks limit_checks kernel_checks
listed scaled a length = refl

-- an answer: the checks are passed, and the record and the cells are the kernel's
pub record AnsweredWhole (scaled : Bool) (a : Arguments) (length : ℕ) (o : Outcome) : Type 0 where
  pub passed : none_applies (k_checks a length) ≡ true
  pub counts : Counts
  pub kernel : (kernel_by scaled a length).ending ≡ Ok counts
  pub finite : all_finite (kernel_by scaled a length).cells ≡ true
  pub answer : o.answer ≡ counts_answer counts
  pub cells : o.cells ≡ (kernel_by scaled a length).cells

-- what the counts of an answer are, and the zeros before the count
pub record Counted (scaled : Bool) (a : Arguments) (length : ℕ) (o : Outcome) : Type 0 where
  pub rungs : rungs_in o.answer ≡ nearest_order a.order + length / 2 - 2
  pub backward : backward_in o.answer ≤ 256
  pub terms : longest_in o.answer ≡ terms_of (seed_of (ground_of a.order a.z a.modulus (length / 2)) scaled)
  pub count : ℕ
  pub zeros : zeros_in o.answer ≡ pos count
  pub few : count ≤ length / 2
  pub front : take (count * 2) o.cells ≡ replicate (count * 2) (of_bits binary64 0)

-- what steps that deliver have of the kernel
record Delivery (o : Result Counts Refusal) (l : List Float) (answer : Answer) (from : ℕ) (cells : List Float) : Type 0 where
  counts : Counts
  kernel : o ≡ Ok counts
  same_answer : answer ≡ counts_answer counts
  same-cells : cells ≡ l
  same-finished : drop from cells ≡ l

delivery : (o : Result Counts Refusal) (l : List Float) (answer : Answer) (from : ℕ) (cells : List Float) → kernel_steps o l ≡ Delivered answer from cells → Delivery o l answer from cells
unfolding kernel_steps
delivery (Ok c) l answer from cells e =
    let f : 0 ≡ from = cc in
    let g : l ≡ cells = cc in
    record { counts = c; kernel = refl; same_answer = cc; same-cells = sym g; same-finished = sym (ap (λ (n : ℕ). drop n cells) f) ∙ sym g }
delivery (Err r) l answer from cells e = absurd (let z : ◌≡◌ {A = ℕ} 0 1 = cc in omega arith)

module _ (scaled : Bool) (v re im : Float) (length : ℕ) where
  -- the number, exactly when, and no other than the list's
  pub numbers : Given (all_k_checks scaled (arguments_of v re im) length) (number_in (k_outcome scaled v re im length).answer)
  unfolding all_k_checks kernel_checks ground_by kernel_by k_outcome k_steps
  numbers =
      let a = arguments_of v re im in
      let k = kernel_by scaled a length in
      let g = ground_by a length in
      numbered (k_checks a length) (kernel_checks scaled a length) length (kernel_steps k.ending k.cells)
      (later-by length k.ending k.cells (start_refused g) (climb_refused g scaled)
      (start-exactly scaled a.order a.z a.modulus (length / 2)) (climb-exactly scaled a.order a.z a.modulus (length / 2)) (kernel-ends scaled a length))

  -- so no number but these
  pub admitted : T (is_one_of (number_in (k_outcome scaled v re im length).answer) (0 ∷ 1 ∷ 2 ∷ 3 ∷ 11 ∷ 12 ∷ 4 ∷ 6 ∷ 7 ∷ 8 ∷ []))
  admitted =
      let a = arguments_of v re im in
      none-or-listed (all_k_checks scaled a length) (number_in (k_outcome scaled v re im length).answer) (1 ∷ 2 ∷ 3 ∷ 11 ∷ 12 ∷ 4 ∷ 6 ∷ 7 ∷ 8 ∷ []) numbers (listed scaled a length)

  -- 3, 11 and 12 by the limit that was hit
  pub limits : let a = arguments_of v re im in HitsLimit length a.order a.z.re a.z.im (number_in (k_outcome scaled v re im length).answer)
  unfolding all_k_checks k_checks k_own_checks argument_checks kernel_checks length_checks finite_checks limit_checks numbers_of
  limits =
      let a = arguments_of v re im in
      hits-limit length a.order a.z.re a.z.im (k_own_checks a ++ kernel_checks scaled a length) (number_in (k_outcome scaled v re im length).answer) numbers refl refl refl

  whole_by : let a = arguments_of v re im in Ended (k_checks a length) length (k_steps scaled a length) →
      RefusedWhole length (k_outcome scaled v re im length) ⊎ AnsweredWhole scaled (arguments_of v re im) length (k_outcome scaled v re im length)
  unfolding k_outcome k_steps
  whole_by (refused r e) = inl (subst (RefusedWhole length) (sym e) (refused-facts length r))
  whole_by (answered answer from cells p s f e) =
      let k = kernel_by scaled (arguments_of v re im) length in
      let d = delivery k.ending k.cells answer from cells s in
      inr (record {
        passed = p;
        counts = d.counts;
        kernel = d.kernel;
        finite = sym (ap all_finite d.same-finished) ∙ f;
        answer = ap (λ (o : Outcome). o.answer) e ∙ d.same_answer;
        cells = ap (λ (o : Outcome). o.cells) e ∙ d.same-cells;
      })

  -- every call is the one or the other, and its number says which
  pub whole : RefusedWhole length (k_outcome scaled v re im length) ⊎ AnsweredWhole scaled (arguments_of v re im) length (k_outcome scaled v re im length)
  whole = let a = arguments_of v re im in whole_by (ends (k_checks a length) length (k_steps scaled a length))

  pub refused-whole : 0 < number_in (k_outcome scaled v re im length).answer → RefusedWhole length (k_outcome scaled v re im length)
  refused-whole h =
      elim whole [
        | inl r ↦ r
        | inr a ↦ absurd (let z : number_in (k_outcome scaled v re im length).answer ≡ 0 = ap number_in a.answer ∙ counts-number a.counts in omega arith)
      ]

  pub answered-whole : number_in (k_outcome scaled v re im length).answer ≡ 0 → AnsweredWhole scaled (arguments_of v re im) length (k_outcome scaled v re im length)
  answered-whole h =
      elim whole [
        | inl r ↦ absurd (let p = never-zero r.refusal in let q = r.number in omega arith)
        | inr a ↦ a
      ]

  delivered : (w : AnsweredWhole scaled (arguments_of v re im) length (k_outcome scaled v re im length)) → Delivers (length / 2) (Ok w.counts) (kernel_by scaled (arguments_of v re im) length).cells
  unfolding kernel_by
  delivered w = let a = arguments_of v re im in subst (λ (o : Result Counts Refusal). Delivers (length / 2) o (kernel_by scaled a length).cells) w.kernel (kernel-delivers scaled a.order a.z a.modulus (length / 2))

  -- an outcome has a value for each lent cell
  pub cells-length : length-of (k_outcome scaled v re im length).cells ≡ length
  cells-length =
      elim whole [
        | inl r ↦ ap length-of r.cells ∙ length-replicate length not_a_number
        | inr w ↦
            let l = lent length (k-passed (arguments_of v re im) length w.passed).lent in
            ap length-of w.cells ∙ (delivered w).1 ∙ omega arith
      ]

  -- r + n - 2 rungs in every answered call, which is none for r = 0 and n = 1
  pub answered-counts : number_in (k_outcome scaled v re im length).answer ≡ 0 → Counted scaled (arguments_of v re im) length (k_outcome scaled v re im length)
  unfolding kernel_by counts_answer answered_of
  answered-counts h =
      let a = arguments_of v re im in
      let w = answered-whole h in
      let l = lent length (k-passed a length w.passed).lent in
      let d = delivered w in
      let k = subst (Answers (nearest_order a.order + length / 2 - 2) (terms_of (seed_of (ground_of a.order a.z a.modulus (length / 2)) scaled))) w.kernel (kernel-answers scaled a.order a.z a.modulus (length / 2) (omega arith)) in
      record {
        rungs = ap rungs_in w.answer ∙ k.0;
        backward = subst (λ (x : Answer). backward_in x ≤ 256) (sym w.answer) k.1;
        terms = ap longest_in w.answer ∙ k.2;
        count = w.counts.zeros;
        zeros = ap zeros_in w.answer;
        few = d.0;
        front = ap (take (w.counts.zeros * 2)) w.cells ∙ d.2;
      }

  -- Temme's sum has met its own test by the term 18
  pub answered-terms : number_in (k_outcome scaled v re im length).answer ≡ 0 → longest_in (k_outcome scaled v re im length).answer ≤ 18
  answered-terms h =
      let a = arguments_of v re im in
      subst (λ (n : ℕ). n ≤ 18) (sym (answered-counts h).terms) (kernel-terms scaled a.order a.z a.modulus (length / 2))
