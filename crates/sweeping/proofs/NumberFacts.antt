-- The number of a sweep: each exactly when, in the order 13, 9, 1, 2, 3, 11, 12, and no other. Assumes nothing.
use mathlib.Core.Path.{◌≡◌, refl, subst}
use mathlib.Core.Bool.{Bool, true, false, not, cond, ◌&&◌, ◌||◌, not-not, and_assoc}
use mathlib.Core.List.{[], ◌∷◌}
use Prim.Native.Nat.{ℕ}
use lib.Dec.{T, ltb, eqb}
use Rattle.refusal.specs.declared.refusal.Refusal.TheVariants as refusals
use Rattle.call.specs.Limits.{order_inside}
use Rattle.call.specs.Checks.{Check, check, none_applies, numbers_of}
use Rattle.call.proofs.FirstFacts.{Exactly, is_one_of, Given, given, given-at, none-or-listed}
use Rattle.frame.specs.declared.asking.Asking.{Asking}
use Rattle.std.proofs.Common.{None, Some}
use Rattle.frame.specs.Asking.{asked_of}
use Rattle.sweeping.specs.declared.request.Request.{Request}
use Rattle.sweeping.specs.Points.{normalised_request, fields_with}
use Rattle.sweeping.specs.Checks.{steps_inside, count_inside, is_asked, frame_has, ends_finite, ends_signed, ends_sized, sweep_checks}
use Rattle.sweeping.specs.Sweep.{verdict_for, swept_of}

-- of the number m that a sweep of r gets, r's zeros made +0: each where all before it is kept and its own is not
pub record NumberOfSweep (r : Request) (m : ℕ) : Type 0 where
  pub given : Given (sweep_checks r) m
  pub steps : Exactly (m ≡ 13) (not (steps_inside r.steps))
  pub frame : Exactly (m ≡ 9) (steps_inside r.steps && not (frame_has r))
  pub count : Exactly (m ≡ 1) (steps_inside r.steps && (frame_has r && not (count_inside r.count)))
  pub finite : Exactly (m ≡ 2) (steps_inside r.steps && (frame_has r && (count_inside r.count && not (ends_finite r))))
  pub order : Exactly (m ≡ 3) (steps_inside r.steps && (frame_has r && (count_inside r.count && (ends_finite r && not (order_inside r.v)))))
  pub sign :
      Exactly (m ≡ 11) (steps_inside r.steps && (frame_has r && (count_inside r.count && (ends_finite r && (order_inside r.v && not (ends_signed r))))))
  pub size :
      Exactly (m ≡ 12)
      (steps_inside r.steps && (frame_has r && (count_inside r.count && (ends_finite r && (order_inside r.v && (ends_signed r && not (ends_sized r)))))))
  pub no_other : T (is_one_of m (0 ∷ 13 ∷ 9 ∷ 1 ∷ 2 ∷ 3 ∷ 11 ∷ 12 ∷ []))

-- ---- what is not refused is kept
module _ (r : Request) (m : ℕ) (g : Given (sweep_checks r) m) where
  abbrev c13 : Check
  c13 = check (not (steps_inside r.steps)) refusals.Steps

  abbrev c9 : Check
  c9 = check (not (frame_has r)) refusals.Malformed

  abbrev c1 : Check
  c1 = check (not (count_inside r.count)) refusals.Length

  abbrev c2 : Check
  c2 = check (not (ends_finite r)) refusals.NotFinite

  abbrev c3 : Check
  c3 = check (not (order_inside r.v)) refusals.Order

  abbrev c11 : Check
  c11 = check (not (ends_signed r)) refusals.Sign

  abbrev c12 : Check
  c12 = check (not (ends_sized r)) refusals.Size

  pub number_is : NumberOfSweep r m
  unfolding sweep_checks none_applies numbers_of
  number_is =
      let s = steps_inside r.steps in
      let f = frame_has r in
      let n = count_inside r.count in
      let e = ends_finite r in
      let o = order_inside r.v in
      let p = ends_signed r in
      let z = ends_sized r in
      let k9 : ((not (not s) && true) && not f) ≡ (s && not f) = simp (not-not, and_assoc) in
      let k1 : ((not (not s) && (not (not f) && true)) && not n) ≡ (s && (f && not n)) = simp (not-not, and_assoc) in
      let k2 : ((not (not s) && (not (not f) && (not (not n) && true))) && not e) ≡ (s && (f && (n && not e))) = simp (not-not, and_assoc) in
      let k3 : ((not (not s) && (not (not f) && (not (not n) && (not (not e) && true)))) && not o) ≡ (s && (f && (n && (e && not o)))) = simp (not-not, and_assoc) in
      let k11 : ((not (not s) && (not (not f) && (not (not n) && (not (not e) && (not (not o) && true))))) && not p) ≡ (s && (f && (n && (e && (o && not p))))) =
      simp (not-not, and_assoc) in
      let k12 :
      ((not (not s) && (not (not f) && (not (not n) && (not (not e) && (not (not o) && (not (not p) && true)))))) && not z) ≡ (s && (f && (n && (e && (o && (p && not z)))))) =
      simp (not-not, and_assoc) in
      record {
        given = g;
        steps = given-at [] c13 (c9 ∷ c1 ∷ c2 ∷ c3 ∷ c11 ∷ c12 ∷ []) m g refl refl;
        frame = subst (Exactly (m ≡ 9)) k9 (given-at (c13 ∷ []) c9 (c1 ∷ c2 ∷ c3 ∷ c11 ∷ c12 ∷ []) m g refl refl);
        count = subst (Exactly (m ≡ 1)) k1 (given-at (c13 ∷ c9 ∷ []) c1 (c2 ∷ c3 ∷ c11 ∷ c12 ∷ []) m g refl refl);
        finite = subst (Exactly (m ≡ 2)) k2 (given-at (c13 ∷ c9 ∷ c1 ∷ []) c2 (c3 ∷ c11 ∷ c12 ∷ []) m g refl refl);
        order = subst (Exactly (m ≡ 3)) k3 (given-at (c13 ∷ c9 ∷ c1 ∷ c2 ∷ []) c3 (c11 ∷ c12 ∷ []) m g refl refl);
        sign = subst (Exactly (m ≡ 11)) k11 (given-at (c13 ∷ c9 ∷ c1 ∷ c2 ∷ c3 ∷ []) c11 (c12 ∷ []) m g refl refl);
        size = subst (Exactly (m ≡ 12)) k12 (given-at (c13 ∷ c9 ∷ c1 ∷ c2 ∷ c3 ∷ c11 ∷ []) c12 [] m g refl refl);
        no_other = none-or-listed (sweep_checks r) m (13 ∷ 9 ∷ 1 ∷ 2 ∷ 3 ∷ 11 ∷ 12 ∷ []) g refl;
      }

pub listed : (r : Request) → numbers_of (sweep_checks r) ≡ 13 ∷ 9 ∷ 1 ∷ 2 ∷ 3 ∷ 11 ∷ 12 ∷ []
unfolding sweep_checks numbers_of
listed r = refl

pub number-of-sweep : (q : Request) → NumberOfSweep (normalised_request q) (swept_of q).number
unfolding swept_of verdict_for
number-of-sweep q = number_is (normalised_request q) (swept_of q).number (given (sweep_checks (normalised_request q)))

-- ---- the kinds and scalings that a frame has
by_tests : (s k i : Bool) (a b : Asking) → is_asked (cond s None (cond k (Some a) (cond i (Some b) None))) ≡ (not s && (k || i))
unfolding is_asked
by_tests true k i a b = refl
by_tests false true i a b = refl
by_tests false false true a b = refl
by_tests false false false a b = refl

pub frame-has : (r : Request) → frame_has r ≡ (not (ltb 1 r.scaling) && (eqb r.kind 1 || eqb r.kind 2))
unfolding frame_has asked_of fields_with
frame-has r = by_tests (ltb 1 r.scaling) (eqb r.kind 1) (eqb r.kind 2) _ _
